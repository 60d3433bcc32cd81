use Rattle.std.proofs.Common.{arith}
use Rattle.port_tests.proofs.Readiness.{all_handed_in}
use Rattle.port_tests.proofs.asked.a_port_without_a_call_has_the_history_that_it_was_made_with.Goals as goal

pub close-adapter-requires : goal.close-adapter-requires
close-adapter-requires g c =
    all_handed_in c.open_port-port.result.0 c.open_port-port.result.1 1 (omega arith) c.open_port-port.ensures.count c.open_port-port.ensures.ready
