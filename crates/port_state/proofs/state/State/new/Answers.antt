use Rattle.std.proofs.Common.{ap, map}
use Rattle.port_state.specs.StateInside.{queue_of}
use Rattle.port_state.proofs.Opening.{kept-none}
use Rattle.port_state.proofs.state.State.new.Goals as goal

pub returns-clause-kept : goal.returns-clause-kept
returns-clause-kept c = kept-none 0 c.new-3.result c.new-2.result.entries (map queue_of c.new-4.result.items) c.new-2.ensures c.new-3.ensures (ap (map queue_of) c.new-4.ensures.items)
