use Rattle.flow_port.specs.Ports.{seats_in}
use Rattle.port_tests.proofs.Readiness.{ready_new}
use Rattle.port_tests.proofs.seats.open_port.Goals as goal

pub returns-clause-ready : goal.returns-clause-ready
returns-clause-ready g c =
    ready_new c.in-Ok.port (seats_in c.in-Ok.seats) c.args.callers.now c.in-Ok.ensures.fresh c.in-Ok.ensures.callers c.requires.asks
