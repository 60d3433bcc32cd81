use Rattle.std.proofs.Common.{option_to_list}
use Rattle.flow_port.specs.Ports.{seats_in}
use Rattle.port_tests.specs.Asking.{IsReady}
use Rattle.port_tests.proofs.Readiness.{front_all}
use Rattle.port_tests.proofs.seats.take_seat.Goals as goal

pub returns-clause-ready : goal.returns-clause-ready
returns-clause-ready c =
    front_all (IsReady c.args.port.now) (seats_in c.args.seats.now) (seats_in c.pop.new.self) (option_to_list c.pop.result) c.pop.ensures.last c.requires.ready

pub returns-clause-list : goal.returns-clause-list
returns-clause-list c = (c.pop.ensures.list c.args.port.now c.requires.list, c.pop.ensures.limit)
