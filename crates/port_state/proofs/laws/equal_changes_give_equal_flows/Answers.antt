use Rattle.port_state.proofs.ChangesTold.{flows_of-changes, flows_of-equal}
use Rattle.port_state.proofs.laws.equal_changes_give_equal_flows.Goals as goal

pub returns-clause-follows : goal.returns-clause-follows
returns-clause-follows c = flows_of-changes

pub returns-clause-equal : goal.returns-clause-equal
returns-clause-equal c = flows_of-equal
