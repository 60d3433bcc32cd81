use Rattle.flow_calls.specs.declared.entry.Entry.TheVariants.{Passed}
use Rattle.port_state.proofs.ChangesTold.{changes_of-passed}
use Rattle.port_state.proofs.StateKept.{state_of-push}
use Rattle.port_state.proofs.laws.frames_change_nothing.Goals as goal

pub returns-clause-changes : goal.returns-clause-changes
returns-clause-changes c = changes_of-passed

pub returns-clause-state : goal.returns-clause-state
returns-clause-state c = λ limits h caller parcel verdict. state_of-push limits h (Passed caller parcel verdict)
