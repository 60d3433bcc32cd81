use Rattle.std.proofs.Common.{ap, ◌∙◌, subst}
use Rattle.object_ids.specs.Ids.{id_for}
use Rattle.indirect_counters.specs.Refusals as shared_calls
use Rattle.indirect_counters.specs.Sound.{CanAdd}
use Rattle.port_state.specs.State.{objects}
use Rattle.port_state.specs.KeptState.{KeptState, state_in}
use Rattle.port_state.proofs.Objects.{objects-create, objects-id, CanAdd-objects}
use Rattle.port_state.proofs.state.State.create_fault.Goals as goal

pub returns-clause-fault : goal.returns-clause-fault
returns-clause-fault c =
    c.create_fault.ensures.first
    ∙ ap (λ (k : KeptState). shared_calls.create_fault c.args.limits.now.rxq k.shared c.args.id c.args.attr.now c.args.action.now) c.self.view_is
    ∙ objects-create c.args.self.now c.requires c.args.limits.now.rxq c.args.id c.args.attr.now c.args.action.now

pub returns-clause-free : goal.returns-clause-free
returns-clause-free c = λ none.
    let can = subst (λ (k : KeptState). CanAdd (id_for c.args.id k.shared) c.args.action.now k.shared) c.self.view_is (c.create_fault.ensures.clear none) in
    subst (λ id. CanAdd id c.args.action.now (objects (state_in c.args.self.now))) (objects-id c.args.self.now c.requires c.args.id)
    (CanAdd-objects c.args.self.now c.requires (id_for c.args.id c.args.self.now.shared) c.args.action.now can)
