use Rattle.std.proofs.Common.{◌≡◌, ◌∷◌, sym, subst, ap, ◌∙◌}
use Rattle.flow_rules.specs.RuleView.{RuleView}
use Rattle.flow_rules.specs.Faults.{first}
use Rattle.port_state.specs.declared.held.Held.{Held}
use Rattle.port_state.specs.declared.held.Held.TheVariants as held
use Rattle.port_state.specs.Effect.{CanHold}
use Rattle.port_state.specs.Kept.{AreKeptFor}
use Rattle.port_state.specs.KeptState.{KeptState, state_in}
use Rattle.port_state.specs.State.{all_held}
use Rattle.port_state.specs.StateInside.{HaveSettled}
use Rattle.port_state.proofs.Objects.{CanAdd-entries}
use Rattle.port_state.proofs.TemplatesJudged.{slots-left, table-there}
use Rattle.port_state.proofs.state.State.admit.Goals as goal

can-be : (k : KeptState) (op op' : Held) → op ≡ op' → CanHold (state_in k) op → CanHold (state_in k) op'
can-be k op op' is can = subst (CanHold (state_in k)) is can

pub take_slot-requires-clause-there : goal.take_slot-requires-clause-there
take_slot-requires-clause-there c =
    table-there c.args.self.now c.in-RuleCreated.table
    ∙ (can-be c.args.self.now c.args.op.now (held.RuleCreated c.in-RuleCreated.rule c.in-RuleCreated.table) c.in-RuleCreated.is c.requires.can).2

pub take_slot-requires-clause-free : goal.take_slot-requires-clause-free
take_slot-requires-clause-free c =
    let can = can-be c.args.self.now c.args.op.now (held.RuleCreated c.in-RuleCreated.rule c.in-RuleCreated.table) c.in-RuleCreated.is c.requires.can in
    ap first (slots-left c.args.self.now (subst (λ (k : KeptState). HaveSettled (state_in k).rules k.templates) c.self.view_is c.self.invariant.slots) c.requires.kept c.in-RuleCreated.table) ∙ can.3

pub hold_shared-requires-clause-free : goal.hold_shared-requires-clause-free
hold_shared-requires-clause-free c =
    let can = can-be c.args.self.now c.args.op.now (held.SharedCreated c.in-SharedCreated.id c.in-SharedCreated.action) c.in-SharedCreated.is c.requires.can in
    CanAdd-entries c.args.self.now c.requires.kept c.in-SharedCreated.id c.in-SharedCreated.action can.0

pub returns-in-RuleCreated-clause-kept : goal.returns-in-RuleCreated-clause-kept
returns-in-RuleCreated-clause-kept c =
    subst (λ (op : Held). AreKeptFor c.take_slot.new.self.ids c.take_slot.new.self.templates c.take_slot.new.self.shared (op ∷ all_held (state_in c.args.self.now))) (sym c.in-RuleCreated.is)
    (c.take_slot.ensures.kept c.in-RuleCreated.rule (sym (c.id.ensures ∙ ap (λ (r : RuleView). r.id) c.get.ensures)))
