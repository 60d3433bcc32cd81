use Rattle.std.proofs.Common.{◌≡◌, [], ◌∷◌, None, refl, sym, ap, ◌∙◌, subst}
use Rattle.std.proofs.lemmas.List.{map-append}
use Rattle.flow_rules.specs.declared.change.Change.TheVariants as changes
use Rattle.flow_rules.specs.Changes.{changed}
use Rattle.flow_rules.specs.RuleView.{RuleView}
use Rattle.flow_rules.specs.Walk.{Flows}
use Rattle.port_state.specs.declared.effect.Effect.{Effect}
use Rattle.port_state.specs.declared.effect.RuleEffect.{RuleEffect}
use Rattle.port_state.specs.declared.effect.RuleEffect.TheVariants as rules
use Rattle.port_state.specs.Counters.{carried, is_there, while_there}
use Rattle.port_state.specs.Effect.{AreRulesDue, IsDue, change_by, changes_done, rules_done}
use Rattle.port_state.specs.KeptState.{count_in, state_in}
use Rattle.port_state.specs.State.{State, flows_of, rule_in}
use Rattle.port_state.proofs.FlowsBehind.{map-without}
use Rattle.port_state.proofs.state.State.carry_out.Goals as goal

-- packets see a change of rules, or of what they share, as it is told
flows-done : (s : State) (effect : RuleEffect) → AreRulesDue s effect → flows_of (rules_done s effect) ≡ changed (flows_of s) (change_by effect)
flows-done s (rules.Created rule told) due =
    ap (λ list. record { rules = list; shared = s.shared; isolated = s.isolated; rxq = s.rxq }) (map-append rule_in s.rules (record { rule = rule; table = None } ∷ []))
    ∙ ap (λ (r : RuleView). changed (flows_of s) (changes.Added r)) (sym due.2)
flows-done s (rules.Destroyed id) due = ap (λ list. record { rules = list; shared = s.shared; isolated = s.isolated; rxq = s.rxq }) (map-without id s.rules)
flows-done s rules.Flushed due = refl
flows-done s (rules.SharedCreated id action) due = refl
flows-done s (rules.SharedUpdated id action) due = refl
flows-done s (rules.SharedDestroyed id) due = refl
flows-done s (rules.Isolated on) due = refl

pub returns-in-Rules-clause-counts : goal.returns-in-Rules-clause-counts
returns-in-Rules-clause-counts c = λ counter.
    let s = state_in c.args.self.now in
    let n = count_in c.args.self.now counter in
    let due = subst (IsDue s) c.in-Rules.is c.requires.due in
    c.change_rules-change.ensures.counts counter
    ∙ ap (λ (f : Flows). while_there (is_there counter f) n) (ap flows_of c.change_rules-change.ensures.state ∙ flows-done s c.in-Rules.effect due)
    ∙ sym (ap (λ (effect : Effect). carried counter (flows_of s) (changes_done s effect) n) c.in-Rules.is)
