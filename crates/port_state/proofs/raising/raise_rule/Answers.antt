use Rattle.std.proofs.Common.{◌+◌, ◌≤◌, ◌++◌, ◌∷◌, [], sym, ap, ◌∙◌, subst, length, map, List, Option, arith, length-append}
use Rattle.std.specs.Option.{option_to_list}
use Rattle.flow_rules.specs.declared.counter.Counter.{Counter}
use Rattle.flow_rules.specs.Naming.{rule_at}
use Rattle.rules_in_effect.specs.Entries.{rule_in}
use Rattle.rules_in_effect.specs.RulesView.{RulesView}
use Rattle.indirect_counters.specs.Entries.{values_in_effect}
use Rattle.indirect_counters.specs.Room.{IndirectsView}
use Rattle.port_state.specs.Raising.{Raises, namings_up}
use Rattle.port_state.proofs.Rises.{Raises-then, Raises-none, step-named, naming-same, one-name}
use Rattle.port_state.proofs.raising.raise_rule.Goals.{in-Some, in_default}
use Rattle.port_state.proofs.raising.raise_rule.Goals as goal

pub loop-place-preserved : goal.loop-place-preserved
loop-place-preserved c =
    let r = c.args.rules.now.list in
    let s = c.args.shared.now.entries in
    let r1 = c.loop-place.rules.list in
    let s1 = c.loop-place.shared.entries in
    let i = c.loop-place.place in
    let bytes = c.args.bytes in
    let vals = values_in_effect s in
    let o = rule_at c.args.id (map rule_in r) in
    let inv = c.loop-place.invariant in
    let named = c.named_at.ensures.named ∙ naming-same r r1 s s1 (namings_up vals o i) bytes inv.0 c.args.id i in
    let next = step-named vals o i c.named_at.result (omega (arith, inv.2, c.loop-place-test.true)) named in
    let long : length (namings_up vals o (i + 1)) ≤ i + 1 = omega (arith, ap length next, length-append (namings_up vals o i) (option_to_list c.named_at.result), one-name c.named_at.result, inv.1) in
    let raised : Raises r s c.match-named_at.rules.list c.match-named_at.shared.entries (namings_up vals o i ++ option_to_list c.named_at.result) bytes = elim c.match-named_at.branch [
      | in-Some w ↦
          subst (λ (k : RulesView). Raises r s k.list c.match-named_at.shared.entries (namings_up vals o i ++ option_to_list c.named_at.result) bytes) (sym w.rules-is)
          (subst (λ (k : IndirectsView). Raises r s w.raise_one.new.rules.list k.entries (namings_up vals o i ++ option_to_list c.named_at.result) bytes) (sym w.shared-is)
          (subst (λ (n : Option Counter). Raises r s w.raise_one.new.rules.list w.raise_one.new.shared.entries (namings_up vals o i ++ option_to_list n) bytes) (sym w.in-Some.is)
          (Raises-then r r1 w.raise_one.new.rules.list s s1 w.raise_one.new.shared.entries (namings_up vals o i) (w.in-Some.counter ∷ []) bytes inv.0 w.raise_one.ensures)))
      | in_default w ↦
          subst (λ (k : RulesView). Raises r s k.list c.match-named_at.shared.entries (namings_up vals o i ++ option_to_list c.named_at.result) bytes) (sym w.rules-is)
          (subst (λ (k : IndirectsView). Raises r s r1 k.entries (namings_up vals o i ++ option_to_list c.named_at.result) bytes) (sym w.shared-is)
          (subst (λ (n : Option Counter). Raises r s r1 s1 (namings_up vals o i ++ option_to_list n) bytes) (sym w.in_default.is)
          (Raises-then r r1 r1 s s1 s1 (namings_up vals o i) [] bytes inv.0 (Raises-none r1 s1 bytes))))
    ] in
    (subst (λ (names : List Counter). Raises r s c.match-named_at.rules.list c.match-named_at.shared.entries names bytes) (sym next) raised, long, inv.2, inv.3)
