use Rattle.std.proofs.Common.{◌≡◌, ◌≤◌, length, map}
use Rattle.flow_rules.specs.Naming.{rule_at}
use Rattle.rules_in_effect.specs.Entries.{rule_in}
use Rattle.indirect_counters.specs.Entries.{values_in_effect}
use Rattle.port_state.specs.Raising.{Raises, namings_up, actions_in}
use Rattle.port_state.proofs.raising.raise_rule.Given as goal

-- the counters that the actions so far name are raised
abbrev pub invariant-loop-place : goal.invariant-loop-place
invariant-loop-place l =
    Raises l.initial.rules.list l.initial.shared.entries l.rules.list l.shared.entries
    (namings_up (values_in_effect l.initial.shared.entries) (rule_at l.id (map rule_in l.initial.rules.list)) l.place) l.bytes
    × (length (namings_up (values_in_effect l.initial.shared.entries) (rule_at l.id (map rule_in l.initial.rules.list)) l.place) ≤ l.place)
    × (l.place-end ≡ length (actions_in (rule_at l.id (map rule_in l.initial.rules.list))))
    × (l.place-end ≤ 16)
