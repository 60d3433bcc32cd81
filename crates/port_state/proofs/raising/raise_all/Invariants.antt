use Rattle.std.proofs.Common.{◌≡◌, ◌≤◌, ◌*◌, length, map, flat_map, take}
use Rattle.flow_rules.specs.Naming.{rule_at, namings_of}
use Rattle.rules_in_effect.specs.Entries.{rule_in}
use Rattle.indirect_counters.specs.Entries.{values_in_effect}
use Rattle.port_state.specs.Raising.{Raises}
use Rattle.port_state.proofs.raising.raise_all.Given as goal

-- the counters that the rules so far name are raised
abbrev pub invariant-loop-place : goal.invariant-loop-place
invariant-loop-place l =
    let names = flat_map (λ id. namings_of (values_in_effect l.initial.shared.entries) (rule_at id (map rule_in l.initial.rules.list))) (take l.place l.path) in
    Raises l.initial.rules.list l.initial.shared.entries l.rules.list l.shared.entries names l.bytes × (length names ≤ 16 * l.place) × (l.place-end ≡ length l.path)
