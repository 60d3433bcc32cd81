use Rattle.std.proofs.Common.{◌≡◌, ◌<◌, ◌≤◌, ◌^◌, length, drop}
use Rattle.rule_words.specs.Number.{number_from}
use Rattle.rule_words.specs.Address.{pieces, group_of, factor_of, most_groups, number_of_groups}
use Rattle.rule_words.proofs.address.read_groups.Given as goal

-- the groups that are left, behind the value so far, make the number
abbrev pub invariant-loop-group : goal.invariant-loop-group
invariant-loop-group l =
    (l.count ≡ length l.yielded) × (l.count ≤ most_groups l.address) × (l.value < factor_of l.address ^ l.count)
    × (number_from (group_of l.address) (factor_of l.address) l.value (drop l.count (pieces l.address l.text))
    ≡ number_of_groups l.address (pieces l.address l.text))
