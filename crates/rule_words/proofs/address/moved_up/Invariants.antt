use Rattle.std.proofs.Common.{◌≡◌, ◌+◌, ◌*◌, ◌-◌, ◌<◌, ◌^◌}
use Rattle.rule_words.proofs.address.moved_up.Given as goal

-- so many groups of 0 stand behind the number
abbrev pub invariant-loop : goal.invariant-loop
invariant-loop l =
    (l.moved ≡ l.value * 65536 ^ l.counter) × (l.moved < 65536 ^ (8 - l.groups + l.counter))
