use Rattle.std.proofs.Common.{◌≡◌, ℕ, ◌+◌, vec_len}
use Rattle.rules_in_effect.specs.IdIndex.{found}
use Rattle.rules_in_effect.proofs.index.settle.Given as goal

-- each id finds what it found, and those that were placed wait no more
abbrev pub invariant-loop-waits : goal.invariant-loop-waits
invariant-loop-waits l =
    ((id : ℕ) → found l.places.items l.waiting.items id ≡ found l.initial.places.items l.initial.waiting.items id) × (vec_len l.waiting + l._waits ≡ vec_len l.initial.waiting)
