-- Which of the callers of a port owns an entry.
use Rattle.std.specs.Prelude.{ℕ, suc, ◌==◌, cond, List, [], ◌∷◌}
use Rattle.flow_calls.specs.declared.caller.Caller.{Caller}

-- the place of a caller in a list of callers, or the list's length
abbrev pub place_of : ℕ → List Caller → ℕ
place_of who [] = 0
place_of who (c ∷ cs) = cond (c.0 == who) 0 (suc (place_of who cs))
