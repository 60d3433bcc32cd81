use Rattle.std.proofs.Common.{◌≡◌, take, count_by}
use Rattle.history_text.specs.Pulled.{is_outcome}
use Rattle.history_text.proofs.pulled.count.Given as goal

-- the results so far that ended so
abbrev pub invariant-loop-place : goal.invariant-loop-place
invariant-loop-place l = l.count ≡ count_by (is_outcome l.ok) (take l.place l.outcomes)
