use Rattle.std.proofs.Common.{◌≡◌, take}
use Rattle.history_text.specs.Forms.{form, holes}
use Rattle.history_text.proofs.form.first_hole.Given as goal

abbrev pub invariant-loop-place : goal.invariant-loop-place
invariant-loop-place l = holes (form (take l.place l.pattern)) ≡ 0
