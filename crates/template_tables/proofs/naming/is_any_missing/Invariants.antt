-- None of the ids before this one is missing.
use Rattle.std.proofs.Common.{◌≡◌, drop}
use Rattle.template_tables.specs.Refusals.{is_any_missing}
use Rattle.template_tables.proofs.naming.is_any_missing.Given as goal

abbrev pub invariant-loop-id : goal.invariant-loop-id
invariant-loop-id g l = is_any_missing l.objects.entries (drop l.id-index l.ids) ≡ is_any_missing l.objects.entries l.ids
