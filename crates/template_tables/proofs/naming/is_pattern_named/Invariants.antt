-- None of the tables before this one names the template.
use Rattle.std.proofs.Common.{◌≡◌, drop}
use Rattle.std.specs.List.{list_any}
use Rattle.std.specs.Map.{values_of}
use Rattle.template_tables.specs.Refusals.{names_pattern}
use Rattle.template_tables.proofs.naming.is_pattern_named.Given as goal

abbrev pub invariant-loop-place : goal.invariant-loop-place
invariant-loop-place l = list_any (names_pattern l.id) (drop l.place (values_of l.tables.entries)) ≡ list_any (names_pattern l.id) (values_of l.tables.entries)
