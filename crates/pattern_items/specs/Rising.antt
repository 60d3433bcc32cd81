-- An item's conditions are on fields of the field table in rising order, so there is at most one on each.
use Rattle.std.specs.Prelude.{ℕ, ◌+◌, ◌<◌, ◌≤◌, List, [], ◌∷◌}
use Rattle.pattern_items.specs.declared.test.Condition.{Condition}
use Rattle.pattern_items.specs.declared.test.ItemTest.{ItemTest}

abbrev pub Rise : ℕ → List Condition → Type 0
Rise from [] = Unit {0}
Rise from (c ∷ cs) = (from ≤ c.field) × (c.field < 6) × Rise (c.field + 1) cs

abbrev pub AllRise : List ItemTest → Type 0
AllRise [] = Unit {0}
AllRise (i ∷ is) = Rise 0 i.conditions.items × AllRise is
