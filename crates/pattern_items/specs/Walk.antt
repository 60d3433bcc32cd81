-- The match taken one layer at a time. All that is kept from layer to layer is how many items have met theirs.
use Rattle.std.specs.Prelude.{ℕ, ◌+◌, Bool, false, not, nat_eq, if◌then◌else◌, length, List, [], ◌∷◌, Option, None, Some}
use Rattle.std.specs.List.{slice_get}
use Rattle.packet_headers.specs.declared.items.ItemKind.{ItemKind}
use Rattle.packet_headers.specs.declared.items.LayerAt.{LayerAt}
use Rattle.pattern_items.specs.declared.test.ItemTest.{ItemTest}
use Rattle.pattern_items.specs.Conditions.{fits}
use Rattle.pattern_items.specs.Order.{is_vlan, is_vxlan}
use Rattle.packet_headers.specs.Key.{is_of}

-- A walk over layers, whatever it gathers on its way: what a step makes of the way at one layer, or None where it comes
-- to nothing.
module _ {Way : Type 0} where
  abbrev pub walk_by : (Way → LayerAt → Option Way) → Option Way → List LayerAt → Option Way
  walk_by step None ls = None
  walk_by step (Some way) [] = Some way
  walk_by step (Some way) (l ∷ ls) = walk_by step (step way l) ls

-- a layer of another kind than the item at hand: in front of the first item's layer all but VXLAN is passed over,
-- behind it VLAN alone
abbrev pub passes : ℕ → ItemKind → Bool
passes met k = if nat_eq met 0 then not (is_vxlan k) else is_vlan k

-- how many items are met behind a layer, where the walk goes on there, and an item is at hand
abbrev pub meet : ItemTest → ℕ → LayerAt → Option ℕ
meet i met l =
    if is_of i.kind l then (if fits i.conditions.items l.layer.v then Some (met + 1) else None)
    else (if passes met l.layer.kind then Some met else None)

abbrev pub meet_any : Option ItemTest → ℕ → LayerAt → Option ℕ
meet_any None met l = Some met
meet_any (Some i) met l = meet i met l

-- where all items are met the walk goes on to the end
abbrev pub step : List ItemTest → ℕ → LayerAt → Option ℕ
step items met l = meet_any (slice_get items met) met l

abbrev pub walk : List ItemTest → Option ℕ → List LayerAt → Option ℕ
walk items met ls = walk_by (step items) met ls

-- all items are met
abbrev pub all_met : List ItemTest → Option ℕ → Bool
all_met items None = false
all_met items (Some met) = nat_eq met (length items)
