-- Which layers a pattern matches (rte_flow guide: matching pattern).
use Rattle.std.specs.Prelude.{Bool, true, false, ◌&&◌, not, if◌then◌else◌, map, filter, List, [], ◌∷◌}
use Rattle.packet_headers.specs.declared.items.ItemKind.{ItemKind}
use Rattle.packet_headers.specs.declared.items.LayerAt.{LayerAt}
use Rattle.packet_headers.specs.Key.{is_of}
use Rattle.pattern_items.specs.declared.pattern.Item.{Item}
use Rattle.pattern_items.specs.declared.pattern.Pattern.{Pattern}
use Rattle.pattern_items.specs.declared.test.ItemTest.{ItemTest}
use Rattle.pattern_items.specs.declared.test.Test.{Test}
use Rattle.pattern_items.specs.Conditions.{conditions_of, fits}
use Rattle.pattern_items.specs.Order.{is_vlan, is_vxlan}
use Rattle.pattern_items.specs.Faults.{is_void}

-- what an item asks
abbrev pub item_test : Item → ItemTest
item_test item = record { kind = item.kind; conditions = record { items = conditions_of item } }

abbrev pub is_asked : Item → Bool
is_asked item = not (is_void item.kind)

-- what each item but `Void` asks, in order
abbrev pub tests_of : List Item → List ItemTest
tests_of items = map item_test (filter is_asked items)

-- the test that a pattern is
abbrev pub test_of : Pattern → Test
test_of pattern = tests_of pattern.items.items

-- Items and layers go together. A layer of the item's kind must fit it. A VLAN layer where the item is of another kind
-- is skipped. Any other layer, or the end of the layers, is no match; the end of the items is a match.
abbrev pub goes_on : List ItemTest → List LayerAt → Bool
goes_on [] ls = true
goes_on (i ∷ is) [] = false
goes_on (i ∷ is) (l ∷ ls) =
    if is_of i.kind l then fits i.conditions.items l.layer.v && goes_on is ls
    else is_vlan l.layer.kind && goes_on (i ∷ is) ls

-- The match begins at the first layer of the first item's kind, in the outer headers or at the VXLAN header.
abbrev pub begins : List ItemTest → List LayerAt → Bool
begins [] ls = true
begins (i ∷ is) [] = false
begins (i ∷ is) (l ∷ ls) =
    if is_of i.kind l then goes_on (i ∷ is) (l ∷ ls)
    else not (is_vxlan l.layer.kind) && begins (i ∷ is) ls

-- the test accepts these layers
abbrev pub accepts : Test → List LayerAt → Bool
accepts test ls = begins test ls

-- the kinds of a test\'s items
abbrev pub kinds_of : Test → List ItemKind
kinds_of test = map (λ (i : ItemTest). i.kind) test
