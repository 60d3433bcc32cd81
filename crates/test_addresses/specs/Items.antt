-- Items that ask for an address.
use Rattle.std.specs.Prelude.{ℕ, Some, None, [], ◌∷◌}
use Rattle.packet_headers.specs.declared.items.ItemKind.TheVariants as item
use Rattle.pattern_items.specs.declared.pattern.Item.{Item}

-- `ipv4 dst is` the address: all bits of the fifth field are compared
abbrev pub for_address : ℕ → Item
for_address address = record {
  kind = item.Ipv4;
  given = Some (record { v = 0 ∷ 0 ∷ 0 ∷ 0 ∷ address ∷ 0 ∷ [] });
  last = None;
  mask = Some (record { v = 0 ∷ 0 ∷ 0 ∷ 0 ∷ 4294967295 ∷ 0 ∷ [] });
}
