-- Items of a pattern.
use Rattle.std.specs.Prelude.{None}
use Rattle.packet_headers.specs.declared.items.ItemKind.{ItemKind}
use Rattle.pattern_items.specs.declared.pattern.Item.{Item}

-- an item without numbers
abbrev pub any_item : ItemKind → Item
any_item kind = record { kind = kind; given = None; last = None; mask = None }
