-- A pattern of which just the kinds and `last` are kept: its faults as a pattern are those of a template. Contracts of the crate's
-- own functions alone speak of it.
use Rattle.std.specs.Prelude.{None}
use Rattle.pattern_items.specs.declared.fault.ItemFault.{ItemFault}
use Rattle.pattern_items.specs.declared.fault.ItemFault.TheVariants as items
use Rattle.pattern_items.specs.declared.pattern.Item.{Item}
use Rattle.flow_rules.specs.declared.fault.Cause.TheVariants as causes
use Rattle.flow_rules.specs.declared.fault.Fault.{Fault}

abbrev pub bare : Item → Item
bare item = record { kind = item.kind; given = None; last = item.last; mask = None }

-- an item that has `last` has no spec here, and no range is below its beginning
abbrev pub template_fault : ItemFault → Fault
template_fault items.TooMany = record { cause = causes.TooManyItems; at = 0 }
template_fault (items.Order place) = record { cause = causes.ItemOrder; at = place }
template_fault (items.SpecMissing place) = record { cause = causes.LastInTemplate; at = place }
template_fault (items.LastBelow place) = record { cause = causes.LastInTemplate; at = place }
