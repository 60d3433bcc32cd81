use Rattle.std.proofs.Common.{rules, IsSome}
use Rattle.template_tables.specs.Slots.{freed}
use Rattle.template_tables.specs.TemplatesView.{table_of}
use Rattle.template_tests.proofs.Changed.{table_changed, table_there}
use Rattle.template_tests.proofs.slot_rows.a_freed_slot_is_left.Goals as goal

pub slots_left-requires-then-is_none : goal.slots_left-requires-then-is_none
slots_left-requires-then-is_none g c =
    let live : IsSome (table_of 1 c.settle.new.self) = search (rules, table_changed) in
    table_there 1 (freed 7) c.settle.new.self c.free_slot.new.self live c.free_slot.ensures.freed
