-- How the code keeps a frame that is ready to be entered.
use Rattle.adapter.specs.declared.packed.Packed.TheInside.{Inside}
use Rattle.flow_calls.specs.declared.entry.Entry.{Entry}
use Rattle.adapter.specs.Kept.{entry_kept}

abbrev pub entry_packed : Inside → Entry
entry_packed p = entry_kept p.kept
