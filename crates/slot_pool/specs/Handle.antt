-- What a contract sees of handles.
use Rattle.std.specs.Prelude.{◌==◌, ◌&&◌, Bool}
use Rattle.slot_pool.specs.declared.handle.Handle.{Handle}

-- the test whether two handles are one
abbrev pub same_handle : Handle → Handle → Bool
same_handle a b = (a.place == b.place) && (a.number == b.number)
