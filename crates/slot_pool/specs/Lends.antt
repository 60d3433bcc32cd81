-- What a pool ends as, where a `&mut` to one of its values is returned.
use Rattle.std.specs.Prelude.{Option}
use Rattle.std.specs.Borrow.{Lends, LendsIf, Fml, RattleType, MutBor}
use Rattle.slot_pool.specs.Pool.{Pool, with_value}
use Rattle.slot_pool.specs.declared.handle.Handle.{Handle}
use Rattle.slot_pool.specs.contracts.pool.Pool.{the_row}

module _ (T : RattleType) (pool : MutBor (Pool T.Denot)) (handle : Handle) where
  -- once the borrow ends, the handle has the last value written through it, and at `None` the pool is as it was
  abbrev pub LendsValue : Option (MutBor T.Denot) → Fml
  LendsValue result = LendsIf (the_row T) T pool result (with_value pool.now handle) pool.now

  abbrev pub LendsLiving : MutBor T.Denot → Fml
  LendsLiving result = Lends (the_row T) T pool result (with_value pool.now handle)
