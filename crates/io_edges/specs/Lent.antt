-- What a lent slot and a lent written file leave alone, so that their lender knows the shelf again behind the loan.
use Rattle.std.specs.Prelude.{◌≡◌, ℕ, ◌≤◌, List, Option, is_some, option_and_then}
use Rattle.std.specs.Io.KnownBytes.{prepend_known}
use Rattle.io_edges.specs.declared.shelf.Slot.{Slot}
use Rattle.io_edges.specs.ShelfState.{ShelfState, SlotState, slot_of, with_slot}

-- the bytes that a slot gave out, and behind them those that it has left, where both are told
abbrev pub all_bytes : SlotState → Option (List ℕ)
all_bytes s = option_and_then (λ given. prepend_known given s.left) s.given

-- The loan of a slot gave out some of the bytes that it had left, and counted its failed reads. All else is as before.
pub record KeepsSlot (slot : Slot) (old new : ShelfState) : Type 0 where
  pub others : new ≡ with_slot slot old (slot_of slot new)
  pub asked : (slot_of slot new).asked ≡ (slot_of slot old).asked
  pub opened : (slot_of slot new).opened ≡ (slot_of slot old).opened
  pub given_told : is_some (slot_of slot new).given ≡ is_some (slot_of slot old).given
  pub left_told : is_some (slot_of slot new).left ≡ is_some (slot_of slot old).left
  pub bytes : all_bytes (slot_of slot new) ≡ all_bytes (slot_of slot old)
  pub later : (slot_of slot old).faults ≤ (slot_of slot new).faults

-- The loan of the written file took bytes, and counted its failed writes. All else is as before.
pub record KeepsWritten (old new : ShelfState) : Type 0 where
  pub others : new ≡ record old { written = new.written }
  pub asked : new.written.asked ≡ old.written.asked
  pub opened : new.written.opened ≡ old.written.opened
  pub openings : new.written.open_faults ≡ old.written.open_faults
  pub told : is_some new.written.taken ≡ is_some old.written.taken
  pub later : old.written.faults ≤ new.written.faults
