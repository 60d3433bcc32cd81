-- What became of the written file in a session, by its state before and behind it.
use Rattle.std.specs.Prelude.{◌≡◌, ℕ, true, List, [], Option, None, Some}
use Rattle.std.specs.Option.{option_map}
use Rattle.std.specs.Io.KnownBytes.{Appends}
use Rattle.io_edges.specs.Front.{TakesFront}
use Rattle.io_edges.specs.ShelfState.{WrittenState}

-- the written file once it is opened, when it is empty
abbrev pub opened_empty : WrittenState → WrittenState
opened_empty old = record old { asked = true; opened = true; taken = option_map (λ _. []) old.taken }

-- It is opened and empty, where a transmit file is named; else it isn't asked for.
abbrev pub IsAsOpened : Option (List ℕ) → WrittenState → WrittenState → Type 0
IsAsOpened None old new = new ≡ old
IsAsOpened (Some name) old new = new ≡ opened_empty old

-- it is asked for just where it is named, and was opened then
pub record IsOpened (old new : WrittenState) : Type 0 where
  pub asked : new.asked ≡ true
  pub opened : new.opened ≡ true
  pub openings : new.open_faults ≡ old.open_faults

abbrev pub WasOpened : Option (List ℕ) → WrittenState → WrittenState → Type 0
WasOpened None old new = new ≡ old
WasOpened (Some name) old new = IsOpened old new

-- since it was opened it took just these bytes, where it is named
abbrev pub TookJust : Option (List ℕ) → WrittenState → WrittenState → List ℕ → Type 0
TookJust None old new bytes = new ≡ old
TookJust (Some name) old new bytes = Appends (opened_empty old).taken new.taken bytes

-- it took just a front of them
abbrev pub TookFront : Option (List ℕ) → WrittenState → WrittenState → List ℕ → Type 0
TookFront None old new bytes = ⊥
TookFront (Some name) old new bytes = (sent : ℕ) × TakesFront (opened_empty old).taken new.taken bytes sent
