-- What reading a source to its end says where it didn't give all bytes.
use Rattle.std.specs.Prelude.{◌≡◌, ℕ, ◌<◌, ◌≤◌, List, length, Option}
use Rattle.std.specs.Io.KnownBytes.{Consumes}
use Rattle.io_edges.specs.declared.to_end.ReadAll.{ReadAll}
use Rattle.io_edges.specs.declared.to_end.ReadAll.TheVariants.{ReadFault, TooLarge, NoMemory}
use Rattle.io_edges.specs.Faults.{Rose}

-- The bytes that the source gave: more than the limit at TooLarge alone. Only at ReadFault the count of faults rose.
abbrev pub IsWhyNotAll : Option (List ℕ) → Option (List ℕ) → ℕ → ℕ → ℕ → ReadAll → Type 0
IsWhyNotAll old new before now limit ReadFault = Rose before now × (bytes : List ℕ) × Consumes old new bytes × (length bytes ≤ limit)
IsWhyNotAll old new before now limit TooLarge = (now ≡ before) × (bytes : List ℕ) × Consumes old new bytes × (limit < length bytes)
IsWhyNotAll old new before now limit NoMemory = (now ≡ before) × (bytes : List ℕ) × Consumes old new bytes × (length bytes ≤ limit)

-- what a loop over a source has taken since it began
pub record Taken (old new : Option (List ℕ)) (before now : ℕ) (bytes : List ℕ) : Type 0 where
  pub consumed : Consumes old new bytes
  pub calm : now ≡ before
