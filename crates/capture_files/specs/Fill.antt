-- What the filling of a buffer does to its source and to the buffer.
use Rattle.std.specs.Prelude.{◌≡◌, ℕ, ◌<◌, ◌≤◌, List, length, take, Option, is_some}
use Rattle.std.specs.Io.KnownBytes.{Consumes, IsAtEnd}
use Rattle.io_edges.specs.Faults.{Rose}
use Rattle.capture_files.specs.declared.fill.Filled.{Filled}
use Rattle.capture_files.specs.declared.fill.Filled.TheVariants.{Whole, Cut, Fault}

-- The source gave the whole buffer; or its first bytes, and has none left; or it gave some bytes and failed.
abbrev pub FillsBytes : Option (List ℕ) → Option (List ℕ) → Filled → List ℕ → Type 0
FillsBytes old new Whole buf = Consumes old new buf
FillsBytes old new (Cut got) buf = (got < length buf) × Consumes old new (take got buf) × IsAtEnd new
FillsBytes old new Fault buf = (got : ℕ) × (got < length buf) × Consumes old new (take got buf)

-- the count of faults rose where the source failed, and stays elsewhere
abbrev pub FillsCause : ℕ → ℕ → Filled → Type 0
FillsCause before now Whole = now ≡ before
FillsCause before now (Cut got) = now ≡ before
FillsCause before now Fault = Rose before now

pub record Fills (old new : Option (List ℕ)) (before now : ℕ) (filled : Filled) (buf : List ℕ) : Type 0 where
  pub bytes : FillsBytes old new filled buf
  pub told : is_some new ≡ is_some old
  pub later : before ≤ now
  pub cause : FillsCause before now filled
