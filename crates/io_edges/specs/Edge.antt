-- What one read and one write do to the bytes that are told.
use Rattle.std.specs.Prelude.{◌≡◌, ℕ, ◌<◌, ◌≤◌, List, length, Option, Result, IfOk, is_some}
use Rattle.std.specs.Io.KnownBytes.{ReadConsumes, WriteAppends}

-- a read gave the first of the bytes that were left, and nothing where it failed
pub record Reads {E : Type 0} (old new : Option (List ℕ)) (result : Result ℕ E) (buf : List ℕ) : Type 0 where
  pub bytes : ReadConsumes old new result buf
  pub bound : IfOk result (λ n. n ≤ length buf)
  pub told : is_some new ≡ is_some old

-- a write took the first of its piece, at least one byte, and nothing where it failed
pub record Writes {E : Type 0} (old new : Option (List ℕ)) (result : Result ℕ E) (piece : List ℕ) : Type 0 where
  pub bytes : WriteAppends old new result piece
  pub some_byte : IfOk result (λ n. 0 < n)
  pub bound : IfOk result (λ n. n ≤ length piece)
  pub told : is_some new ≡ is_some old
