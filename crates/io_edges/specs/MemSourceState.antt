-- What is told of a source in memory.
use Rattle.std.proofs.Common.{◌≡◌, ℕ, ◌++◌, refl, ◌∙◌}
use Rattle.io_edges.specs.Reading.{Reading}

-- The bytes that it gave and has left, with its fault and count, and how many bytes it gives in one call at most.
pub record MemSourceState : Type 0 where
  pub reading : Reading
  pub chunk : ℕ

-- No read changes what a source was made with: all its bytes, and its chunk.
pub record KeepsBytes (old new : MemSourceState) : Type 0 where
  pub bytes : new.reading.given ++ new.reading.left ≡ old.reading.given ++ old.reading.left
  pub chunk : new.chunk ≡ old.chunk

pub KeepsBytes-none : (s : MemSourceState) → KeepsBytes s s
KeepsBytes-none s = record { bytes = refl; chunk = refl }

pub KeepsBytes-more : (s t u : MemSourceState) → KeepsBytes s t → KeepsBytes t u → KeepsBytes s u
KeepsBytes-more s t u p q = record { bytes = q.bytes ∙ p.bytes; chunk = q.chunk ∙ p.chunk }
