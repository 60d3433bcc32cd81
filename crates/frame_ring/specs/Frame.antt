-- A frame: what contracts see of a buffer.
use Rattle.std.specs.Prelude.{ℕ, Bool, List, ◌++◌, length, take, drop}

pub record Frame : Type 0 where
  pub number : ℕ
  pub len : ℕ
  pub wire_len : ℕ
  pub seconds : ℕ
  pub part : ℕ
  pub nano : Bool
  pub bytes : List ℕ

-- The frame with other bytes; a list of another length is cut or filled with the old ones
abbrev pub with_bytes : Frame → List ℕ → Frame
with_bytes f bytes = record f { bytes = take (length f.bytes) (bytes ++ drop (length bytes) f.bytes) }
