-- The bytes of a frame behind its walk: each edit of the walk is done on the layers and on the bytes, one behind the other.
use Rattle.std.specs.Prelude.{◌≡◌, ℕ, List, fold}
use Rattle.packet_headers.specs.declared.items.LayerAt.{LayerAt}
use Rattle.packet_headers.specs.declared.edits.Edit.{Edit}
use Rattle.header_edit.specs.Layers.{edit_layers}
use Rattle.header_edit.specs.Frame.{edit_bytes}
use Rattle.flow_rules.specs.Walk.{Flows, walk}

-- a frame: its layers and its bytes
pub record Frame : Type 0 where
  pub layers : List LayerAt
  pub bytes : List ℕ

abbrev pub frame_at : List LayerAt → List ℕ → Frame
frame_at layers bytes = record { layers = layers; bytes = bytes }

abbrev pub edited : Frame → Edit → Frame
edited frame edit = record { layers = edit_layers edit frame.layers; bytes = edit_bytes edit frame.layers frame.bytes }

-- the bytes of a frame of these layers, behind the edits of its walk
unfoldable pub rewritten : Flows → List LayerAt → List ℕ → List ℕ
rewritten flows layers bytes = (fold edited (frame_at layers bytes) (walk flows layers).edits).bytes

-- the layers that the edits leave are those with which the walk ended
abbrev pub AreWalked : Flows → List LayerAt → List ℕ → Type 0
AreWalked flows layers bytes = (fold edited (frame_at layers bytes) (walk flows layers).edits).layers ≡ (walk flows layers).layers
