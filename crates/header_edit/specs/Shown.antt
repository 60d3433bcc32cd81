-- Layers that show the bytes of a frame.
use Rattle.std.specs.Prelude.{◌≡◌, ℕ, ◌<◌, Bool, List, drop, All}
use Rattle.packet_headers.specs.declared.items.LayerAt.{LayerAt}
use Rattle.packet_headers.specs.Layers.{header}

abbrev pub AreBytes : List ℕ → Type 0
AreBytes frame = All (λ b. b < 256) frame

-- the numbers of a layer are those of a header of its kind at its offset. Whether a VLAN layer
-- follows stands in no byte of the header.
abbrev pub Shows : List ℕ → LayerAt → Type 0
Shows frame l = (tag_follows : Bool) × (l ≡ header l.layer.kind l.offset tag_follows (drop l.offset frame))

-- each layer shows the frame's bytes
abbrev pub AllShow : List ℕ → List LayerAt → Type 0
AllShow frame ls = All (Shows frame) ls
