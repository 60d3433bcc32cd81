-- Frames that are a function of their numbers.
use Rattle.std.specs.Prelude.{ℕ, ◌+◌, ◌%◌, List, [], ◌∷◌, map, length, slice_index_or}
use Rattle.packet_headers.specs.declared.items.LayerAt.{LayerAt}
use Rattle.flow_calls.specs.declared.parcel.Parcel.{Parcel}

-- the headers of a frame without headers
abbrev pub no_key : List LayerAt
no_key = []

-- the keys come in turn
abbrev pub key_of : List (List LayerAt) → ℕ → List LayerAt
key_of [] number = no_key
key_of (key ∷ keys) number = slice_index_or (key ∷ keys) (number % length (key ∷ keys)) no_key

-- the frame of a number
abbrev pub frame_of : List (List LayerAt) → ℕ → Parcel
frame_of keys number = record { number = number; key = key_of keys number; len = 60 + number % 1000 }

abbrev pub numbers : List Parcel → List ℕ
numbers parcels = map (λ p. p.number) parcels
