-- The Toeplitz hash, as in Microsoft's RSS.
use Rattle.std.specs.Prelude.{ℕ, ◌+◌, ◌-◌, ◌*◌, ◌/◌, ◌%◌, ◌^◌, List, [], ◌∷◌, flat_map}
use Rattle.std.specs.Int.Bits.{bit_xor}

-- the key of Microsoft's RSS hash verification, 40 bytes
unfoldable pub hash_key : ℕ
hash_key = 0x6d5a56da255b0ec24167253d43a38fb0d0ca2bcbae7b30b477cb2da38030f20c6a42b73bbeac01fa

-- the 32 bits of the key from bit i on, where bit 0 is the most significant
unfoldable pub window : ℕ → ℕ
window i = hash_key / 2 ^ (288 - i) % 2 ^ 32

-- the bits of a byte, the most significant first
abbrev pub bits_of : ℕ → List ℕ
bits_of byte = byte / 128 % 2 ∷ byte / 64 % 2 ∷ byte / 32 % 2 ∷ byte / 16 % 2 ∷ byte / 8 % 2 ∷ byte / 4 % 2 ∷ byte / 2 % 2 ∷ byte % 2 ∷ []

-- the exclusive or of the windows at the bits that are set, where the first bit is bit i of the input
unfoldable pub windows_at : ℕ → List ℕ → ℕ
windows_at i [] = 0
windows_at i (bit ∷ bits) = bit_xor (bit * window i) (windows_at (i + 1) bits)

-- the part that bytes have in the hash, where the first is byte n of the input
abbrev pub hash_at : ℕ → List ℕ → ℕ
hash_at n bytes = windows_at (8 * n) (flat_map bits_of bytes)

-- the hash of an input
abbrev pub hash_of : List ℕ → ℕ
hash_of input = hash_at 0 input
