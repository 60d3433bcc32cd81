-- The Internet checksum: one's complement arithmetic on words of 16 bits (RFC 1071), and how a
-- checksum follows a change of a word that it covers (RFC 1624).
use Rattle.std.specs.Prelude.{ℕ, ◌+◌, ◌-◌, ◌*◌, ◌/◌, ◌%◌, ◌==◌, if◌then◌else◌, List, [], ◌∷◌, fold}
use Rattle.header_edit.specs.declared.sums.Zero.{Zero}
use Rattle.header_edit.specs.declared.sums.Zero.TheVariants as zeros

-- one's complement addition: the carry out of the low 16 bits is added to them
unfoldable pub ones_add : ℕ → ℕ → ℕ
ones_add a b = (a + b) % 65536 + (a + b) / 65536

-- the one's complement of a word
abbrev pub ones_not : ℕ → ℕ
ones_not a = 65535 - a

-- the words of these bytes, the high byte first; an odd last byte has 0 behind it
abbrev pub words_of : List ℕ → List ℕ
words_of [] = []
words_of (high ∷ []) = (high * 256) ∷ []
words_of (high ∷ low ∷ rest) = (high * 256 + low) ∷ words_of rest

-- the one's complement sum of the words of these bytes
abbrev pub ones_sum : List ℕ → ℕ
ones_sum bytes = fold ones_add 0 (words_of bytes)

-- a checksum after one word that it covers was `old` and is `new`
unfoldable pub mended_word : ℕ → ℕ → ℕ → ℕ
mended_word checksum old new =
    if old == new then checksum else ones_not (ones_add (ones_add (ones_not checksum) (ones_not old)) new)

-- a checksum after these words that it covers were `old` and are `new`, word after word
abbrev pub mended : ℕ → List ℕ → List ℕ → ℕ
mended checksum [] new = checksum
mended checksum (m ∷ old) [] = checksum
mended checksum (m ∷ old) (n ∷ new) = mended (mended_word checksum m n) old new

-- a checksum of UDP that was made is never written as 0
abbrev pub never_zero : ℕ → ℕ
never_zero checksum = if checksum == 0 then 65535 else checksum

-- the same of UDP, where a checksum of 0 says that none was made
unfoldable pub mended_udp : ℕ → List ℕ → List ℕ → ℕ
mended_udp checksum old new = if checksum == 0 then 0 else never_zero (mended checksum old new)

-- a checksum after words that it covers changed, by what 0 says there
abbrev pub mended_as : Zero → ℕ → List ℕ → List ℕ → ℕ
mended_as zeros.IsASum checksum old new = mended checksum old new
mended_as zeros.SaysNone checksum old new = mended_udp checksum old new
