-- The hash of an input is the exclusive or of those of its parts.
use Rattle.std.proofs.Common.{◌≡◌, ℕ, ◌+◌, ◌*◌, ◌/◌, ◌%◌, ◌<◌, List, [], ◌∷◌, ◌++◌, length, flat_map, get_or, drop, refl, sym, ap, ◌∙◌, arith}
use Rattle.std.specs.Int.Bits.{bit_xor, xor_assoc}
use Rattle.std.proofs.lemmas.List.{drop_more}
use Rattle.flow_actions.specs.Hash.{bits_of, window, windows_at, hash_at}
use Rattle.flow_actions.specs.Halves.{half_bits, half_hash}

pub windows_at-append : (i : ℕ) (xs ys : List ℕ) → windows_at i (xs ++ ys) ≡ bit_xor (windows_at i xs) (windows_at (i + length xs) ys)
unfolding windows_at
windows_at-append i [] ys = ap (λ n. windows_at n ys) (omega arith)
windows_at-append i (x ∷ xs) ys =
    ap (bit_xor (x * window i)) (windows_at-append (i + 1) xs ys)
    ∙ (sym (xor_assoc (x * window i) (windows_at (i + 1) xs) (windows_at (i + 1 + length xs) ys))
    ∙ ap (λ n. bit_xor (bit_xor (x * window i) (windows_at (i + 1) xs)) (windows_at n ys)) (omega arith))

-- one byte and what stands behind it
pub hash_at-byte : (n byte : ℕ) (bytes : List ℕ) → hash_at n (byte ∷ bytes) ≡ bit_xor (windows_at (8 * n) (bits_of byte)) (hash_at (n + 1) bytes)
hash_at-byte n byte bytes =
    windows_at-append (8 * n) (bits_of byte) (flat_map bits_of bytes)
    ∙ ap (λ m. bit_xor (windows_at (8 * n) (bits_of byte)) (windows_at m (flat_map bits_of bytes))) (omega arith)

pub hash_at-append : (n : ℕ) (xs ys : List ℕ) → hash_at n (xs ++ ys) ≡ bit_xor (hash_at n xs) (hash_at (n + length xs) ys)
unfolding windows_at
hash_at-append n [] ys = ap (λ m. hash_at m ys) (omega arith)
hash_at-append n (x ∷ xs) ys =
    let one = windows_at (8 * n) (bits_of x) in
    hash_at-byte n x (xs ++ ys)
    ∙ (ap (bit_xor one) (hash_at-append (n + 1) xs ys)
    ∙ (sym (xor_assoc one (hash_at (n + 1) xs) (hash_at (n + 1 + length xs) ys))
    ∙ (ap (λ m. bit_xor (bit_xor one (hash_at (n + 1) xs)) (hash_at m ys)) (omega arith)
    ∙ ap (λ h. bit_xor h (hash_at (n + length (x ∷ xs)) ys)) (sym (hash_at-byte n x xs)))))

-- one more byte of a list
pub hash_at-step : (hash part n i : ℕ) (bytes : List ℕ) → i < length bytes → part ≡ windows_at (8 * n) (bits_of (get_or bytes i 0))
    → bit_xor (bit_xor hash part) (hash_at (n + 1) (drop (i + 1) bytes)) ≡ bit_xor hash (hash_at n (drop i bytes))
hash_at-step hash part n i bytes within is =
    let rest = hash_at (n + 1) (drop (i + 1) bytes) in
    xor_assoc hash part rest
    ∙ ap (bit_xor hash) (ap (λ p. bit_xor p rest) is ∙ (sym (hash_at-byte n (get_or bytes i 0) (drop (i + 1) bytes)) ∙ ap (hash_at n) (sym (drop_more bytes i 0 within))))

-- the bits of a half byte, as those of its byte
four : {a b c d e f g h : ℕ} → a ≡ b → c ≡ d → e ≡ f → g ≡ h → a ∷ c ∷ e ∷ g ∷ [] ≡ b ∷ d ∷ f ∷ h ∷ []
four {a} {b} {c} {d} {e} {f} {g} {h} p q r s =
    ap (λ x. x ∷ c ∷ e ∷ g ∷ []) p ∙ (ap (λ x. b ∷ x ∷ e ∷ g ∷ []) q ∙ (ap (λ x. b ∷ d ∷ x ∷ g ∷ []) r ∙ ap (λ x. b ∷ d ∷ f ∷ x ∷ []) s))

high_bits : (byte : ℕ) → half_bits (byte / 16) ≡ byte / 128 % 2 ∷ byte / 64 % 2 ∷ byte / 32 % 2 ∷ byte / 16 % 2 ∷ []
high_bits byte = four (omega arith) (omega arith) (omega arith) refl

low_bits : (byte : ℕ) → half_bits (byte % 16) ≡ byte / 8 % 2 ∷ byte / 4 % 2 ∷ byte / 2 % 2 ∷ byte % 2 ∷ []
low_bits byte = four (omega arith) (omega arith) (omega arith) (omega arith)

-- the parts of a byte's halves make the byte's
pub halves-make : (place byte : ℕ) → bit_xor (half_hash (2 * place) (byte / 16)) (half_hash (2 * place + 1) (byte % 16)) ≡ windows_at (8 * place) (bits_of byte)
unfolding half_hash
halves-make place byte =
    let high = byte / 128 % 2 ∷ byte / 64 % 2 ∷ byte / 32 % 2 ∷ byte / 16 % 2 ∷ [] in
    let low = byte / 8 % 2 ∷ byte / 4 % 2 ∷ byte / 2 % 2 ∷ byte % 2 ∷ [] in
    let first : half_hash (2 * place) (byte / 16) ≡ windows_at (8 * place) high =
    ap (λ n. windows_at n (half_bits (byte / 16))) (omega arith) ∙ ap (windows_at (8 * place)) (high_bits byte) in
    let second : half_hash (2 * place + 1) (byte % 16) ≡ windows_at (8 * place + 4) low =
    ap (λ n. windows_at n (half_bits (byte % 16))) (omega arith) ∙ ap (windows_at (8 * place + 4)) (low_bits byte) in
    ap (λ h. bit_xor h (half_hash (2 * place + 1) (byte % 16))) first
    ∙ (ap (bit_xor (windows_at (8 * place) high)) second
    ∙ sym (windows_at-append (8 * place) high low))
