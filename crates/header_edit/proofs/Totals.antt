-- The total of the words of some bytes, and how a write of whole words changes it.
use Rattle.std.proofs.Common.{◌≡◌, ℕ, suc, ◌+◌, ◌%◌, ◌<◌, ◌≤◌, List, [], ◌∷◌, ◌++◌, length, take, drop, refl, sym, ap, ◌∙◌, arith, length-drop}
use Rattle.std.proofs.lemmas.List.{length-take-le, take-append-drop, drop-drop}
use Rattle.std.proofs.lemmas.List.Elements.{All-head, All-tail}
use Rattle.byteorder.specs.Endian.{big_from, big_bytes}
use Rattle.packet_headers.specs.Fields.{number_at}
use Rattle.header_edit.specs.Checksum.{words_of}
use Rattle.header_edit.specs.Frame.{bytes_at, put}
use Rattle.header_edit.specs.Shown.{AreBytes}
use Rattle.header_edit.proofs.Congruent.{total, AreWords}
use Rattle.header_edit.proofs.Numbers.{number_at-bytes}

-- the total of the words of these bytes
abbrev pub worth : List ℕ → ℕ
worth bytes = total (words_of bytes)

pub worth-append : (xs ys : List ℕ) → length xs % 2 ≡ 0 → worth (xs ++ ys) ≡ worth xs + worth ys
worth-append [] ys h = omega arith
worth-append (x ∷ []) ys h = absurd (omega arith)
worth-append (x ∷ y ∷ xs) ys h = let r = worth-append xs ys (omega arith) in omega arith

-- a write of whole words
pub worth-put : (p : ℕ) (part xs : List ℕ) → p % 2 ≡ 0 → length part % 2 ≡ 0 → p + length part ≤ length xs
    → worth (put p part xs) + worth (bytes_at p (length part) xs) ≡ worth xs + worth part
unfolding put
worth-put p part xs even whole room =
    let n = length part in
    let front = take p xs in
    let old = bytes_at p n xs in
    let rest = drop (p + n) xs in
    let front-len : length front ≡ p = length-take-le p xs (omega arith) in
    let old-len : length old ≡ n = length-take-le n (drop p xs) (omega (arith, length-drop p xs)) in
    let split : xs ≡ front ++ (old ++ rest) =
    sym (take-append-drop p xs) ∙ ap (λ ys. front ++ ys) (sym (take-append-drop n (drop p xs)) ∙ ap (λ ys. old ++ ys) (drop-drop n p xs)) in
    let a = worth-append front (part ++ rest) (omega arith) in
    let b = worth-append part rest whole in
    let c = ap worth split ∙ worth-append front (old ++ rest) (omega arith) in
    let d = worth-append old rest (omega arith) in
    omega arith

-- the worth of one word
worth-two : (xs : List ℕ) → length xs ≡ 2 → worth xs ≡ big_from 0 2 xs
worth-two [] h = absurd (omega arith)
worth-two (x ∷ []) h = absurd (omega arith)
worth-two (x ∷ y ∷ []) h = omega arith
worth-two (x ∷ y ∷ z ∷ xs) h = absurd (omega arith)

pub worth-word : (p : ℕ) (xs : List ℕ) → p + 2 ≤ length xs → worth (bytes_at p 2 xs) ≡ number_at p 2 xs
worth-word p xs h =
    worth-two (bytes_at p 2 xs) (length-take-le 2 (drop p xs) (omega (arith, length-drop p xs))) ∙ sym (number_at-bytes p 2 xs)

pub worth-big_bytes : (x : ℕ) → x < 65536 → worth (big_bytes 2 x) ≡ x
worth-big_bytes x h = omega arith

-- bytes with a first byte that isn't 0
pub worth-positive : (xs : List ℕ) → 0 < number_at 0 1 xs → 0 < worth xs
unfolding number_at
worth-positive [] h = absurd (omega arith)
worth-positive (x ∷ []) h = omega arith
worth-positive (x ∷ y ∷ xs) h = omega arith

pub AreWords-words_of : (xs : List ℕ) → AreBytes xs → AreWords (words_of xs)
AreWords-words_of [] h = tt
AreWords-words_of (x ∷ []) h = let a = All-head (λ b. b < 256) x [] h in (omega arith, tt)
AreWords-words_of (x ∷ y ∷ xs) h =
    let a = All-head (λ b. b < 256) x (y ∷ xs) h in
    let t = All-tail (λ b. b < 256) x (y ∷ xs) h in
    let b = All-head (λ b. b < 256) y xs t in
    (omega arith, AreWords-words_of xs (All-tail (λ b. b < 256) y xs t))

pub length-words_of : (xs ys : List ℕ) → length xs ≡ length ys → length (words_of xs) ≡ length (words_of ys)
length-words_of [] [] h = refl
length-words_of [] (y ∷ ys) h = absurd (omega arith)
length-words_of (x ∷ xs) [] h = absurd (omega arith)
length-words_of (x ∷ []) (y ∷ []) h = refl
length-words_of (x ∷ []) (y ∷ z ∷ ys) h = absurd (omega arith)
length-words_of (x ∷ w ∷ xs) (y ∷ []) h = absurd (omega arith)
length-words_of (x ∷ w ∷ xs) (y ∷ z ∷ ys) h = ap suc (length-words_of xs ys (omega arith))
