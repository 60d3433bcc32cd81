-- Numbers read out of a frame, before and after a write.
use Rattle.std.proofs.Common.{◌≡◌, ℕ, ◌+◌, ◌*◌, ◌^◌, ◌<◌, ◌≤◌, ◌⊎◌, inl, inr, List, [], length, get_or, slice_index, drop, sym, ap, ◌∙◌, arith}
use Rattle.std.proofs.lemmas.Bool.{cases_lt}
use Rattle.std.proofs.lemmas.List.{get_or-drop, get_or_past, drop-drop, append-nil}
use Rattle.std.proofs.Math.Nat.{mod-eq_of_lt}
use Rattle.byteorder.specs.Endian.{big_from, big_bytes}
use Rattle.byteorder.specs.Numbers.{big_from-take, big_from-bytes, big_from-lt, length-bytes_high_first}
use Rattle.packet_headers.specs.Fields.{number_at}
use Rattle.header_edit.specs.Frame.{bytes_at, put}
use Rattle.header_edit.specs.Shown.{AreBytes}
use Rattle.header_edit.proofs.Puts.{bytes_at-put_apart, bytes_at-put_same}

-- a number is that of its bytes
pub number_at-bytes : (p n : ℕ) (frame : List ℕ) → number_at p n frame ≡ big_from 0 n (bytes_at p n frame)
unfolding number_at
number_at-bytes p n frame = sym (big_from-take 0 n n (drop p frame) (omega arith))

-- a number by its place in the frame, and by that in a header
pub number_at-drop : (o p n : ℕ) (frame : List ℕ) → number_at p n (drop o frame) ≡ number_at (o + p) n frame
unfolding number_at
number_at-drop o p n frame = ap (big_from 0 n) (drop-drop p o frame)

pub number_at-put_apart : (p n place : ℕ) (part frame : List ℕ) → (p + n ≤ place) ⊎ (place + length part ≤ p) → place + length part ≤ length frame
    → number_at p n (put place part frame) ≡ number_at p n frame
number_at-put_apart p n place part frame h k =
    number_at-bytes p n (put place part frame)
    ∙ (ap (big_from 0 n) (bytes_at-put_apart p n place part frame h k) ∙ sym (number_at-bytes p n frame))

pub length-big_bytes : (n x : ℕ) → length (big_bytes n x) ≡ n
length-big_bytes n x = length-bytes_high_first n x

-- the number that was written
pub number_at-put_same : (place n x : ℕ) (frame : List ℕ) → place + n ≤ length frame → x < 256 ^ n
    → number_at place n (put place (big_bytes n x) frame) ≡ x
number_at-put_same place n x frame h fits =
    number_at-bytes place n (put place (big_bytes n x) frame)
    ∙ (ap (big_from 0 n) (bytes_at-put_same place n (big_bytes n x) frame (sym (length-big_bytes n x)) h ∙ sym (append-nil (big_bytes n x)))
    ∙ (big_from-bytes n x [] ∙ mod-eq_of_lt fits))

-- the word in two bytes
pub number_at-two : (p : ℕ) (frame : List ℕ) → number_at p 2 frame ≡ number_at p 1 frame * 256 + number_at (p + 1) 1 frame
unfolding number_at
number_at-two p frame =
    let low : slice_index (drop p frame) 1 ≡ slice_index (drop (p + 1) frame) 0 = get_or-drop p frame 1 0 ∙ sym (get_or-drop (p + 1) frame 0 0 ∙ ap (λ n. get_or frame n 0) (omega arith)) in
    omega (arith, low)

below : (frame : List ℕ) → AreBytes frame → (k : ℕ) → slice_index frame k < 256
below frame h k = elim (cases_lt k (length frame)) [
  | inl lt ↦ h k 0 lt
  | inr ge ↦ rw get_or_past (omega arith)
]

-- a number of n bytes
pub number_at-fits : (p n : ℕ) (frame : List ℕ) → AreBytes frame → number_at p n frame < 256 ^ n
unfolding number_at
number_at-fits p n frame h = big_from-lt 0 n (drop p frame) (λ k. rw get_or-drop (below frame h (p + k)))
