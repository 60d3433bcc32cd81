-- How a write of a checksum and of a field changes the worth of the bytes in which they stand.
use Rattle.std.proofs.Common.{◌≡◌, ℕ, ◌+◌, ◌-◌, ◌%◌, ◌<◌, ◌≤◌, ◌⊎◌, List, length, take, drop, refl, sym, ap, ◌∙◌, arith, length-drop}
use Rattle.std.proofs.lemmas.List.{drop-drop, drop-take, take-take, length-take-le}
use Rattle.byteorder.specs.Endian.{big_from, big_bytes}
use Rattle.packet_headers.specs.Fields.{number_at}
use Rattle.header_edit.specs.Frame.{bytes_at, put}
use Rattle.header_edit.proofs.Puts.{length-put, bytes_at-put_apart}
use Rattle.header_edit.proofs.Numbers.{number_at-bytes}
use Rattle.header_edit.proofs.Totals.{worth, worth-put, worth-word, worth-big_bytes}

pub length-bytes_at : (o n : ℕ) (xs : List ℕ) → o + n ≤ length xs → length (bytes_at o n xs) ≡ n
length-bytes_at o n xs h = length-take-le n (drop o xs) (omega (arith, length-drop o xs))

-- bytes of some bytes
pub bytes_at-inner : (o n p m : ℕ) (xs : List ℕ) → p + m ≤ n → bytes_at p m (bytes_at o n xs) ≡ bytes_at (o + p) m xs
bytes_at-inner o n p m xs h =
    let n_is : n ≡ p + (n - p) = omega arith in
    ap (take m) (ap (λ k. drop p (take k (drop o xs))) n_is ∙ drop-take p (n - p) (drop o xs))
    ∙ (take-take m (n - p) (drop p (drop o xs)) (omega arith)
    ∙ ap (take m) (drop-drop p o xs))

pub number_at-inner : (o n p m : ℕ) (xs : List ℕ) → p + m ≤ n → number_at p m (bytes_at o n xs) ≡ number_at (o + p) m xs
number_at-inner o n p m xs h =
    number_at-bytes p m (bytes_at o n xs) ∙ (ap (big_from 0 m) (bytes_at-inner o n p m xs h) ∙ sym (number_at-bytes (o + p) m xs))

-- a checksum is written
pub worth-checksum : (at sum : ℕ) (xs : List ℕ) → at % 2 ≡ 0 → at + 2 ≤ length xs → sum < 65536
    → worth (put at (big_bytes 2 sum) xs) + number_at at 2 xs ≡ worth xs + sum
worth-checksum at sum xs even room fits =
    let a = worth-put at (big_bytes 2 sum) xs even refl room in
    let b = worth-word at xs room in
    let c = worth-big_bytes sum fits in
    omega arith

-- a checksum is written, and then words apart from it
pub worth-both : (at sum from : ℕ) (new xs : List ℕ) → at % 2 ≡ 0 → at + 2 ≤ length xs → sum < 65536
    → from % 2 ≡ 0 → length new % 2 ≡ 0 → from + length new ≤ length xs → (from + length new ≤ at) ⊎ (at + 2 ≤ from)
    → worth (put from new (put at (big_bytes 2 sum) xs)) + worth (bytes_at from (length new) xs) + number_at at 2 xs ≡ worth xs + sum + worth new
worth-both at sum from new xs even room fits even' whole room' apart =
    let mid = put at (big_bytes 2 sum) xs in
    let len : length mid ≡ length xs = length-put at (big_bytes 2 sum) xs room in
    let a = worth-checksum at sum xs even room fits in
    let b = worth-put from new mid even' whole (omega arith) in
    let c : bytes_at from (length new) mid ≡ bytes_at from (length new) xs = bytes_at-put_apart from (length new) at (big_bytes 2 sum) xs apart room in
    let d = ap worth c in
    omega arith
