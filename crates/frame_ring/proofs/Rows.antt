-- Frames in the order of their numbers.
use Rattle.std.proofs.Common.{◌≡◌, ℕ, ◌<◌, ◌≤◌, List, [], ◌∷◌, ◌++◌, All, refl, arith}
use Rattle.std.proofs.lemmas.List.Elements.{All-nil, All-cons, All-head, All-tail}
use Rattle.frame_ring.specs.Frame.{Frame}
use Rattle.frame_ring.specs.Rows.{IsRow, last_of}

pub row_front : (n : ℕ) (xs ys : List Frame) → IsRow n (xs ++ ys) → IsRow n xs
row_front n [] ys h = tt
row_front n (x ∷ xs) ys h = (h.0, h.1, row_front x.number xs ys h.2)

pub row_behind : (n : ℕ) (xs ys : List Frame) → IsRow n (xs ++ ys) → IsRow (last_of n xs) ys
row_behind n [] ys h = h
row_behind n (x ∷ xs) ys h = row_behind x.number xs ys h.2

pub row_push : (n : ℕ) (xs : List Frame) (x : Frame) → IsRow n xs → last_of n xs < x.number → x.len ≤ 262144 → IsRow n (xs ++ x ∷ [])
row_push n [] x h lt le = (lt, le, tt)
row_push n (y ∷ ys) x h lt le = (h.0, h.1, row_push y.number ys x h.2 lt le)

pub last_push : (n : ℕ) (xs : List Frame) (x : Frame) → last_of n (xs ++ x ∷ []) ≡ x.number
last_push n [] x = refl
last_push n (y ∷ ys) x = last_push y.number ys x

pub row_above : (n : ℕ) (xs : List Frame) → IsRow n xs → n ≤ last_of n xs
row_above n [] h = omega arith
row_above n (x ∷ xs) h = let k = row_above x.number xs h.2 in let lt = h.0 in omega arith

-- what is greater than all numbers is greater than the last one, and in a row the other way round
pub below_last : (n m : ℕ) (xs : List Frame) → n < m → All (λ f. f.number < m) xs → last_of n xs < m
below_last n m [] lt all = lt
below_last n m (x ∷ xs) lt all = below_last x.number m xs (All-head (λ (f : Frame). f.number < m) x xs all) (All-tail (λ (f : Frame). f.number < m) x xs all)

pub row_under : (n m : ℕ) (xs : List Frame) → IsRow n xs → last_of n xs < m → All (λ f. f.number < m) xs
row_under n m [] row lt = All-nil (λ (f : Frame). f.number < m)
row_under n m (x ∷ xs) row lt = let a = row_above x.number xs row.2 in All-cons (λ (f : Frame). f.number < m) x xs (omega arith) (row_under x.number m xs row.2 lt)
