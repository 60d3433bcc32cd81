-- One's complement arithmetic is arithmetic up to multiples of 65535, in which 0 is told from it.
use Rattle.std.proofs.Common.{◌≡◌, ℕ, ◌+◌, ◌*◌, ◌/◌, ◌<◌, ◌==◌, List, [], ◌∷◌, fold, length, refl, arith}
use Rattle.std.proofs.lemmas.Bool.{cond_both, eqb-true}
use Rattle.header_edit.specs.Checksum.{ones_add, ones_not, mended_word, mended, never_zero, mended_udp}

-- the same but for multiples of 65535
pub record Same (x y : ℕ) : Type 0 where
  pub left : ℕ
  pub right : ℕ
  pub is : x + 65535 * left ≡ y + 65535 * right

pub same : (x y : ℕ) → x ≡ y → Same x y
same x y e = record { left = 0; right = 0; is = omega arith }

-- from a word to a list of words

abbrev pub total : List ℕ → ℕ
total [] = 0
total (x ∷ xs) = x + total xs

abbrev pub AreWords : List ℕ → Type 0
AreWords [] = Unit {0}
AreWords (x ∷ xs) = (x < 65536) × AreWords xs

pub record IsSum (r n : ℕ) : Type 0 where
  pub fits : r < 65536
  pub same : Same r n
  pub zero : r ≡ 0 → n ≡ 0

ones_add-sum : (a b : ℕ) → a < 65536 → b < 65536 → IsSum (ones_add a b) (a + b)
unfolding ones_add
ones_add-sum a b h k = record {
  fits = omega arith;
  same = record { left = (a + b) / 65536; right = 0; is = omega arith };
  zero = λ e. omega arith;
}

pub fold-sum : (a : ℕ) (ws : List ℕ) → a < 65536 → AreWords ws → IsSum (fold ones_add a ws) (a + total ws)
fold-sum a [] h k = record { fits = h; same = same a (a + 0) (omega arith); zero = λ e. omega arith }
fold-sum a (w ∷ ws) h k =
    let s = ones_add-sum a w h k.0 in
    let r = fold-sum (ones_add a w) ws s.fits k.1 in
    let p = s.same.is in
    let q = r.same.is in
    record {
      fits = r.fits;
      same = record { left = s.same.left + r.same.left; right = s.same.right + r.same.right; is = omega arith };
      zero = λ e. let z = r.zero e in let y = s.zero (omega arith) in omega arith;
    }

-- totals that are the same, and not 0, have one sum
pub sum-same : (ws vs : List ℕ) → AreWords ws → AreWords vs → 0 < total ws → 0 < total vs → Same (total ws) (total vs)
    → fold ones_add 0 ws ≡ fold ones_add 0 vs
sum-same ws vs h k some more s =
    let r = fold-sum 0 ws (omega arith) h in
    let q = fold-sum 0 vs (omega arith) k in
    let a = s.is in
    let b = r.same.is in
    let c = q.same.is in
    let z : fold ones_add 0 ws ≡ 0 → ⊥ = λ e. omega (arith, r.zero e) in
    let y : fold ones_add 0 vs ≡ 0 → ⊥ = λ e. omega (arith, q.zero e) in
    omega (arith, r.fits, q.fits)

-- a checksum, with the words that it covers, stays the same

pub record Keeps (after new before old : ℕ) : Type 0 where
  pub fits : after < 65536
  pub same : Same (after + new) (before + old)

ones_not-same : (c m n x y : ℕ) → c < 65536 → m < 65536 → Same x (ones_not c + ones_not m) → y < 65536 → Same y (x + n) → Keeps (ones_not y) n c m
ones_not-same c m n x y h k s l t =
    let p = s.is in
    let q = t.is in
    record {
      fits = omega arith;
      same = record { left = 2 + s.right + t.right; right = 1 + s.left + t.left; is = omega arith };
    }

mended_word-keeps : (c m n : ℕ) → c < 65536 → m < 65536 → n < 65536 → Keeps (mended_word c m n) n c m
unfolding mended_word
mended_word-keeps c m n h k l =
    cond_both (m == n) c (ones_not (ones_add (ones_add (ones_not c) (ones_not m)) n)) (λ x. Keeps x n c m)
    (λ e. record { fits = h; same = same (c + n) (c + m) (let d = eqb-true m n e in omega arith) })
    (λ e.
    let x = ones_add-sum (ones_not c) (ones_not m) (omega arith) (omega arith) in
    let y = ones_add-sum (ones_add (ones_not c) (ones_not m)) n x.fits l in
    ones_not-same c m n _ _ h k x.same y.fits y.same)

-- where a checksum and words take the place of others
pub Same-effect : (end start sum checksum new old : ℕ) → end + old + checksum ≡ start + sum + new → Same (sum + new) (checksum + old) → Same end start
Same-effect end start sum checksum new old e s = record { left = s.left; right = s.right; is = let p = s.is in omega arith }

pub mended-keeps : (c : ℕ) (old new : List ℕ) → c < 65536 → AreWords old → AreWords new → length new ≡ length old
    → Keeps (mended c old new) (total new) c (total old)
mended-keeps c [] [] h k l e = record { fits = h; same = same _ _ refl }
mended-keeps c [] (n ∷ new) h k l e = absurd (omega arith)
mended-keeps c (m ∷ old) [] h k l e = absurd (omega arith)
mended-keeps c (m ∷ old) (n ∷ new) h k l e =
    let s = mended_word-keeps c m n h k.0 l.0 in
    let r = mended-keeps (mended_word c m n) old new s.fits k.1 l.1 (omega arith) in
    let p = s.same.is in
    let q = r.same.is in
    record { fits = r.fits; same = record { left = s.same.left + r.same.left; right = s.same.right + r.same.right; is = omega arith } }

pub mended_udp-keeps : (c : ℕ) (old new : List ℕ) → (c ≡ 0 → ⊥) → c < 65536 → AreWords old → AreWords new → length new ≡ length old
    → Keeps (mended_udp c old new) (total new) c (total old)
unfolding mended_udp
mended_udp-keeps c old new ne h k l e =
    let s = mended-keeps c old new h k l e in
    let p = s.same.is in
    let P : ℕ → Type 0 = λ x. Keeps x (total new) c (total old) in
    let made : P (never_zero (mended c old new)) =
    cond_both (mended c old new == 0) 65535 (mended c old new) P
    (λ z. let d = eqb-true (mended c old new) 0 z in
    record { fits = omega arith; same = record { left = s.same.left; right = s.same.right + 1; is = omega arith } })
    (λ z. s) in
    cond_both (c == 0) 0 (never_zero (mended c old new)) P (λ z. absurd (ne (eqb-true c 0 z))) (λ z. made)
