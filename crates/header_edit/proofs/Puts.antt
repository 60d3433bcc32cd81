-- What a write of some bytes leaves, and what it changes.
use Rattle.std.proofs.Common.{◌≡◌, ℕ, ◌+◌, ◌-◌, ◌≤◌, ◌⊎◌, inl, inr, List, [], ◌∷◌, ◌++◌, zero, suc, length, take, drop, refl, sym, ap, ◌∙◌, arith, length-append, length-take, length-drop, append_assoc}
use Rattle.std.proofs.lemmas.List.{take-take, take-append-le, drop_at, drop-drop, drop-append-le, length-take-le, drop-take, drop_all, append-nil}
use Rattle.header_edit.specs.Frame.{bytes_at, put}

pub length-put : (place : ℕ) (part bytes : List ℕ) → place + length part ≤ length bytes → length (put place part bytes) ≡ length bytes
unfolding put
length-put place part bytes h =
    let e : length (put place part bytes) ≡ length (take place bytes) + (length part + length (drop (place + length part) bytes)) =
    length-append (take place bytes) _ ∙ ap (λ n. length (take place bytes) + n) (length-append part _) in
    let t : length (take place bytes) ≡ place = length-take-le place bytes (omega arith) in
    omega (arith, e, t, length-drop (place + length part) bytes)

-- a part in front of the write
bytes_at-before : (o n place : ℕ) (part bytes : List ℕ) → o + n ≤ place → place + length part ≤ length bytes
    → bytes_at o n (put place part bytes) ≡ bytes_at o n bytes
unfolding put
bytes_at-before o n place part bytes h k =
    let t : length (take place bytes) ≡ place = length-take-le place bytes (omega arith) in
    let rest = part ++ drop (place + length part) bytes in
    let front : (xs : List ℕ) → drop o (take (o + n) xs) ≡ take n (drop o xs) = λ xs. drop-take o n xs in
    sym (front (take place bytes ++ rest))
    ∙ (ap (drop o) (take-append-le (o + n) (take place bytes) rest (omega arith) ∙ take-take (o + n) place bytes h)
    ∙ front bytes)

-- a part behind it
bytes_at-behind : (o n place : ℕ) (part bytes : List ℕ) → place + length part ≤ o → place + length part ≤ length bytes
    → bytes_at o n (put place part bytes) ≡ bytes_at o n bytes
unfolding put
bytes_at-behind o n place part bytes h k =
    let t : length (take place bytes) ≡ place = length-take-le place bytes (omega arith) in
    let m = place + length part in
    let whole : take place bytes ++ (part ++ drop m bytes) ≡ (take place bytes ++ part) ++ drop m bytes = sym (append_assoc (take place bytes) part (drop m bytes)) in
    let len : length (take place bytes ++ part) ≡ m = length-append (take place bytes) part ∙ ap (λ x. x + length part) t in
    let o_is : m + (o - m) ≡ o = omega arith in
    let split : (xs : List ℕ) → drop o xs ≡ drop (o - m) (drop m xs) = λ xs. ap (λ x. drop x xs) (sym o_is) ∙ sym (drop-drop (o - m) m xs) in
    ap (take n) (ap (drop o) whole ∙ split _ ∙ ap (drop (o - m)) (drop_at (take place bytes ++ part) (drop m bytes) m len) ∙ sym (split bytes))

pub bytes_at-put_apart : (o n place : ℕ) (part bytes : List ℕ) → (o + n ≤ place) ⊎ (place + length part ≤ o) → place + length part ≤ length bytes
    → bytes_at o n (put place part bytes) ≡ bytes_at o n bytes
bytes_at-put_apart o n place part bytes (inl h) k = bytes_at-before o n place part bytes h k
bytes_at-put_apart o n place part bytes (inr h) k = bytes_at-behind o n place part bytes h k

-- the first bytes of two lists joined
take-append-add : (xs ys : List ℕ) (m k : ℕ) → k ≡ length xs + m → take k (xs ++ ys) ≡ xs ++ take m ys
take-append-add [] ys m k e = ap (λ n. take n ys) (omega arith)
take-append-add (x ∷ xs) ys m zero e = absurd (omega arith)
take-append-add (x ∷ xs) ys m (suc k) e = ap (λ zs. x ∷ zs) (take-append-add xs ys m k (omega arith))

-- a part around it
pub bytes_at-put_around : (o n p place : ℕ) (part bytes : List ℕ) → place ≡ o + p → p + length part ≤ n → o + n ≤ length bytes
    → bytes_at o n (put place part bytes) ≡ put p part (bytes_at o n bytes)
unfolding put
bytes_at-put_around o n p place part bytes e h k =
    let r = n - (p + length part) in
    let n_is : n ≡ p + length part + r = omega arith in
    let rest = drop (place + length part) bytes in
    let all = drop o bytes in
    let t : length (take place bytes) ≡ place = length-take-le place bytes (omega arith) in
    let q : length (take p all) ≡ p = length-take-le p all (omega (arith, length-drop o bytes)) in
    let first : drop o (take place bytes ++ (part ++ rest)) ≡ take p all ++ (part ++ rest) =
    drop-append-le o (take place bytes) (part ++ rest) (omega arith)
    ∙ ap (λ xs. xs ++ (part ++ rest)) (ap (λ m. drop o (take m bytes)) e ∙ drop-take o p bytes) in
    let left : take n (take p all ++ (part ++ rest)) ≡ take p all ++ (part ++ take r rest) =
    take-append-add (take p all) (part ++ rest) (length part + r) n (omega arith)
    ∙ ap (λ xs. take p all ++ xs) (take-append-add part rest r (length part + r) refl) in
    let behind : drop (p + length part) (take n all) ≡ take r rest =
    ap (λ m. drop (p + length part) (take m all)) n_is ∙ (drop-take (p + length part) r all
    ∙ ap (take r) (drop-drop (p + length part) o bytes ∙ ap (λ m. drop m bytes) (omega arith))) in
    let front : take p (take n all) ≡ take p all = take-take p n all (omega arith) in
    ap (take n) first ∙ (left ∙ sym (ap (λ xs. xs ++ (part ++ drop (p + length part) (take n all))) front ∙ ap (λ xs. take p all ++ (part ++ xs)) behind))

-- the part that was written
pub bytes_at-put_same : (place n : ℕ) (part bytes : List ℕ) → n ≡ length part → place + n ≤ length bytes → bytes_at place n (put place part bytes) ≡ part
unfolding put
bytes_at-put_same place n part bytes e h =
    let old = bytes_at place n bytes in
    let len : length old ≤ n = omega (arith, length-take n (drop place bytes)) in
    bytes_at-put_around place n 0 place part bytes (omega arith) (omega arith) h
    ∙ (ap (λ xs. part ++ xs) (drop_all (0 + length part) old (omega arith)) ∙ append-nil part)
