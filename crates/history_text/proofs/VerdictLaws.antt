-- Verdicts with one text are one verdict.
use Rattle.std.proofs.Common.{◌≡◌, ◌≢◌, ℕ, ◌+◌, ◌*◌, ◌/◌, ◌%◌, ◌^◌, ◌<◌, List, [], ◌∷◌, ◌++◌, take, drop, fold, get_or, codes, Option, Some, None, refl, sym, ap, ◌∙◌, arith, append_assoc, lit≤}
use Rattle.std.proofs.Math.Nat.{div-div-eq-div-mul, div-add-mod}
use Rattle.std.proofs.lemmas.Str.{digit_value-digit_char}
use Rattle.std.specs.Char.{digit_value}
use Rattle.flow_actions.specs.declared.verdict.Fate.{Fate}
use Rattle.flow_actions.specs.declared.verdict.Fate.TheVariants as fates
use Rattle.flow_actions.specs.declared.verdict.Verdict.{Verdict}
use Rattle.history_text.specs.Verdicts.{last_digit, hexadecimal, fate_text, mark_text, hash_text, path_text, verdict_text}
use Rattle.history_text.specs.Told.{AllU64, FateIsTold, MarkIsTold, HashIsTold, VerdictIsTold}
use Rattle.history_text.proofs.Parts.{decimal-same, decimal-other, listed-other, listed-same}

-- a blank stands behind a fate, a mark and a hash
fate-same : (a b : Fate) (r s : List ℕ) → FateIsTold a → FateIsTold b → fate_text a ++ 32 ∷ r ≡ fate_text b ++ 32 ∷ s → (a ≡ b) × (r ≡ s)
fate-same (fates.Queue p) (fates.Queue q) r s told told' e =
    let (queue, rests) = decimal-same p q (32 ∷ r) (32 ∷ s) told told' (lit≤ tt) (lit≤ tt) (ap (drop 6) e) in
    (ap fates.Queue queue, ap (drop 1) rests)
fate-same (fates.Queue p) fates.Drop r s told told' e = absurd (omega (arith, ap (λ t. get_or t 0 0) e))
fate-same fates.Drop (fates.Queue q) r s told told' e = absurd (omega (arith, ap (λ t. get_or t 0 0) e))
fate-same fates.Drop fates.Drop r s told told' e = (refl, ap (drop 5) e)

mark-same : (a b : Option ℕ) (r s : List ℕ) → MarkIsTold a → MarkIsTold b → mark_text a ++ 32 ∷ r ≡ mark_text b ++ 32 ∷ s → (a ≡ b) × (r ≡ s)
mark-same None None r s told told' e = (refl, ap (drop 2) e)
mark-same None (Some n) r s told told' e = absurd (decimal-other n (32 ∷ s) (45 ∷ 32 ∷ r) told' (lit≤ tt) (sym e))
mark-same (Some m) None r s told told' e = absurd (decimal-other m (32 ∷ r) (45 ∷ 32 ∷ s) told (lit≤ tt) e)
mark-same (Some m) (Some n) r s told told' e =
    let (mark, rests) = decimal-same m n (32 ∷ r) (32 ∷ s) told told' (lit≤ tt) (lit≤ tt) e in
    (ap Some mark, ap (drop 1) rests)

-- the value of eight hexadecimal digits
abbrev value_of : List ℕ → ℕ
value_of text = fold (λ n b. n * 16 + digit_value b % 16) 0 (take 8 text)

place : (h m k : ℕ) → m * 16 ≡ k → h / k * 16 + h / m % 16 ≡ h / m
place h m k e = let q : h / m / 16 ≡ h / k = div-div-eq-div-mul h m 16 ∙ ap (λ j. h / j) e in omega (arith, div-add-mod (h / m) 16, q)

value-digit : (n : ℕ) → digit_value (last_digit n) % 16 ≡ n % 16
value-digit n =
    let small : n % 16 < 16 = omega arith in
    ap (λ d. d % 16) (digit_value-digit_char (n % 16) (omega arith)) ∙ omega arith

next : (x h m k : ℕ) → x ≡ h / k → m * 16 ≡ k → x * 16 + digit_value (last_digit (h / m)) % 16 ≡ h / m
next x h m k is e = ap (λ y. y * 16 + digit_value (last_digit (h / m)) % 16) is ∙ ap (λ y. h / k * 16 + y) (value-digit (h / m)) ∙ place h m k e

top : (h : ℕ) → h < 2 ^ 32 → 0 * 16 + digit_value (last_digit (h / 0x10000000)) % 16 ≡ h / 0x10000000
top h small = ap (λ y. 0 * 16 + y) (value-digit (h / 0x10000000)) ∙ omega arith

bottom : (x h : ℕ) → x ≡ h / 0x10 → x * 16 + digit_value (last_digit h) % 16 ≡ h
bottom x h is = ap (λ y. y * 16 + digit_value (last_digit h) % 16) is ∙ ap (λ y. h / 0x10 * 16 + y) (value-digit h) ∙ omega (arith, div-add-mod h 16)

value-back : (h : ℕ) (rest : List ℕ) → h < 2 ^ 32 → value_of (hexadecimal h ++ rest) ≡ h
value-back h rest small =
    bottom _ h (next _ h 0x10 0x100 (next _ h 0x100 0x1000 (next _ h 0x1000 0x10000 (next _ h 0x10000 0x100000
    (next _ h 0x100000 0x1000000 (next _ h 0x1000000 0x10000000 (top h small) refl) refl) refl) refl) refl) refl)

-- a digit is no dash
digit-other : (n : ℕ) → last_digit n ≢ 45
digit-other n is =
    let value = digit_value-digit_char (n % 16) (omega arith) in
    let small : n % 16 < 16 = omega arith in
    let same = ap digit_value is in
    omega (arith, value, same, small)

hash-same : (a b : Option ℕ) (r s : List ℕ) → HashIsTold a → HashIsTold b → hash_text a ++ 32 ∷ r ≡ hash_text b ++ 32 ∷ s → (a ≡ b) × (r ≡ s)
hash-same None None r s told told' e = (refl, ap (drop 2) e)
hash-same None (Some k) r s told told' e = absurd (digit-other (k / 0x10000000) (ap (λ t. get_or t 0 0) (sym e)))
hash-same (Some h) None r s told told' e = absurd (digit-other (h / 0x10000000) (ap (λ t. get_or t 0 0) e))
hash-same (Some h) (Some k) r s told told' e =
    (ap Some (sym (value-back h (32 ∷ r) told) ∙ ap value_of e ∙ value-back k (32 ∷ s) told'), ap (drop 9) e)

-- the end of a line stands behind a path
path-same : (a b r s : List ℕ) → AllU64 a → AllU64 b → path_text a ++ 10 ∷ r ≡ path_text b ++ 10 ∷ s → (a ≡ b) × (r ≡ s)
path-same [] [] r s told told' e = (refl, ap (drop 2) e)
path-same [] (n ∷ ns) r s told told' e = absurd (listed-other n ns (10 ∷ s) (45 ∷ 10 ∷ r) told'.0 (lit≤ tt) (sym e))
path-same (m ∷ ms) [] r s told told' e = absurd (listed-other m ms (10 ∷ r) (45 ∷ 10 ∷ s) told.0 (lit≤ tt) e)
path-same (m ∷ ms) (n ∷ ns) r s told told' e =
    let (path, rests) = listed-same (m ∷ ms) (n ∷ ns) (10 ∷ r) (10 ∷ s) told told' (lit≤ tt) (lit≤ tt) (λ is. omega (arith, is)) (λ is. omega (arith, is)) e in
    (path, ap (drop 1) rests)

-- the parts of a verdict and what stands behind, joined to the right
abbrev line : Verdict → List ℕ → List ℕ
line v r = fate_text v.fate ++ (codes " mark " ++ (mark_text v.mark ++ (codes " hash " ++ (hash_text v.hash ++ (codes " path " ++ (path_text v.path.items ++ r))))))

line-is : (v : Verdict) (r : List ℕ) → verdict_text v ++ r ≡ line v r
line-is v r =
    let path = codes " path " ++ path_text v.path.items in
    let hash = codes " hash " ++ (hash_text v.hash ++ path) in
    let mark = codes " mark " ++ (mark_text v.mark ++ hash) in
    append_assoc (fate_text v.fate) mark r ∙ ap (λ t. fate_text v.fate ++ (codes " mark " ++ t)) (append_assoc (mark_text v.mark) hash r)
    ∙ ap (λ t. fate_text v.fate ++ (codes " mark " ++ (mark_text v.mark ++ (codes " hash " ++ t)))) (append_assoc (hash_text v.hash) path r)

verdict-is : (v w : Verdict) → v.fate ≡ w.fate → v.mark ≡ w.mark → v.hash ≡ w.hash → v.path.items ≡ w.path.items → v ≡ w
verdict-is v w p q r s =
    ap (λ x. record { fate = x; mark = v.mark; hash = v.hash; path = v.path }) p
    ∙ ap (λ x. record { fate = w.fate; mark = x; hash = v.hash; path = v.path }) q
    ∙ ap (λ x. record { fate = w.fate; mark = w.mark; hash = x; path = v.path }) r
    ∙ ap (λ x. record { fate = w.fate; mark = w.mark; hash = w.hash; path = record { items = x } }) s

pub verdict-same : (v w : Verdict) (r s : List ℕ) → VerdictIsTold v → VerdictIsTold w → verdict_text v ++ 10 ∷ r ≡ verdict_text w ++ 10 ∷ s → (v ≡ w) × (r ≡ s)
verdict-same v w r s told told' e =
    let (fate, e1) = fate-same v.fate w.fate _ _ told.fate told'.fate (sym (line-is v (10 ∷ r)) ∙ e ∙ line-is w (10 ∷ s)) in
    let (mark, e2) = mark-same v.mark w.mark _ _ told.mark told'.mark (ap (drop 5) e1) in
    let (hash, e3) = hash-same v.hash w.hash _ _ told.hash told'.hash (ap (drop 5) e2) in
    let (path, rests) = path-same v.path.items w.path.items r s told.path told'.path (ap (drop 5) e3) in
    (verdict-is v w fate mark hash path, rests)

pub verdict-text-same : (v w : Verdict) → VerdictIsTold v → VerdictIsTold w → verdict_text v ≡ verdict_text w → v ≡ w
verdict-text-same v w told told' e = (verdict-same v w [] [] told told' (ap (λ t. t ++ 10 ∷ []) e)).0
