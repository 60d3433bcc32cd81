-- Exact digests: each has one list of numbers.
use Rattle.std.proofs.Common.{◌≡◌, ℕ, ◌+◌, ◌*◌, ◌/◌, ◌%◌, ◌^◌, ◌<◌, ◌≤◌, Bool, true, false, nat_eq, slice_index, List, [], ◌∷◌, refl, sym, ap, ◌∙◌, arith, if◌then◌else◌}
use Rattle.std.proofs.lemmas.Nat.{mod-mul-add, div-mul-add}
use Rattle.std.proofs.Math.Nat.{mul-le-mul_right}
use Rattle.std.proofs.lemmas.Bool.{eqb-true}
use Rattle.pattern_items.specs.declared.pattern.Fields.{Fields}
use Rattle.rule_index.specs.Digest.{mix, mix_fields, mix_all}
use Rattle.rule_index.specs.Exact.{raised, most_fields, most_all, AreExact, IsWithin, AreWithin}

raised_least : (most mask : ℕ) → most ≤ raised most mask
unfolding raised
raised_least most mask = let h : most ≤ most * mask + most + mask = omega arith in h

-- a digest that stays below 2^128
digit : (digest mask number : ℕ) → number ≤ mask → digest * mask + digest + number < 2 ^ 128 → mix true digest mask number ≡ digest * mask + digest + number
unfolding mix
digit digest mask number le fits = by (nat_eq mask 0) refl where
  none : nat_eq mask 0 ≡ true → digest ≡ digest * mask + digest + number
  none e =
      let no : mask ≡ 0 = eqb-true mask 0 e in
      let k : digest * mask ≡ 0 = ap (λ (m : ℕ). digest * m) no ∙ (let z : digest * 0 ≡ 0 = omega arith in z) in
      omega arith

  a : (digest * mask) % 2 ^ 128 ≡ digest * mask
  a = omega arith

  b : (digest * mask + digest) % 2 ^ 128 ≡ digest * mask + digest
  b = omega arith

  c : (digest * mask + digest + number) % 2 ^ 128 ≡ digest * mask + digest + number
  c = omega arith

  by : (t : Bool) → nat_eq mask 0 ≡ t
      → (if t then digest else (((digest * mask) % 2 ^ 128 + digest) % 2 ^ 128 + number) % 2 ^ 128) ≡ digest * mask + digest + number
  by true e = none e
  by false e = ap (λ (n : ℕ). ((n + digest) % 2 ^ 128 + number) % 2 ^ 128) a ∙ ap (λ (n : ℕ). (n + number) % 2 ^ 128) b ∙ c

distributed : (d m : ℕ) → d * (m + 1) ≡ d * m + d
distributed d m = grind arith

-- one digit more
record OneDigit (most mask d n : ℕ) : Type 0 where
  is : mix true d mask n ≡ d * (mask + 1) + n
  within : mix true d mask n ≤ raised most mask

one_digit : (most mask d n : ℕ) → raised most mask < 2 ^ 128 → d ≤ most → n ≤ mask → OneDigit most mask d n
unfolding raised
one_digit most mask d n fits le small =
    let product : d * mask ≤ most * mask = mul-le-mul_right mask le in
    let same : mix true d mask n ≡ d * mask + d + n = digit d mask n small (omega arith) in
    record { is = same ∙ ap (λ (k : ℕ). k + n) (sym (distributed d mask)); within = omega (arith, same) }

same_digits : (most mask d e n k : ℕ) → raised most mask < 2 ^ 128 → d ≤ most → e ≤ most → n ≤ mask → k ≤ mask → mix true d mask n ≡ mix true e mask k → (d ≡ e) × (n ≡ k)
same_digits most mask d e n k fits dl el nl kl same =
    let a = one_digit most mask d n fits dl nl in
    let b = one_digit most mask e k fits el kl in
    let sums : d * (mask + 1) + n ≡ e * (mask + 1) + k = sym a.is ∙ same ∙ b.is in
    let n_lt : n < mask + 1 = omega arith in
    let k_lt : k < mask + 1 = omega arith in (
      sym (div-mul-add d (mask + 1) n n_lt) ∙ ap (λ (x : ℕ). x / (mask + 1)) sums ∙ div-mul-add e (mask + 1) k k_lt,
      sym (mod-mul-add d (mask + 1) n n_lt) ∙ ap (λ (x : ℕ). x % (mask + 1)) sums ∙ mod-mul-add e (mask + 1) k k_lt,
    )

-- several digits, one behind another, and the greatest such digest
abbrev digits : List ℕ → List ℕ → ℕ → ℕ
digits [] ns d = d
digits (m ∷ ms) [] d = d
digits (m ∷ ms) (n ∷ ns) d = digits ms ns (mix true d m n)

abbrev tops : List ℕ → ℕ → ℕ
tops [] most = most
tops (m ∷ ms) most = tops ms (raised most m)

abbrev AreSmall : List ℕ → List ℕ → Type 0
AreSmall [] [] = Unit {0}
AreSmall [] (n ∷ ns) = ⊥
AreSmall (m ∷ ms) [] = ⊥
AreSmall (m ∷ ms) (n ∷ ns) = (n ≤ m) × AreSmall ms ns

tops_least : (ms : List ℕ) (most : ℕ) → most ≤ tops ms most
tops_least [] most = omega arith
tops_least (m ∷ ms) most = let rest = tops_least ms (raised most m) in let one = raised_least most m in omega (arith, rest, one)

digits_within : (ms ns : List ℕ) (most d : ℕ) → tops ms most < 2 ^ 128 → d ≤ most → AreSmall ms ns → digits ms ns d ≤ tops ms most
digits_within [] [] most d fits le w = le
digits_within [] (n ∷ ns) most d fits le w = absurd w
digits_within (m ∷ ms) [] most d fits le w = absurd w
digits_within (m ∷ ms) (n ∷ ns) most d fits le w =
    let here : raised most m < 2 ^ 128 = (let h = tops_least ms (raised most m) in omega arith) in
    digits_within ms ns (raised most m) (mix true d m n) fits (one_digit most m d n here le w.0).within w.1

digits_same : (ms ns ks : List ℕ) (most d e : ℕ) → tops ms most < 2 ^ 128 → d ≤ most → e ≤ most → AreSmall ms ns → AreSmall ms ks → digits ms ns d ≡ digits ms ks e → (d ≡ e) × (ns ≡ ks)
digits_same [] [] [] most d e fits dl el w u same = (same, refl)
digits_same [] (n ∷ ns) ks most d e fits dl el w u same = absurd w
digits_same [] [] (k ∷ ks) most d e fits dl el w u same = absurd u
digits_same (m ∷ ms) [] ks most d e fits dl el w u same = absurd w
digits_same (m ∷ ms) (n ∷ ns) [] most d e fits dl el w u same = absurd u
digits_same (m ∷ ms) (n ∷ ns) (k ∷ ks) most d e fits dl el w u same =
    let here : raised most m < 2 ^ 128 = (let h = tops_least ms (raised most m) in omega arith) in
    let rest = digits_same ms ns ks (raised most m) (mix true d m n) (mix true e m k) fits (one_digit most m d n here dl w.0).within (one_digit most m e k here el u.0).within w.1 u.1 same in
    let one = same_digits most m d e n k here dl el w.0 u.0 rest.0 in
    (one.0, let first : n ≡ k = one.1 in let behind : ns ≡ ks = rest.1 in cc)

-- six numbers are all that fields have
abbrev pub six : Fields → List ℕ
six fields = slice_index fields.v 0 ∷ slice_index fields.v 1 ∷ slice_index fields.v 2 ∷ slice_index fields.v 3 ∷ slice_index fields.v 4 ∷ slice_index fields.v 5 ∷ []

pub record IsSix (fields : Fields) : Type 0 where
  pub is : fields ≡ record { v = six fields }

small : (masks n : Fields) → IsWithin masks n → AreSmall (six masks) (six n)
small masks n w = (w.each 0 (omega arith), (w.each 1 (omega arith), (w.each 2 (omega arith), (w.each 3 (omega arith), (w.each 4 (omega arith), (w.each 5 (omega arith), tt))))))

-- the numbers of one item
fields_within : (masks n : Fields) (most d : ℕ) → most_fields masks most < 2 ^ 128 → d ≤ most → IsWithin masks n → mix_fields true masks n d ≤ most_fields masks most
fields_within masks n most d fits le w = digits_within (six masks) (six n) most d fits le (small masks n w)

one_item : (masks n k : Fields) (most d e : ℕ) → most_fields masks most < 2 ^ 128 → d ≤ most → e ≤ most → IsWithin masks n → IsWithin masks k → IsSix n → IsSix k
    → mix_fields true masks n d ≡ mix_fields true masks k e → (d ≡ e) × (n ≡ k)
one_item masks n k most d e fits dl el w u x y same =
    let h = digits_same (six masks) (six n) (six k) most d e fits dl el (small masks n w) (small masks k u) same in
    (h.0, x.is ∙ ap (λ (xs : List ℕ). record { v = xs }) h.1 ∙ sym y.is)

-- each is made of six numbers
abbrev pub AreSix : List Fields → Type 0
AreSix [] = Unit {0}
AreSix (n ∷ ns) = IsSix n × AreSix ns

most_least : (ms : List Fields) (most : ℕ) → most ≤ most_all ms most
most_least [] most = omega arith
most_least (m ∷ ms) most =
    let rest : most_fields m most ≤ most_all ms (most_fields m most) = most_least ms (most_fields m most) in
    let one : most ≤ most_fields m most = tops_least (six m) most in omega (arith, rest, one)

all_items : (ms ns ks : List Fields) (most d e : ℕ) → most_all ms most < 2 ^ 128 → d ≤ most → e ≤ most → AreWithin ms ns → AreWithin ms ks → AreSix ns → AreSix ks
    → mix_all true ms ns d ≡ mix_all true ms ks e → (d ≡ e) × (ns ≡ ks)
all_items [] [] [] most d e fits dl el w u x y same = (same, refl)
all_items [] (n ∷ ns) ks most d e fits dl el w u x y same = absurd w
all_items [] [] (k ∷ ks) most d e fits dl el w u x y same = absurd u
all_items (m ∷ ms) [] ks most d e fits dl el w u x y same = absurd w
all_items (m ∷ ms) (n ∷ ns) [] most d e fits dl el w u x y same = absurd u
all_items (m ∷ ms) (n ∷ ns) (k ∷ ks) most d e fits dl el w u x y same =
    let here : most_fields m most < 2 ^ 128 = (let h = most_least ms (most_fields m most) in omega arith) in
    let rest = all_items ms ns ks (most_fields m most) (mix_fields true m n d) (mix_fields true m k e) fits
    (fields_within m n most d here dl w.0) (fields_within m k most e here el u.0) w.1 u.1 x.1 y.1 same in
    let one = one_item m n k most d e here dl el w.0 u.0 x.0 y.0 rest.0 in
    (one.0, let first : n ≡ k = one.1 in let behind : ns ≡ ks = rest.1 in cc)

pub exact_numbers : (ms ns ks : List Fields) → AreExact ms → AreWithin ms ns → AreWithin ms ks → AreSix ns → AreSix ks → mix_all true ms ns 0 ≡ mix_all true ms ks 0 → ns ≡ ks
exact_numbers ms ns ks fits w u x y same = (all_items ms ns ks 0 0 0 fits.fit (omega arith) (omega arith) w u x y same).1
