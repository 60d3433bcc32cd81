-- The conditions on one more field.
use Rattle.std.proofs.Common.{◌≡◌, ℕ, ◌+◌, Bool, true, false, cond, nat_lt, List, [], ◌∷◌, ◌++◌, sym, ◌∙◌, ap, subst, map, append-nil, arith, zero-add}
use Rattle.std.specs.List.{filter, range_with_len}
use Rattle.std.proofs.lemmas.List.FromFn.{filter_of_map_range_with_len_more}
use Rattle.std.proofs.lemmas.Bool.Decides.{nat_tests}
use Rattle.pattern_items.specs.declared.test.Condition.{Condition}
use Rattle.pattern_items.specs.Conditions.{asks}

not_asked : (n : ℕ) → n ≡ 0 → nat_lt 0 n ≡ false
not_asked n e = grind (arith, nat_tests)

asked : (n : ℕ) → (n ≡ 0 → ⊥) → nat_lt 0 n ≡ true
asked n e = grind (arith, nat_tests)

more : (f : ℕ → Condition) (n : ℕ) → filter asks (map f (range_with_len 0 (n + 1))) ≡ filter asks (map f (range_with_len 0 n)) ++ cond (asks (f n)) (f n ∷ []) []
more f n = filter_of_map_range_with_len_more asks f 0 n n (zero-add n)

pub conditions_same : (f : ℕ → Condition) (n : ℕ) (so_far : List Condition) (c : Condition) → so_far ≡ filter asks (map f (range_with_len 0 n))
    → c ≡ f n → c.mask ≡ 0 → so_far ≡ filter asks (map f (range_with_len 0 (n + 1)))
conditions_same f n so_far c e is none =
    let P = λ (b : Bool). so_far ≡ filter asks (map f (range_with_len 0 n)) ++ cond b (f n ∷ []) [] in
    subst P (sym (not_asked c.mask none) ∙ ap asks is) (e ∙ sym (append-nil _)) ∙ sym (more f n)

pub conditions_more : (f : ℕ → Condition) (n : ℕ) (so_far : List Condition) (c : Condition) → so_far ≡ filter asks (map f (range_with_len 0 n))
    → c ≡ f n → (c.mask ≡ 0 → ⊥) → so_far ++ c ∷ [] ≡ filter asks (map f (range_with_len 0 (n + 1)))
conditions_more f n so_far c e is some =
    let P = λ (b : Bool). so_far ++ c ∷ [] ≡ filter asks (map f (range_with_len 0 n)) ++ cond b (f n ∷ []) [] in
    subst P (sym (asked c.mask some) ∙ ap asks is) (ap (λ x. x ++ c ∷ []) e ∙ ap (λ x. filter asks (map f (range_with_len 0 n)) ++ x ∷ []) is) ∙ sym (more f n)
