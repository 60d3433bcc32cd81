-- What `==` of two lists of truth values answers.
use Rattle.std.proofs.Common.{◌≡◌, ℕ, ◌<◌, ◌∙◌, sym, ap, refl, Bool, true, false, not, List, length, slice_get, Some}
use Rattle.std.specs.Bool.{beq, Decides}
use Rattle.std.specs.Cmp.{booleans_Decides}
use Rattle.std.specs.Cmp.Lexicographic.{pointwise}
use Rattle.std.proofs.lemmas.Bool.Decides.{same_from_decides}
use Rattle.std.proofs.lemmas.List.{ext_get_or}
use Rattle.std.proofs.lemmas.Option.{unwrap_or-slice_get}
use Rattle.std.proofs.lemmas.Slice.Eq.{slice_eq-Decides}
use Rattle.std.specs.Option.{unwrap_or}

pointwise-Decides : (xs ys : List Bool) → Decides (pointwise beq xs ys) (xs ≡ ys)
pointwise-Decides xs ys = slice_eq-Decides booleans_Decides xs ys (pointwise beq xs ys) refl

apart_at : (xs ys : List Bool) (i : ℕ) (x y : Bool) → slice_get xs i ≡ Some x → slice_get ys i ≡ Some y → not (beq x y) ≡ true → xs ≡ ys → ⊥
apart_at xs ys i x y here there differ e =
    let some : Some x ≡ Some y = sym here ∙ ap (λ zs. slice_get zs i) e ∙ there in
    let equal : x ≡ y = cc in
    let tested : beq x y ≡ true = (booleans_Decides x y).1 equal in
    cc

-- the lists differ at i
pub different_at : (xs ys : List Bool) (i : ℕ) (x y : Bool) → slice_get xs i ≡ Some x → slice_get ys i ≡ Some y → not (beq x y) ≡ true
    → false ≡ pointwise beq xs ys
different_at xs ys i x y here there differ =
    let never : Decides false (xs ≡ ys) = ((λ h. cc), (λ e. absurd (apart_at xs ys i x y here there differ e))) in
    same_from_decides false (pointwise beq xs ys) never (pointwise-Decides xs ys)

equal : (xs ys : List Bool) → length xs ≡ length ys → ((k : ℕ) → k < length xs → slice_get xs k ≡ slice_get ys k) → xs ≡ ys
equal xs ys lens each =
    ext_get_or false xs ys lens
    (λ i h. sym (unwrap_or-slice_get xs i false) ∙ ap (λ o. unwrap_or o false) (each i h) ∙ unwrap_or-slice_get ys i false)

-- the lists are of one length and agree at each index
pub same : (xs ys : List Bool) → length xs ≡ length ys → ((k : ℕ) → k < length xs → slice_get xs k ≡ slice_get ys k) → true ≡ pointwise beq xs ys
same xs ys lens each = sym ((pointwise-Decides xs ys).1 (equal xs ys lens each))
