-- Fronts of a text: what several writes took, one after the other.
use Rattle.std.proofs.Common.{◌≡◌, ℕ, ◌+◌, ◌-◌, List, ◌++◌, length, take, drop, Option, sym, ap, ◌∙◌, subst}
use Rattle.std.proofs.Math.Seq.{take-add}
use Rattle.std.proofs.lemmas.List.{take_rest}
use Rattle.std.proofs.KnownBytes.{Appends-trans}
use Rattle.std.specs.Io.KnownBytes.{Appends}

-- the first bytes were taken, and then the first of the rest
pub Appends-rest : (a b c : Option (List ℕ)) (xs : List ℕ) (k n : ℕ) → Appends a b (take k xs)
    → Appends b c (take n (take (length xs - k) (drop k xs))) → Appends a c (take (k + n) xs)
Appends-rest a b c xs k n first second =
    let joined : take k xs ++ take n (take (length xs - k) (drop k xs)) ≡ take (k + n) xs =
    ap (λ l. take k xs ++ take n l) (take_rest xs k) ∙ sym (take-add k n xs) in
    subst (Appends a c) joined (Appends-trans a b c _ _ first second)
