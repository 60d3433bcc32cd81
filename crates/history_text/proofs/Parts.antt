-- The parts of a text are told apart: equal texts have equal parts.
use Rattle.std.proofs.Common.{◌≡◌, ◌≢◌, ℕ, ◌^◌, ◌<◌, true, List, [], ◌∷◌, ◌++◌, map, get_or, drop, decimal, refl, sym, ap, ◌∙◌, arith, append_assoc, lit≤}
use Rattle.std.proofs.lemmas.Fmt.{decimal_is_IsNumeral}
use Rattle.std.specs.Char.{digit_value}
use Rattle.std.proofs.NetLemmas.Options.{same_parts}
use Rattle.std.proofs.NetLemmas.Numbers.{NoDigit}
use Rattle.io_edges.specs.Commas.{with_commas}
use Rattle.history_text.specs.Forms.{form, filled}
use Rattle.history_text.specs.Reading.{read_one, read_form, is_form, Fills, Ends}
use Rattle.history_text.specs.Told.{AllU64}
use Rattle.history_text.proofs.ReadBack.{read_one-back, read_form-front, digit_first}

pub decimal-same : (n m : ℕ) (r s : List ℕ) → n < 2 ^ 64 → m < 2 ^ 64 → NoDigit 10 r → NoDigit 10 s → decimal n ++ r ≡ decimal m ++ s → (n ≡ m) × (r ≡ s)
decimal-same n m r s small small' stop stop' e =
    same_parts n m r s (sym (read_one-back n r small stop) ∙ ap read_one e ∙ read_one-back m s small' stop')

-- a number isn't what begins with no digit
pub decimal-other : (n : ℕ) (r s : List ℕ) → n < 2 ^ 64 → NoDigit 10 s → decimal n ++ r ≢ s
decimal-other n r s small stop e =
    let digit = digit_first (decimal n) r (decimal_is_IsNumeral n small).0 in
    let same = ap (λ t. digit_value (get_or t 0 0)) e in
    omega (arith, digit, stop, same)

pub filled-same : (f ns ms r s : List ℕ) → is_form (form f) ≡ true → Fills (form f) ns → Fills (form f) ms → Ends (form f) r → Ends (form f) s
    → filled f ns ++ r ≡ filled f ms ++ s → (ns ≡ ms) × (r ≡ s)
filled-same f ns ms r s ok fills fills' ends ends' e =
    same_parts ns ms r s (sym (read_form-front (form f) ns r ok fills ends) ∙ ap (read_form (form f)) e ∙ read_form-front (form f) ms s ok fills' ends')

abbrev pub listed : List ℕ → List ℕ
listed ns = with_commas (map decimal ns)

pub listed-other : (n : ℕ) (ns r s : List ℕ) → n < 2 ^ 64 → NoDigit 10 s → listed (n ∷ ns) ++ r ≢ s
listed-other n [] r s small stop e = decimal-other n r s small stop e
listed-other n (m ∷ ns) r s small stop e =
    decimal-other n (44 ∷ (listed (m ∷ ns) ++ r)) s small stop (sym (append_assoc (decimal n) (44 ∷ listed (m ∷ ns)) r) ∙ e)

-- numbers with commas between
pub listed-same : (ns ms r s : List ℕ) → AllU64 ns → AllU64 ms → NoDigit 10 r → NoDigit 10 s → get_or r 0 0 ≢ 44 → get_or s 0 0 ≢ 44
    → listed ns ++ r ≡ listed ms ++ s → (ns ≡ ms) × (r ≡ s)
listed-same [] [] r s small small' stop stop' end end' e = (refl, e)
listed-same [] (m ∷ ms) r s small small' stop stop' end end' e = absurd (listed-other m ms s r small'.0 stop (sym e))
listed-same (n ∷ ns) [] r s small small' stop stop' end end' e = absurd (listed-other n ns r s small.0 stop' e)
listed-same (n ∷ []) (m ∷ []) r s small small' stop stop' end end' e =
    let (heads, rests) = decimal-same n m r s small.0 small'.0 stop stop' e in
    (ap (λ x. x ∷ []) heads, rests)
listed-same (n ∷ []) (m ∷ k ∷ ms) r s small small' stop stop' end end' e =
    let (heads, rests) = decimal-same n m r (44 ∷ (listed (k ∷ ms) ++ s)) small.0 small'.0 stop (lit≤ tt) (e ∙ append_assoc (decimal m) (44 ∷ listed (k ∷ ms)) s) in
    absurd (end (ap (λ t. get_or t 0 0) rests))
listed-same (n ∷ k ∷ ns) (m ∷ []) r s small small' stop stop' end end' e =
    let (heads, rests) = decimal-same n m (44 ∷ (listed (k ∷ ns) ++ r)) s small.0 small'.0 (lit≤ tt) stop' (sym (append_assoc (decimal n) (44 ∷ listed (k ∷ ns)) r) ∙ e) in
    absurd (end' (ap (λ t. get_or t 0 0) (sym rests)))
listed-same (n ∷ k ∷ ns) (m ∷ l ∷ ms) r s small small' stop stop' end end' e =
    let (heads, rests) = decimal-same n m (44 ∷ (listed (k ∷ ns) ++ r)) (44 ∷ (listed (l ∷ ms) ++ s)) small.0 small'.0 (lit≤ tt) (lit≤ tt)
    (sym (append_assoc (decimal n) (44 ∷ listed (k ∷ ns)) r) ∙ e ∙ append_assoc (decimal m) (44 ∷ listed (l ∷ ms)) s) in
    let (tails, ends) = listed-same (k ∷ ns) (l ∷ ms) r s small.1 small'.1 stop stop' end end' (ap (drop 1) rests) in
    (ap (λ x. x ∷ k ∷ ns) heads ∙ ap (λ xs. m ∷ xs) tails, ends)
