-- One more byte before `::`.
use Rattle.std.proofs.Common.{◌≡◌, ℕ, ◌+◌, ◌-◌, ◌<◌, eqb, cond, Bool, List, [], ◌∷◌, ◌++◌, length, take, drop, get_or, codes, Option, Some, sym, ap, ◌∙◌}
use Rattle.std.specs.List.{starts_with}
use Rattle.std.proofs.lemmas.List.{at_drop_more, take_more, take_rest, drop-drop}
use Rattle.rule_words.specs.Address.{sides_from}

abbrev chosen : List ℕ → List ℕ → Option (List ℕ × List ℕ) → Option (List ℕ × List ℕ)
chosen front bytes others = cond (starts_with eqb bytes (codes "::")) (Some (front, drop 2 bytes)) others

pub sides-step : (text : List ℕ) (i : ℕ) (found : Bool) → i < length text → found ≡ starts_with eqb (take (length text - i) (drop i text)) (codes "::")
    → sides_from (take i text) (drop i text) ≡ cond found (Some (take i text, drop (i + 2) text)) (sides_from (take (i + 1) text) (drop (i + 1) text))
sides-step text i found within is =
    let front = take i text in
    let byte = get_or text i 0 in
    let others = sides_from (front ++ byte ∷ []) (drop (i + 1) text) in
    at_drop_more (sides_from front) text i 0 within
    ∙ sym (at_drop_more (λ bytes. chosen front bytes others) text i 0 within)
    ∙ ap (λ b. cond b (Some (front, drop 2 (drop i text))) others) (sym (is ∙ ap (λ bytes. starts_with eqb bytes (codes "::")) (take_rest text i)))
    ∙ ap (λ back. cond found (Some (front, back)) others) (drop-drop 2 i text)
    ∙ ap (λ more. cond found (Some (front, drop (i + 2) text)) (sides_from more (drop (i + 1) text))) (sym (take_more text i 0 within))
