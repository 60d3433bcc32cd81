-- A form is read back from the front of a text with its numbers, and a table tells the row of the form.
use Rattle.std.proofs.Common.{◌≡◌, ◌≢◌, ℕ, ◌^◌, ◌-◌, ◌<◌, ◌==◌, nat_lt, Bool, true, false, cond, ◌&&◌, List, [], ◌∷◌, ◌++◌, length, get_or, Some, None, option_map, option_and_then, decimal, refl, ap, ◌∙◌, arith, inl, inr, drop_at, append_assoc, le-ltb, ne_eqb, eq-eqb, eqb-true}
use Rattle.std.proofs.lemmas.Bool.{and_left, and_right, and_parts, both_ways, cases_lt, leb-true}
use Rattle.std.proofs.lemmas.List.{get_or_append_left}
use Rattle.std.proofs.lemmas.Option.{none-some}
use Rattle.std.proofs.lemmas.Fmt.{decimal_is_IsNumeral, decimal_digit, first_decimal}
use Rattle.std.specs.Char.{digit_value}
use Rattle.std.specs.Str.Parse.{IsNumeral}
use Rattle.std.specs.Net.Reader.{read_byte}
use Rattle.std.proofs.NetLemmas.Numbers.{NoDigit, read_number_some, read_number_empty}
use Rattle.std.proofs.NetLemmas.Ipv4.{read_byte_other}
use Rattle.history_text.specs.Forms.{Piece, Hole, Byte, form, weave}
use Rattle.history_text.specs.Reading.{read_one, read_form, begins_apart, is_form, Fills, Row, same_piece, same_form, are_forms, Ends, apart, front_or, front_by, made_front}

-- a decimal has one digit, or begins with another digit than 0
no_leading_zero : (a : ℕ) (rest : List ℕ) → a < 2 ^ 64 → (nat_lt 1 (length (decimal a)) && (get_or (decimal a ++ rest) 0 0 == 48)) ≡ false
no_leading_zero a rest small =
    elim (cases_lt a 10) [
      | inl one ↦ and_left _ _ (le-ltb 1 (length (decimal a)) (omega (arith, ap length (decimal_digit a one))))
      | inr more ↦
          let first = first_decimal a (omega arith) small in
          let same = get_or_append_left (decimal a) rest 0 0 (decimal_is_IsNumeral a small).0.0 in
          and_right _ _ (ne_eqb (get_or (decimal a ++ rest) 0 0) 48 (omega arith))
    ]

pub read_one-back : (n : ℕ) (rest : List ℕ) → n < 2 ^ 64 → NoDigit 10 rest → read_one (decimal n ++ rest) ≡ Some (n, rest)
unfolding read_one
read_one-back n rest fits stop =
    let (numeral, value) = decimal_is_IsNumeral n fits in
    let read = read_number_some 10 (2 ^ 64 - 1) (decimal n) rest numeral (omega arith) stop in
    rw (read, no_leading_zero n rest fits, drop_at (decimal n) rest _ refl, value)

pub read_byte-back : (b : ℕ) (rest : List ℕ) → read_byte b (b ∷ rest) ≡ Some rest
read_byte-back b rest = rw (eq-eqb b b refl)

pub read_one-none : (text : List ℕ) → NoDigit 10 text → read_one text ≡ None
unfolding read_one
read_one-none text stop = rw (read_number_empty 10 (2 ^ 64 - 1) text stop)

same_piece-is : (p q : Piece) → same_piece p q ≡ true → p ≡ q
same_piece-is Hole Hole e = refl
same_piece-is Hole (Byte b) e = absurd (both_ways _ refl e)
same_piece-is (Byte a) Hole e = absurd (both_ways _ refl e)
same_piece-is (Byte a) (Byte b) e = ap Byte (eqb-true a b e)

pub same_form-is : (ps qs : List Piece) → same_form ps qs ≡ true → ps ≡ qs
same_form-is [] [] e = refl
same_form-is [] (q ∷ qs) e = absurd (both_ways _ refl e)
same_form-is (p ∷ ps) [] e = absurd (both_ways _ refl e)
same_form-is (p ∷ ps) (q ∷ qs) e =
    let heads = same_piece-is p q (and_parts _ _ e).0 in
    let tails = same_form-is ps qs (and_parts _ _ e).1 in
    cc

stops : (ps : List Piece) (ns rest : List ℕ) → begins_apart ps ≡ true → Ends (Hole ∷ ps) rest → NoDigit 10 (weave ps ns ++ rest)
stops [] ns rest begins ends = ends
stops (Hole ∷ ps) ns rest begins ends = absurd (both_ways _ refl begins)
stops (Byte b ∷ ps) ns rest begins ends = leb-true 10 (digit_value b) begins

later : (ps : List Piece) (rest : List ℕ) → Ends (Hole ∷ ps) rest → Ends ps rest
later [] rest ends = tt
later (p ∷ ps) rest ends = ends

pub read_form-front : (ps : List Piece) (ns rest : List ℕ) → is_form ps ≡ true → Fills ps ns → Ends ps rest → read_form ps (weave ps ns ++ rest) ≡ Some (ns, rest)
read_form-front [] [] rest ok fills ends = refl
read_form-front [] (n ∷ ns) rest ok fills ends = absurd fills
read_form-front (Byte b ∷ ps) ns rest ok fills ends =
    ap (option_and_then (λ r. read_form ps r)) (read_byte-back b (weave ps ns ++ rest)) ∙ read_form-front ps ns rest (and_parts _ _ ok).1 fills ends
read_form-front (Hole ∷ ps) [] rest ok fills ends = absurd fills
read_form-front (Hole ∷ ps) (n ∷ ns) rest ok fills ends =
    let behind = stops ps ns rest (and_parts _ _ ok).0 ends in
    ap (λ t. read_form (Hole ∷ ps) t) (append_assoc (decimal n) (weave ps ns) rest)
    ∙ ap (option_and_then (λ p. option_map (λ q. (p.0 ∷ q.0, q.1)) (read_form ps p.1))) (read_one-back n (weave ps ns ++ rest) fills.0 behind)
    ∙ ap (option_map (λ q. (n ∷ q.0, q.1))) (read_form-front ps ns rest (and_parts _ _ ok).1 fills.1 (later ps rest ends))

pub digit_first : (ds rest : List ℕ) → IsNumeral 10 ds → digit_value (get_or (ds ++ rest) 0 0) < 10
digit_first [] rest h = absurd (omega (arith, h.0))
digit_first (d ∷ ds) rest h = h.1.0

-- a form that differs doesn't stand at the front
pub apart-none : (g f : List Piece) (ns rest : List ℕ) → apart g f ≡ true → is_form g ≡ true → is_form f ≡ true → Fills f ns → read_form g (weave f ns ++ rest) ≡ None
apart-none [] f ns rest differ ok ok' fills = absurd (both_ways _ refl differ)
apart-none (Byte a ∷ g) [] ns rest differ ok ok' fills = absurd (both_ways _ refl differ)
apart-none (Hole ∷ g) [] ns rest differ ok ok' fills = absurd (both_ways _ refl differ)
apart-none (Byte a ∷ g) (Byte b ∷ f) ns rest differ ok ok' fills =
    elim (b == a) as (λ t. cond t (apart g f) true ≡ true → option_and_then (λ r. read_form g r) (cond t (Some (weave f ns ++ rest)) None) ≡ None) [
      | true ↦ λ e. apart-none g f ns rest e (and_parts _ _ ok).1 (and_parts _ _ ok').1 fills
      | false ↦ λ e. refl
    ] differ
apart-none (Byte a ∷ g) (Hole ∷ f) [] rest differ ok ok' fills = absurd fills
apart-none (Byte a ∷ g) (Hole ∷ f) (n ∷ ns) rest differ ok ok' fills =
    let text = decimal n ++ (weave f ns ++ rest) in
    let digit = digit_first (decimal n) (weave f ns ++ rest) (decimal_is_IsNumeral n fills.0).0 in
    let no_digit = leb-true 10 (digit_value a) (and_parts _ _ ok).0 in
    let other : get_or text 0 0 ≢ a = λ is. absurd (let same = ap digit_value is in omega (arith, digit, no_digit, same)) in
    ap (read_form (Byte a ∷ g)) (append_assoc (decimal n) (weave f ns) rest) ∙ ap (option_and_then (λ r. read_form g r)) (read_byte_other a text other)
apart-none (Hole ∷ g) (Byte b ∷ f) ns rest differ ok ok' fills =
    ap (option_and_then (λ p. option_map (λ q. (p.0 ∷ q.0, q.1)) (read_form g p.1))) (read_one-none (b ∷ (weave f ns ++ rest)) (leb-true 10 (digit_value b) (and_parts _ _ ok').0))
apart-none (Hole ∷ g) (Hole ∷ f) [] rest differ ok ok' fills = absurd fills
apart-none (Hole ∷ []) (Hole ∷ f) (n ∷ ns) rest differ ok ok' fills = absurd (both_ways _ refl differ)
apart-none (Hole ∷ p ∷ g) (Hole ∷ []) (n ∷ ns) rest differ ok ok' fills = absurd (both_ways _ refl differ)
apart-none (Hole ∷ p ∷ g) (Hole ∷ Hole ∷ f) (n ∷ ns) rest differ ok ok' fills = absurd (both_ways _ refl ok')
apart-none (Hole ∷ p ∷ g) (Hole ∷ Byte b ∷ f) (n ∷ ns) rest differ ok ok' fills =
    let behind = leb-true 10 (digit_value b) (and_parts _ _ ok').0 in
    ap (read_form (Hole ∷ p ∷ g)) (append_assoc (decimal n) (weave (Byte b ∷ f) ns) rest)
    ∙ ap (option_and_then (λ r. option_map (λ q. (r.0 ∷ q.0, q.1)) (read_form (p ∷ g) r.1))) (read_one-back n (weave (Byte b ∷ f) ns ++ rest) fills.0 behind)
    ∙ ap (option_map (λ q. (n ∷ q.0, q.1))) (apart-none (p ∷ g) (Byte b ∷ f) ns rest differ (and_parts _ _ ok).1 (and_parts _ _ ok').1 fills.1)

-- a row at the front
front_row : {A : Type 0} (row : Row A) (rows : List (Row A)) (ps : List Piece) (ns rest : List ℕ) (a : A) (b c : Bool) → same_form (form row.text) ps ≡ b → apart (form row.text) ps ≡ c
    → is_form (form row.text) ≡ true → is_form ps ≡ true → Fills ps ns → Ends ps rest → cond b (row.make ns) (cond c (made_front rows ps ns) None) ≡ Some a
    → (made_front rows ps ns ≡ Some a → front_by rows (weave ps ns ++ rest) ≡ Some (a, rest))
    → front_or row (read_form (form row.text) (weave ps ns ++ rest)) (front_by rows (weave ps ns ++ rest)) ≡ Some (a, rest)
front_row row rows ps ns rest a true c same differ ok ok' fills ends made more =
    let is = same_form-is (form row.text) ps same in
    ap (λ o. front_or row o (front_by rows (weave ps ns ++ rest))) (ap (λ qs. read_form qs (weave ps ns ++ rest)) is ∙ read_form-front ps ns rest ok' fills ends)
    ∙ ap (option_map (λ x. (x, rest))) made
front_row row rows ps ns rest a false true same differ ok ok' fills ends made more =
    ap (λ o. front_or row o (front_by rows (weave ps ns ++ rest))) (apart-none (form row.text) ps ns rest differ ok ok' fills) ∙ more made
front_row row rows ps ns rest a false false same differ ok ok' fills ends made more = absurd (none-some a made)

pub front-back : {A : Type 0} (rows : List (Row A)) (ps : List Piece) (ns rest : List ℕ) (a : A) → are_forms rows ≡ true → is_form ps ≡ true → Fills ps ns → Ends ps rest
    → made_front rows ps ns ≡ Some a → front_by rows (weave ps ns ++ rest) ≡ Some (a, rest)
front-back [] ps ns rest a oks ok fills ends made = absurd (none-some a made)
front-back (row ∷ rows) ps ns rest a oks ok fills ends made =
    front_row row rows ps ns rest a _ _ refl refl (and_parts _ _ oks).0 ok fills ends made
    (front-back rows ps ns rest a (and_parts _ _ oks).1 ok fills ends)
