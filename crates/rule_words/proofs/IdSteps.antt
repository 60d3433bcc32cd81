-- One more id of a list.
use Rattle.std.proofs.Common.{◌≡◌, ℕ, ◌<◌, ◌≤◌, cond, true, false, List, [], ◌∷◌, ◌++◌, length, append_assoc, append-nil, length-append, Option, None, Some, refl, arith, sym, ap, ◌∙◌}
use Rattle.std.specs.Prelude.{◌&&◌, nat_le}
use Rattle.std.specs.Option.{option_and_then, option_map}
use Rattle.std.proofs.lemmas.Bool.Decides.{nat_tests}
use Rattle.rule_words.specs.Ids.{ids_in_front, ids_of}

-- ids read so far, and what the words behind them say
abbrev pub joined : List ℕ → Option (List ℕ × List (List ℕ)) → Option (List ℕ × List (List ℕ))
joined ids o = option_map (λ read. (ids ++ read.0, read.1)) o

abbrev pub with_id : ℕ → Option (List ℕ × List (List ℕ)) → Option (List ℕ × List (List ℕ))
with_id id o = option_map (λ read. (id ∷ read.0, read.1)) o

abbrev pub tested : ℕ → List ℕ × List (List ℕ) → Option (List ℕ × List (List ℕ))
tested most read = cond (nat_le 1 (length read.0) && nat_le (length read.0) most) (Some read) None

pub joined-nil : (o : Option (List ℕ × List (List ℕ))) → joined [] o ≡ o
joined-nil None = refl
joined-nil (Some read) = refl

pub joined-push : (ids : List ℕ) (id : ℕ) (o : Option (List ℕ × List (List ℕ))) → joined (ids ++ id ∷ []) o ≡ joined ids (with_id id o)
joined-push ids id None = refl
joined-push ids id (Some read) = ap (λ all. Some (all, read.1)) (append_assoc ids (id ∷ []) read.0)

-- the limit of a list
pub within : (n most : ℕ) → 1 ≤ n → n ≤ most → nat_le 1 n && nat_le n most ≡ true
within n most some few = grind (arith, nat_tests)

over : (n most : ℕ) → most < n → nat_le 1 n && nat_le n most ≡ false
over n most many = grind (arith, nat_tests)

pub ids-many : (name : List ℕ) (bits most : ℕ) (words : List (List ℕ)) (ids : List ℕ) (id : ℕ) (o : Option (List ℕ × List (List ℕ)))
    → joined ids (with_id id o) ≡ ids_in_front name bits words → most ≤ length ids → None ≡ ids_of name bits most words
ids-many name bits most words ids id None is many = ap (option_and_then (tested most)) is
ids-many name bits most words ids id (Some read) is many =
    sym (ap (λ b. cond b (Some (ids ++ id ∷ read.0, read.1)) None) (over (length (ids ++ id ∷ read.0)) most (omega (arith, many, length-append ids (id ∷ read.0)))))
    ∙ ap (option_and_then (tested most)) is

pub ids-bad : (name : List ℕ) (bits most : ℕ) (words : List (List ℕ)) (ids : List ℕ) (o : Option (List ℕ × List (List ℕ)))
    → joined ids o ≡ ids_in_front name bits words → o ≡ None → None ≡ ids_of name bits most words
ids-bad name bits most words ids o is none = ap (λ o. option_and_then (tested most) (joined ids o)) (sym none) ∙ ap (option_and_then (tested most)) is

pub ids-ended : (name : List ℕ) (bits most : ℕ) (words rest : List (List ℕ)) (ids : List ℕ) (o : Option (List ℕ × List (List ℕ)))
    → joined ids o ≡ ids_in_front name bits words → o ≡ Some ([], rest) → 1 ≤ length ids → length ids ≤ most → Some (ids, rest) ≡ ids_of name bits most words
ids-ended name bits most words rest ids o is end some few =
    sym (ap (λ b. cond b (Some (ids, rest)) None) (within (length ids) most some few))
    ∙ ap (λ all. tested most (all, rest)) (sym (append-nil ids))
    ∙ ap (λ o. option_and_then (tested most) (joined ids o)) (sym end) ∙ ap (option_and_then (tested most)) is

pub ids-empty : (name : List ℕ) (bits most : ℕ) (words rest : List (List ℕ)) (ids : List ℕ) (o : Option (List ℕ × List (List ℕ)))
    → joined ids o ≡ ids_in_front name bits words → o ≡ Some ([], rest) → length ids ≡ 0 → None ≡ ids_of name bits most words
ids-empty name bits most words rest [] o is end none = ap (λ o. option_and_then (tested most) (joined [] o)) (sym end) ∙ ap (option_and_then (tested most)) is
ids-empty name bits most words rest (id ∷ ids) o is end none = cc

pub ids-none : (name : List ℕ) (bits most : ℕ) (words : List (List ℕ)) → length words ≡ 0 → None ≡ ids_of name bits most words
ids-none name bits most [] none = refl
ids-none name bits most (word ∷ words) none = cc
