-- Ids that are written as the grammar says are read so.
use Rattle.std.proofs.Common.{◌≡◌, ℕ, ◌≤◌, cond, false, List, [], ◌∷◌, ◌++◌, length, None, Some, refl, ap, ◌∙◌}
use Rattle.std.specs.Option.{option_and_then, option_map}
use Rattle.std.proofs.lemmas.Slice.Eq.{bytes_eq-Decides}
use Rattle.rule_words.specs.Number.{number_of_bits}
use Rattle.rule_words.specs.Ids.{ids_in_front, ids_of}
use Rattle.rule_words.specs.Written.{id_words, ids_with, goes_on_with}
use Rattle.rule_words.proofs.TurnsWritten.{on_some, on_map}
use Rattle.rule_words.proofs.IdSteps.{tested, within}

no-id : (name : List ℕ) (bits : ℕ) (rest : List (List ℕ)) → goes_on_with name rest ≡ false → ids_in_front name bits rest ≡ Some ([], rest)
no-id name bits [] other = refl
no-id name bits (word ∷ []) other = ap (λ b. cond b None (Some ([], word ∷ []))) other
no-id name bits (word ∷ value ∷ rest) other =
    ap (λ b. cond b (option_and_then (λ id. option_map (λ read. (id ∷ read.0, read.1)) (ids_in_front name bits rest)) (number_of_bits bits value)) (Some ([], word ∷ value ∷ rest))) other

front-read : (name : List ℕ) (bits : ℕ) (values : List (List ℕ)) (ids : List ℕ) (rest : List (List ℕ)) → ids_with bits values ≡ Some ids → goes_on_with name rest ≡ false
    → ids_in_front name bits (id_words name values ++ rest) ≡ Some (ids, rest)
front-read name bits [] ids rest is other = let same : [] ≡ ids = cc in no-id name bits rest other ∙ ap (λ ids. Some (ids, rest)) same
front-read name bits (value ∷ values) ids rest is other =
    let id = on_some (number_of_bits bits value) (λ id. option_map (λ ids. id ∷ ids) (ids_with bits values)) ids is in
    let more = on_map (ids_with bits values) (λ ids. id.0 ∷ ids) ids id.2 in
    let others = id_words name values ++ rest in
    ap (λ b. cond b (option_and_then (λ id. option_map (λ read. (id ∷ read.0, read.1)) (ids_in_front name bits others)) (number_of_bits bits value)) (Some ([], name ∷ value ∷ others)))
    ((bytes_eq-Decides name name).1 refl)
    ∙ ap (option_and_then (λ id. option_map (λ read. (id ∷ read.0, read.1)) (ids_in_front name bits others))) id.1
    ∙ ap (option_map (λ read. (id.0 ∷ read.0, read.1))) (front-read name bits values more.0 rest more.1 other)
    ∙ ap (λ ids. Some (ids, rest)) more.2

pub ids-read : (name : List ℕ) (bits most : ℕ) (values : List (List ℕ)) (ids : List ℕ) (rest : List (List ℕ)) → ids_with bits values ≡ Some ids
    → 1 ≤ length ids → length ids ≤ most → goes_on_with name rest ≡ false → ids_of name bits most (id_words name values ++ rest) ≡ Some (ids, rest)
ids-read name bits most values ids rest is some few other =
    ap (option_and_then (λ read. tested most read)) (front-read name bits values ids rest is other)
    ∙ ap (λ b. cond b (Some (ids, rest)) None) (within (length ids) most some few)
