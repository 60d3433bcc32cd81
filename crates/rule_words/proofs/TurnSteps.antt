-- One more turn.
use Rattle.std.proofs.Common.{◌≡◌, ℕ, ◌+◌, ◌-◌, ◌<◌, ◌≤◌, cond, List, [], ◌∷◌, length, take, drop, map, get_or, Option, None, Some, true, false, refl, sym, ap, ◌∙◌, suc, zero}
use Rattle.std.specs.Option.{option_and_then, option_map}
use Rattle.std.specs.Str.{bytes_eq}
use Rattle.std.proofs.lemmas.List.{drop_more, at_drop_all, take_rest}
use Rattle.rule_words.specs.Turns.{turns}

-- no word is left
turns-nil : {X A : Type 0} (fuel : List X) (ending : List ℕ) (turn : A → List (List ℕ) → Option (A × List (List ℕ))) (a : A) → turns fuel ending turn a [] ≡ None
turns-nil [] ending turn a = refl
turns-nil (x ∷ xs) ending turn a = refl

pub turns-past : {A : Type 0} (i at : ℕ) (ending : List ℕ) (turn : A → List (List ℕ) → Option (A × List (List ℕ))) (a : A) (words : List (List ℕ))
    → length words ≤ at → turns (drop i words) ending turn a (drop at words) ≡ None
turns-past i at ending turn a words past = at_drop_all (turns (drop i words) ending turn a) words at past ∙ turns-nil (drop i words) ending turn a

-- the word that stands at a place
pub turns-at : {A : Type 0} (i at : ℕ) (ending : List ℕ) (turn : A → List (List ℕ) → Option (A × List (List ℕ))) (a : A) (words : List (List ℕ)) (word : List ℕ)
    → i < length words → at < length words → get_or words at word ≡ word
    → turns (drop i words) ending turn a (drop at words)
    ≡ cond (bytes_eq word ending) (Some (a, drop (at + 1) words)) (option_and_then (λ read. turns (drop (i + 1) words) ending turn read.0 read.1) (turn a (drop at words)))
turns-at i at ending turn a words word fuel within is =
    let front : drop at words ≡ word ∷ drop (at + 1) words = drop_more words at word within ∙ ap (λ w. w ∷ drop (at + 1) words) is in
    ap (λ f. turns f ending turn a (drop at words)) (drop_more words i word fuel)
    ∙ ap (turns (get_or words i word ∷ drop (i + 1) words) ending turn a) front
    ∙ ap (λ ws. cond (bytes_eq word ending) (Some (a, drop (at + 1) words)) (option_and_then (λ read. turns (drop (i + 1) words) ending turn read.0 read.1) (turn a ws))) (sym front)

-- the ending word stands there; or a turn that says nothing; or one that does
pub turns-end : {A : Type 0} (i at : ℕ) (ending : List ℕ) (turn : A → List (List ℕ) → Option (A × List (List ℕ))) (a : A) (words : List (List ℕ)) (word : List ℕ)
    → i < length words → at < length words → get_or words at word ≡ word → bytes_eq word ending ≡ true
    → Some (a, drop (at + 1) words) ≡ turns (drop i words) ending turn a (drop at words)
turns-end i at ending turn a words word fuel within is same =
    sym (turns-at i at ending turn a words word fuel within is
    ∙ ap (λ b. cond b (Some (a, drop (at + 1) words)) (option_and_then (λ read. turns (drop (i + 1) words) ending turn read.0 read.1) (turn a (drop at words)))) same)

turns-other : {A : Type 0} (i at : ℕ) (ending : List ℕ) (turn : A → List (List ℕ) → Option (A × List (List ℕ))) (a : A) (words : List (List ℕ)) (word : List ℕ)
    → i < length words → at < length words → get_or words at word ≡ word → bytes_eq word ending ≡ false
    → turns (drop i words) ending turn a (drop at words) ≡ option_and_then (λ read. turns (drop (i + 1) words) ending turn read.0 read.1) (turn a (drop at words))
turns-other i at ending turn a words word fuel within is other =
    turns-at i at ending turn a words word fuel within is
    ∙ ap (λ b. cond b (Some (a, drop (at + 1) words)) (option_and_then (λ read. turns (drop (i + 1) words) ending turn read.0 read.1) (turn a (drop at words)))) other

pub turns-none : {A : Type 0} (i at : ℕ) (ending : List ℕ) (turn : A → List (List ℕ) → Option (A × List (List ℕ))) (a : A) (words : List (List ℕ)) (word : List ℕ)
    → i < length words → at < length words → get_or words at word ≡ word → bytes_eq word ending ≡ false → None ≡ turn a (drop at words)
    → None ≡ turns (drop i words) ending turn a (drop at words)
turns-none i at ending turn a words word fuel within is other none =
    ap (option_and_then (λ read. turns (drop (i + 1) words) ending turn read.0 read.1)) none
    ∙ sym (turns-other i at ending turn a words word fuel within is other)

pub turns-more : {A : Type 0} (i at : ℕ) (ending : List ℕ) (turn : A → List (List ℕ) → Option (A × List (List ℕ))) (a b : A) (words rest : List (List ℕ)) (word : List ℕ)
    → i < length words → at < length words → get_or words at word ≡ word → bytes_eq word ending ≡ false → Some (b, rest) ≡ turn a (drop at words)
    → turns (drop (i + 1) words) ending turn b rest ≡ turns (drop i words) ending turn a (drop at words)
turns-more i at ending turn a b words rest word fuel within is other some =
    ap (option_and_then (λ read. turns (drop (i + 1) words) ending turn read.0 read.1)) some
    ∙ sym (turns-other i at ending turn a words word fuel within is other)

-- the words from a place on
pub map-drop : {X Y : Type 0} (f : X → Y) (xs : List X) (at : ℕ) → map f (drop at xs) ≡ drop at (map f xs)
map-drop f xs zero = refl
map-drop f [] (suc at) = refl
map-drop f (x ∷ xs) (suc at) = map-drop f xs at

pub map-rest : {X Y : Type 0} (f : X → Y) (xs : List X) (at : ℕ) → map f (take (length xs - at) (drop at xs)) ≡ drop at (map f xs)
map-rest f xs at = ap (map f) (take_rest xs at) ∙ map-drop f xs at

-- turns of one value in turns of another
pub turns-within : {X A B : Type 0} (f : A → B) (ending : List ℕ) (turn : A → List (List ℕ) → Option (A × List (List ℕ))) (outer : B → List (List ℕ) → Option (B × List (List ℕ)))
    → ((a : A) (words : List (List ℕ)) → outer (f a) words ≡ option_map (λ read. (f read.0, read.1)) (turn a words))
    → (fuel : List X) (a : A) (words : List (List ℕ)) → turns fuel ending outer (f a) words ≡ option_map (λ read. (f read.0, read.1)) (turns fuel ending turn a words)
turns-within f ending turn outer each [] a words = refl
turns-within f ending turn outer each (x ∷ xs) a [] = refl
turns-within {X} {A} {B} f ending turn outer each (x ∷ xs) a (word ∷ words) =
    let out : A × List (List ℕ) → B × List (List ℕ) = λ read. (f read.0, read.1) in
    let said : option_and_then (λ (read : B × List (List ℕ)). turns xs ending outer read.0 read.1) (outer (f a) (word ∷ words))
    ≡ option_map out (option_and_then (λ (read : A × List (List ℕ)). turns xs ending turn read.0 read.1) (turn a (word ∷ words)))
    = ap (option_and_then (λ (read : B × List (List ℕ)). turns xs ending outer read.0 read.1)) (each a (word ∷ words))
    ∙ elim (turn a (word ∷ words)) as (λ o. option_and_then (λ (read : B × List (List ℕ)). turns xs ending outer read.0 read.1) (option_map out o)
    ≡ option_map out (option_and_then (λ (read : A × List (List ℕ)). turns xs ending turn read.0 read.1) o)) [
      | None ↦ refl
      | Some read ↦ turns-within f ending turn outer each xs read.0 read.1
    ] in
    elim (bytes_eq word ending) as (λ t. cond t (Some (f a, words)) (option_and_then (λ (read : B × List (List ℕ)). turns xs ending outer read.0 read.1) (outer (f a) (word ∷ words)))
    ≡ option_map out (cond t (Some (a, words)) (option_and_then (λ (read : A × List (List ℕ)). turns xs ending turn read.0 read.1) (turn a (word ∷ words))))) [
      | true ↦ refl
      | false ↦ said
    ]
