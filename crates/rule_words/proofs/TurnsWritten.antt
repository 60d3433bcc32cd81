-- What is written in turns is read so, and what is read was written so, whatever the turns are.
use Rattle.std.proofs.Common.{◌≡◌, ℕ, ◌<◌, ◌≤◌, cond, true, false, Bool, List, [], ◌∷◌, ◌++◌, length, length-append, Option, None, Some, refl, arith, sym, ap, ◌∙◌, append_assoc}
use Rattle.std.specs.Option.{option_and_then, option_map}
use Rattle.std.specs.Str.{bytes_eq}
use Rattle.std.proofs.lemmas.Slice.Eq.{bytes_eq-Decides}
use Rattle.rule_words.specs.Turns.{turns, up_to}
use Rattle.rule_words.specs.Written.{words_up_to, made_by}

-- what an option goes on with, and what it is mapped to
pub on_some : {X Y : Type 0} (o : Option X) (f : X → Option Y) (y : Y) → option_and_then f o ≡ Some y → (x : X) × (o ≡ Some x) × (f x ≡ Some y)
on_some None f y is = cc
on_some (Some x) f y is = (x, refl, is)

pub on_map : {X Y : Type 0} (o : Option X) (f : X → Y) (y : Y) → option_map f o ≡ Some y → (x : X) × (o ≡ Some x) × (f x ≡ y)
on_map None f y is = cc
on_map (Some x) f y is = let same : f x ≡ y = cc in (x, refl, same)

-- a test that can't be true
pub is_false : (b : Bool) → (b ≡ true → ⊥) → b ≡ false
is_false true not_true = absurd (not_true refl)
is_false false not_true = refl

-- the turns, one for each thing that is written
turns-read : {X A Y : Type 0} (ending : List ℕ) (turn : A → List (List ℕ) → Option (A × List (List ℕ))) (words_of : X → List (List ℕ)) (make : A → X → Option A)
    → ((a b : A) (x : X) (rest : List (List ℕ)) → make a x ≡ Some b → turn a (words_of x ++ rest) ≡ Some (b, rest))
    → ((a b : A) (x : X) → make a x ≡ Some b → (word : List ℕ) × (words : List (List ℕ)) × (words_of x ≡ word ∷ words) × (bytes_eq word ending ≡ false))
    → (xs : List X) (fuel : List Y) (a b : A) (rest : List (List ℕ)) → made_by make a xs ≡ Some b → length xs < length fuel
    → turns fuel ending turn a (words_up_to ending words_of xs ++ rest) ≡ Some (b, rest)
turns-read ending turn words_of make each begins [] [] a b rest is few = absurd (omega arith)
turns-read ending turn words_of make each begins [] (y ∷ ys) a b rest is few =
    let same : a ≡ b = cc in
    ap (λ t. cond t (Some (a, rest)) (option_and_then (λ read. turns ys ending turn read.0 read.1) (turn a (ending ∷ rest)))) ((bytes_eq-Decides ending ending).1 refl)
    ∙ ap (λ v. Some (v, rest)) same
turns-read ending turn words_of make each begins (x ∷ xs) [] a b rest is few = absurd (omega arith)
turns-read ending turn words_of make each begins (x ∷ xs) (y ∷ ys) a b rest is few =
    let next = on_some (make a x) (λ after. made_by make after xs) b is in
    let front = begins a next.0 x next.1 in
    let others = words_up_to ending words_of xs ++ rest in
    ap (turns (y ∷ ys) ending turn a) (append_assoc (words_of x) (words_up_to ending words_of xs) rest ∙ ap (λ ws. ws ++ others) front.2)
    ∙ ap (λ t. cond t (Some (a, front.1 ++ others)) (option_and_then (λ read. turns ys ending turn read.0 read.1) (turn a (front.0 ∷ (front.1 ++ others))))) front.3
    ∙ ap (λ ws. option_and_then (λ read. turns ys ending turn read.0 read.1) (turn a (ws ++ others))) (sym front.2)
    ∙ ap (option_and_then (λ read. turns ys ending turn read.0 read.1)) (each a next.0 x others next.1)
    ∙ turns-read ending turn words_of make each begins xs ys next.0 b rest next.2 (omega arith)

-- there are enough words
enough : {X : Type 0} (ending : List ℕ) (words_of : X → List (List ℕ)) → ((x : X) → 1 ≤ length (words_of x)) → (xs : List X) → length xs < length (words_up_to ending words_of xs)
enough ending words_of some [] = omega arith
enough ending words_of some (x ∷ xs) =
    omega (arith, enough ending words_of some xs, some x, length-append (words_of x) (words_up_to ending words_of xs))

-- things of which each is read alone, and begins with a word that isn't the ending one, are read together
pub up_to-read : {X A : Type 0} (ending : List ℕ) (turn : A → List (List ℕ) → Option (A × List (List ℕ))) (words_of : X → List (List ℕ)) (make : A → X → Option A)
    → ((x : X) → 1 ≤ length (words_of x))
    → ((a b : A) (x : X) (rest : List (List ℕ)) → make a x ≡ Some b → turn a (words_of x ++ rest) ≡ Some (b, rest))
    → ((a b : A) (x : X) → make a x ≡ Some b → (word : List ℕ) × (words : List (List ℕ)) × (words_of x ≡ word ∷ words) × (bytes_eq word ending ≡ false))
    → (xs : List X) (a b : A) (rest : List (List ℕ)) → made_by make a xs ≡ Some b
    → up_to ending turn a (words_up_to ending words_of xs ++ rest) ≡ Some (b, rest)
up_to-read ending turn words_of make some each begins xs a b rest is =
    turns-read ending turn words_of make each begins xs (words_up_to ending words_of xs ++ rest) a b rest is
    (omega (arith, enough ending words_of some xs, length-append (words_up_to ending words_of xs) rest))

-- what is read was written so, where that is so of each turn
pub turns-only : {X A Y : Type 0} (ending : List ℕ) (turn : A → List (List ℕ) → Option (A × List (List ℕ))) (words_of : X → List (List ℕ)) (make : A → X → Option A)
    → ((a b : A) (words rest : List (List ℕ)) → turn a words ≡ Some (b, rest) → (x : X) × (words ≡ words_of x ++ rest) × (make a x ≡ Some b))
    → (fuel : List Y) (a b : A) (words rest : List (List ℕ)) → turns fuel ending turn a words ≡ Some (b, rest)
    → (xs : List X) × (words ≡ words_up_to ending words_of xs ++ rest) × (made_by make a xs ≡ Some b)
turns-only ending turn words_of make each [] a b words rest is = absurd cc
turns-only ending turn words_of make each (y ∷ ys) a b [] rest is = absurd cc
turns-only {X} {A} ending turn words_of make each (y ∷ ys) a b (word ∷ words) rest is =
    elim (bytes_eq word ending)
    as (λ t. bytes_eq word ending ≡ t
    → cond t (Some (a, words)) (option_and_then (λ read. turns ys ending turn read.0 read.1) (turn a (word ∷ words))) ≡ Some (b, rest)
    → (xs : List X) × (word ∷ words ≡ words_up_to ending words_of xs ++ rest) × (made_by make a xs ≡ Some b)) [
      | true ↦ λ same e.
          let pair : ◌≡◌ {A = A × List (List ℕ)} (a, words) (b, rest) = cc in
          ([], ap (λ w. w ∷ words) ((bytes_eq-Decides word ending).0 same) ∙ ap (λ (p : A × List (List ℕ)). ending ∷ p.1) pair, ap (λ (p : A × List (List ℕ)). Some p.0) pair)
      | false ↦ λ other e.
          let read = on_some (turn a (word ∷ words)) (λ read. turns ys ending turn read.0 read.1) (b, rest) e in
          let x = each a read.0.0 (word ∷ words) read.0.1 read.1 in
          let xs = turns-only ending turn words_of make each ys read.0.0 b read.0.1 rest read.2 in (
            x.0 ∷ xs.0,
            x.1 ∙ ap (λ ws. words_of x.0 ++ ws) xs.1 ∙ sym (append_assoc (words_of x.0) (words_up_to ending words_of xs.0) rest),
            ap (option_and_then (λ after. made_by make after xs.0)) x.2 ∙ xs.2,
          )
    ] refl is
