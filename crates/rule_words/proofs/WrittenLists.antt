-- The lists of RSS that are written as the grammar says are read so, and what is read was written so.
use Rattle.std.proofs.Common.{◌≡◌, ℕ, ltb, cond, true, false, List, [], ◌∷◌, ◌++◌, length, codes, Option, None, Some, refl, arith, sym, ap, ◌∙◌}
use Rattle.std.specs.Option.{option_and_then, option_map}
use Rattle.std.specs.Str.{bytes_eq}
use Rattle.std.proofs.lemmas.Slice.Eq.{bytes_eq-Decides}
use Rattle.arrayvec.specs.ArrayVec.{ArrayVec}
use Rattle.flow_actions.specs.declared.rss.Rss.{Rss}
use Rattle.rule_words.specs.declared.rss_lists.RssList.{RssList}
use Rattle.rule_words.specs.declared.rss_lists.RssList.TheVariants as lists
use Rattle.rule_words.specs.declared.rss_lists.Types.{Types}
use Rattle.rule_words.specs.Vocabulary.{meaning_of}
use Rattle.rule_words.specs.Number.{number_of_bits}
use Rattle.rule_words.specs.Turns.{up_to}
use Rattle.rule_words.specs.RssLists.{list_words, no_queues, no_types, with_queue, with_queues, with_type, with_types, listed, list_behind, rss_setting}
use Rattle.rule_words.specs.Written.{words_up_to, made_by, alone, list_with}
use Rattle.rule_words.proofs.TurnsWritten.{on_some, on_map, is_false, up_to-read, turns-only}

-- `end` is no queue and no type
abbrev one_more : ArrayVec ℕ → ℕ → ArrayVec ℕ
one_more queues queue = record { items = queues.items ++ queue ∷ [] }

end-queue : (queues : ArrayVec ℕ) → with_queue queues (codes "end") ≡ None
end-queue queues = elim (ltb (length queues.items) 16) as (λ b. cond b (option_map (one_more queues) (number_of_bits 16 (codes "end"))) None ≡ None) [ true ↦ refl | false ↦ refl ]

end-type : (types : Types) → with_type types (codes "end") ≡ None
end-type types = refl

-- one word of a list
module _ {A : Type 0} (with_one : A → List ℕ → Option A) (end-none : (a : A) → with_one a (codes "end") ≡ None) where
  one-read : (a b : A) (word : List ℕ) (rest : List (List ℕ)) → with_one a word ≡ Some b → listed with_one a (alone word ++ rest) ≡ Some (b, rest)
  one-read a b word rest is = ap (option_map (λ after. (after, rest))) is

  one-begins : (a b : A) (word : List ℕ) → with_one a word ≡ Some b → (first : List ℕ) × (others : List (List ℕ)) × (alone word ≡ first ∷ others) × (bytes_eq first (codes "end") ≡ false)
  one-begins a b word is = (
    word,
    [],
    refl,
    is_false (bytes_eq word (codes "end")) (λ same.
        let none : None ≡ Some b = sym (end-none a) ∙ ap (with_one a) (sym ((bytes_eq-Decides word (codes "end")).0 same)) ∙ is in cc),
  )

  one-only : (a b : A) (given rest : List (List ℕ)) → listed with_one a given ≡ Some (b, rest) → (word : List ℕ) × (given ≡ alone word ++ rest) × (with_one a word ≡ Some b)
  one-only a b [] rest is = absurd cc
  one-only a b (word ∷ others) rest is =
      let after = on_map (with_one a word) (λ after. (after, others)) (b, rest) is in
      (word, ap (λ (p : A × List (List ℕ)). word ∷ p.1) after.2, after.1 ∙ ap (λ (p : A × List (List ℕ)). Some p.0) after.2)

  -- a list up to its `end`
  pub listed-read : (words : List (List ℕ)) (a b : A) (rest : List (List ℕ)) → made_by with_one a words ≡ Some b
      → up_to (codes "end") (listed with_one) a (words_up_to (codes "end") alone words ++ rest) ≡ Some (b, rest)
  listed-read words a b rest is = up_to-read (codes "end") (listed with_one) alone with_one (λ word. omega arith) one-read one-begins words a b rest is

  pub listed-only : (a b : A) (given rest : List (List ℕ)) → up_to (codes "end") (listed with_one) a given ≡ Some (b, rest)
      → (words : List (List ℕ)) × (given ≡ words_up_to (codes "end") alone words ++ rest) × (made_by with_one a words ≡ Some b)
  listed-only a b given rest is = turns-only (codes "end") (listed with_one) alone with_one one-only given a b given rest is

-- a list of RSS
list-read : (rss after : Rss) (list : RssList) (words rest : List (List ℕ)) → list_with rss words list ≡ Some after
    → list_behind rss list (words_up_to (codes "end") alone words ++ rest) ≡ Some (after, rest)
list-read rss after lists.Queues words rest is =
    let queues = on_map (made_by with_queue no_queues words) (with_queues rss) after is in
    ap (option_map (λ read. (with_queues rss read.0, read.1))) (listed-read with_queue end-queue words no_queues queues.0 rest queues.1)
    ∙ ap (λ r. Some (r, rest)) queues.2
list-read rss after lists.Types words rest is =
    let types = on_map (made_by with_type no_types words) (with_types rss) after is in
    ap (option_map (λ read. (with_types rss read.0, read.1))) (listed-read with_type end-type words no_types types.0 rest types.1)
    ∙ ap (λ r. Some (r, rest)) types.2

list-only : (rss after : Rss) (list : RssList) (given rest : List (List ℕ)) → list_behind rss list given ≡ Some (after, rest)
    → (words : List (List ℕ)) × (given ≡ words_up_to (codes "end") alone words ++ rest) × (list_with rss words list ≡ Some after)
list-only rss after lists.Queues given rest is =
    let read = on_map (up_to (codes "end") (listed with_queue) no_queues given) (λ read. (with_queues rss read.0, read.1)) (after, rest) is in
    let words = listed-only with_queue end-queue no_queues read.0.0 given read.0.1 read.1 in (
      words.0,
      words.1 ∙ ap (λ (p : Rss × List (List ℕ)). words_up_to (codes "end") alone words.0 ++ p.1) read.2,
      ap (option_map (with_queues rss)) words.2 ∙ ap (λ (p : Rss × List (List ℕ)). Some p.0) read.2,
    )
list-only rss after lists.Types given rest is =
    let read = on_map (up_to (codes "end") (listed with_type) no_types given) (λ read. (with_types rss read.0, read.1)) (after, rest) is in
    let words = listed-only with_type end-type no_types read.0.0 given read.0.1 read.1 in (
      words.0,
      words.1 ∙ ap (λ (p : Rss × List (List ℕ)). words_up_to (codes "end") alone words.0 ++ p.1) read.2,
      ap (option_map (with_types rss)) words.2 ∙ ap (λ (p : Rss × List (List ℕ)). Some p.0) read.2,
    )

-- the word of a list and the list
pub rss-read : (rss after : Rss) (name : List ℕ) (words rest : List (List ℕ)) → option_and_then (list_with rss words) (meaning_of list_words name) ≡ Some after
    → rss_setting rss (name ∷ (words_up_to (codes "end") alone words ++ rest)) ≡ Some (after, rest)
rss-read rss after name words rest is =
    let list = on_some (meaning_of list_words name) (list_with rss words) after is in
    ap (option_and_then (λ l. list_behind rss l (words_up_to (codes "end") alone words ++ rest))) list.1
    ∙ list-read rss after list.0 words rest list.2

pub rss-only : (rss after : Rss) (name : List ℕ) (given rest : List (List ℕ)) → rss_setting rss (name ∷ given) ≡ Some (after, rest)
    → (words : List (List ℕ)) × (given ≡ words_up_to (codes "end") alone words ++ rest) × (option_and_then (list_with rss words) (meaning_of list_words name) ≡ Some after)
rss-only rss after name given rest is =
    let list = on_some (meaning_of list_words name) (λ l. list_behind rss l given) (after, rest) is in
    let words = list-only rss after list.0 given rest list.2 in
    (words.0, words.1, ap (option_and_then (list_with rss words.0)) list.1 ∙ words.2)
