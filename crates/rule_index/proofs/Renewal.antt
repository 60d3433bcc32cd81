-- The slots that have rules.
use Rattle.std.proofs.Common.{◌≡◌, ℕ, ◌+◌, ◌<◌, ◌≤◌, zero, suc, Bool, is_some, length, take, filter, get_or, List, [], ◌∷◌, ◌++◌, Option, None, Some, refl, ap, ◌∙◌, arith}
use Rattle.std.proofs.lemmas.List.{take_more}
use Rattle.std.specs.List.{slice_get}
use Rattle.flow_rules.specs.RuleView.{RuleView}
use Rattle.rule_index.specs.declared.table.Home.{Home}
use Rattle.rule_index.specs.declared.chain.HomeChain.{HomeChain}
use Rattle.rule_index.specs.Index.{Indexed, AreDistinct, HasNo}
use Rattle.rule_index.specs.Rank.{present}

abbrev Slots : Type 0
Slots = List (Option RuleView)

abbrev has_rule : Option RuleView → Bool
has_rule slot = is_some slot

pub Indexed-none : (chains : Home → Option HomeChain) (ids : ℕ → Option ℕ) → ((h : Home) → chains h ≡ None) → Indexed [] [] [] chains ids
Indexed-none chains ids none = record {
  long = refl;
  short = omega arith;
  kept = λ p rule x at there. cc;
  linked = λ p x at. cc;
  chained = λ home. rw (none home) (λ q e. cc);
  found = λ p rule at. cc;
}

pub present_kept : (slots : Slots) → present (filter has_rule slots) ≡ present slots
present_kept [] = refl
present_kept (None ∷ slots) = present_kept slots
present_kept (Some r ∷ slots) = ap (λ (l : List RuleView). r ∷ l) (present_kept slots)

pub kept_few : (slots : Slots) → length (filter has_rule slots) ≡ length (present slots)
kept_few [] = refl
kept_few (None ∷ slots) = kept_few slots
kept_few (Some r ∷ slots) = ap suc (kept_few slots)

-- one slot more
filter_push : (slots : Slots) (s : Option RuleView) → filter has_rule (slots ++ s ∷ []) ≡ filter has_rule slots ++ filter has_rule (s ∷ [])
filter_push [] s = refl
filter_push (None ∷ slots) s = filter_push slots s
filter_push (Some r ∷ slots) s = ap (λ (l : Slots). Some r ∷ l) (filter_push slots s)

pub kept_none : (slots : Slots) (n : ℕ) (s : Option RuleView) → n < length slots → get_or slots n s ≡ s → s ≡ None → filter has_rule (take (n + 1) slots) ≡ filter has_rule (take n slots)
kept_none slots n s lt is none = ap (filter has_rule) (take_more slots n s lt ∙ ap (λ (x : Option RuleView). take n slots ++ x ∷ []) (is ∙ none)) ∙ filter_push (take n slots) None ∙ append_none (filter has_rule (take n slots)) where
  append_none : (xs : Slots) → xs ++ [] ≡ xs
  append_none [] = refl
  append_none (x ∷ xs) = ap (λ (l : Slots). x ∷ l) (append_none xs)

pub kept_some : (slots : Slots) (n : ℕ) (s : Option RuleView) (r : RuleView) → n < length slots → get_or slots n s ≡ s → s ≡ Some r → filter has_rule (take (n + 1) slots) ≡ filter has_rule (take n slots) ++ Some r ∷ []
kept_some slots n s r lt is some = ap (filter has_rule) (take_more slots n s lt ∙ ap (λ (x : Option RuleView). take n slots ++ x ∷ []) (is ∙ some)) ∙ filter_push (take n slots) (Some r)

pub kept_short : (slots : Slots) (n : ℕ) → length (filter has_rule (take n slots)) ≤ n
kept_short slots zero = omega arith
kept_short [] (suc n) = omega arith
kept_short (None ∷ slots) (suc n) = let h = kept_short slots n in omega arith
kept_short (Some r ∷ slots) (suc n) = let h = kept_short slots n in omega arith

-- where a kept rule stood
record Stood (slots : Slots) (n : ℕ) (r : RuleView) : Type 0 where
  place : ℕ
  before : place < n
  at : slice_get slots place ≡ Some (Some r)

stood : (slots : Slots) (n q : ℕ) (r : RuleView) → slice_get (filter has_rule (take n slots)) q ≡ Some (Some r) → Stood slots n r
stood slots zero q r e = cc
stood [] (suc n) q r e = cc
stood (None ∷ slots) (suc n) q r e = let h = stood slots n q r e in record { place = suc h.place; before = (let b = h.before in omega arith); at = h.at }
stood (Some s ∷ slots) (suc n) zero r e = record { place = 0; before = omega arith; at = e }
stood (Some s ∷ slots) (suc n) (suc q) r e = let h = stood slots n q r e in record { place = suc h.place; before = (let b = h.before in omega arith); at = h.at }

-- the next rule has another id than those before it
pub next_new : (slots : Slots) (n : ℕ) (r : RuleView) → AreDistinct slots → slice_get slots n ≡ Some (Some r) → HasNo (filter has_rule (take n slots)) r.id
next_new slots n r apart at q s e same =
    let h = stood slots n q s e in
    let one : h.place ≡ n = apart h.place n s r h.at at same in
    let b = h.before in omega arith
