-- The kept rules, found by their ids, beside those of the state.
use Rattle.std.proofs.Common.{◌≡◌, ℕ, ◌+◌, Bool, true, false, cond, ◌&&◌, ◌||◌, nat_eq, not, filter, map, List, [], ◌∷◌, Option, None, Some, refl, sym, ap, ◌∙◌}
use Rattle.std.specs.List.{list_any, count_by}
use Rattle.std.specs.Option.{option_map, is_none}
use Rattle.std.proofs.lemmas.Bool.{eqb-true}
use Rattle.std.proofs.lemmas.List.Sums.{sum_by-cons}
use Rattle.flow_rules.specs.Changes.{has_id}
use Rattle.flow_rules.specs.Naming.{rule_at}
use Rattle.rules_in_effect.specs.declared.in_effect.InEffect.{InEffect}
use Rattle.rules_in_effect.specs.Entries as rules
use Rattle.rules_in_effect.proofs.Distinct.{rule_at-entry}
use Rattle.port_state.specs.State.{Placed, rule_in, is_plain, is_plain_of, is_table_rule_of}
use Rattle.port_state.specs.KeptState.{placed}

pub rules-placed : (list : List InEffect) → map rule_in (map placed list) ≡ map rules.rule_in list
rules-placed [] = refl
rules-placed (entry ∷ list) = ap (λ rs. entry.rule ∷ rs) (rules-placed list)

pub rule_at-placed : (id : ℕ) (list : List InEffect) → rule_at id (map rule_in (map placed list)) ≡ option_map rules.rule_in (rules.entry_at id list)
rule_at-placed id list = ap (rule_at id) (rules-placed list) ∙ rule_at-entry id list

pub plain-placed : (list : List InEffect) → count_by rules.is_plain list ≡ count_by is_plain (map placed list)
plain-placed [] = refl
plain-placed (entry ∷ list) =
    sum_by-cons (λ (e : InEffect). cond (rules.is_plain e) 1 0) entry list
    ∙ ap (λ n. cond (is_none entry.table) 1 0 + n) (plain-placed list) ∙ sym (sum_by-cons (λ (e : Placed). cond (is_plain e) 1 0) (placed entry) (map placed list))

pub without-placed : (id : ℕ) (list : List InEffect) → map placed (rules.without id list) ≡ filter (λ (r : Placed). not (has_id id r.rule)) (map placed list)
without-placed id [] = refl
without-placed id (entry ∷ list) = by (has_id id entry.rule) (without-placed id list) where
  by : (b : Bool) → map placed (rules.without id list) ≡ filter (λ (r : Placed). not (has_id id r.rule)) (map placed list)
      → map placed (cond (not b) (entry ∷ rules.without id list) (rules.without id list))
      ≡ cond (not b) (placed entry ∷ filter (λ (r : Placed). not (has_id id r.rule)) (map placed list)) (filter (λ (r : Placed). not (has_id id r.rule)) (map placed list))
  by true behind = behind
  by false behind = ap (λ rs. placed entry ∷ rs) behind

-- a rule of an id that no other has, with such a table
abbrev pub passes : (Option ℕ → Bool) → Option InEffect → Bool
passes test None = false
passes test (Some entry) = test entry.table

or_nothing : (b : Bool) → (b || false) ≡ b
or_nothing true = refl
or_nothing false = refl

pub found-by : (test : Option ℕ → Bool) (id : ℕ) (list : List InEffect) → rules.AreDistinct list
    → list_any (λ (r : Placed). has_id id r.rule && test r.table) (map placed list) ≡ passes test (rules.entry_at id list)
found-by test id [] distinct = refl
found-by test id (entry ∷ list) distinct = by (nat_eq entry.rule.id id) refl (found-by test id list distinct.1) where
  others : Bool
  others = list_any (λ (r : Placed). has_id id r.rule && test r.table) (map placed list)

  by : (b : Bool) → nat_eq entry.rule.id id ≡ b → others ≡ passes test (rules.entry_at id list) → ((b && test entry.table) || others) ≡ passes test (cond b (Some entry) (rules.entry_at id list))
  by true same behind =
      let none : rules.entry_at id list ≡ None = ap (λ k. rules.entry_at k list) (sym (eqb-true entry.rule.id id same)) ∙ distinct.0 in
      ap (λ b. test entry.table || b) (behind ∙ ap (passes test) none) ∙ or_nothing (test entry.table)
  by false other behind = behind

-- one without a table
abbrev pub is_plain_entry : Option InEffect → Bool
is_plain_entry o = passes (λ table. is_none table) o

pub plain-found : (id : ℕ) (list : List InEffect) → rules.AreDistinct list → list_any (is_plain_of id) (map placed list) ≡ is_plain_entry (rules.entry_at id list)
plain-found id list distinct = found-by (λ table. is_none table) id list distinct

-- and one of a table
abbrev pub is_table_entry : Option InEffect → Bool
is_table_entry o = passes (λ table. not (is_none table)) o

pub table-found : (id : ℕ) (list : List InEffect) → rules.AreDistinct list → list_any (is_table_rule_of id) (map placed list) ≡ is_table_entry (rules.entry_at id list)
table-found id list distinct = found-by (λ table. not (is_none table)) id list distinct
