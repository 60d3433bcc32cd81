-- Rules in effect as frames see them, without their tables and counts.
use Rattle.std.proofs.Common.{◌≡◌, ℕ, Bool, true, false, cond, not, map, List, [], ◌∷◌, Option, None, Some, refl, sym, ap, ◌∙◌}
use Rattle.std.specs.Option.{option_map}
use Rattle.flow_rules.specs.Changes.{has_id, without as rules_without}
use Rattle.flow_rules.specs.Naming.{rule_at}
use Rattle.rules_in_effect.specs.declared.in_effect.InEffect.{InEffect}
use Rattle.rules_in_effect.specs.Entries.{rule_in, entry_at, without}
use Rattle.rules_in_effect.proofs.Distinct.{rule_at-entry}

pub rules-without : (id : ℕ) (list : List InEffect) → map rule_in (without id list) ≡ rules_without id (map rule_in list)
rules-without id [] = refl
rules-without id (entry ∷ list) = by (has_id id entry.rule) (rules-without id list) where
  by : (b : Bool) → map rule_in (without id list) ≡ rules_without id (map rule_in list)
      → map rule_in (cond (not b) (entry ∷ without id list) (without id list)) ≡ cond (not b) (entry.rule ∷ rules_without id (map rule_in list)) (rules_without id (map rule_in list))
  by true e = e
  by false e = ap (λ rules. entry.rule ∷ rules) e

-- where no rule has an id, no entry has it
pub entry_at-none : (id : ℕ) (list : List InEffect) → rule_at id (map rule_in list) ≡ None → entry_at id list ≡ None
entry_at-none id list none = by (entry_at id list) (sym (rule_at-entry id list) ∙ none) where
  by : (found : Option InEffect) → option_map rule_in found ≡ None → found ≡ None
  by None e = refl
  by (Some entry) e = cc
