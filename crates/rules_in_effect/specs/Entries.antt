-- Lists of rules in effect, each with its table and its count.
use Rattle.std.specs.Prelude.{◌≡◌, ℕ, ◌+◌, ◌-◌, ◌<◌, ◌^◌, Bool, not, map, filter, if◌then◌else◌, List, [], ◌∷◌, Option, None, Some}
use Rattle.std.specs.List.{slice_get, list_any}
use Rattle.std.specs.Option.{is_none}
use Rattle.flow_rules.specs.RuleView.{RuleView}
use Rattle.flow_rules.specs.Changes.{has_id}
use Rattle.flow_rules.specs.Faults.{is_shared}
use Rattle.rules_in_effect.specs.declared.in_effect.InEffect.{InEffect}

-- the rule alone, as frames see it
abbrev pub rule_in : InEffect → RuleView
rule_in entry = entry.rule

-- a rule that stands in no table
abbrev pub is_plain : InEffect → Bool
is_plain entry = is_none entry.table

-- its rule uses the shared action of this id
abbrev pub is_user : ℕ → InEffect → Bool
is_user id entry = list_any (is_shared id) entry.rule.actions

-- the first entry whose rule has this id
abbrev pub entry_at : ℕ → List InEffect → Option InEffect
entry_at id [] = None
entry_at id (entry ∷ list) = if has_id id entry.rule then Some entry else entry_at id list

-- the entries whose rules have another id
abbrev pub without : ℕ → List InEffect → List InEffect
without id list = filter (λ entry. not (has_id id entry.rule)) list

-- one frame more, of so many bytes
abbrev pub with_hit : ℕ → InEffect → InEffect
with_hit bytes entry = record entry { count = record { hits = entry.count.hits + 1; bytes = entry.count.bytes + bytes } }

-- the entries with one frame more, of so many bytes, for the rule of this id
abbrev pub raised : ℕ → ℕ → List InEffect → List InEffect
raised id bytes list = map (λ entry. if has_id id entry.rule then with_hit bytes entry else entry) list

-- there is an entry, and its count has room for one frame more, of so many bytes
abbrev pub CanCount : ℕ → Option InEffect → Type 0
CanCount bytes None = ⊥
CanCount bytes (Some entry) = (entry.count.hits < 2 ^ 64 - 1) × (entry.count.bytes + bytes < 2 ^ 128)

-- no two rules have one id
abbrev pub AreDistinct : List InEffect → Type 0
AreDistinct [] = Unit {0}
AreDistinct (entry ∷ list) = (entry_at entry.rule.id list ≡ None) × AreDistinct list

-- the rule at this place has this id
pub record IsPlaceOf (id : ℕ) (list : List InEffect) (place : ℕ) : Type 0 where
  pub entry : InEffect
  pub at : slice_get list place ≡ Some entry
  pub is : entry.rule.id ≡ id
