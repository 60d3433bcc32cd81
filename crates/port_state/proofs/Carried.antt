-- What counters stand at behind what a call does: what they stood at, where they are still there.
use Rattle.std.proofs.Common.{◌≡◌, ℕ, Bool, true, false, cond, nat_eq, map, is_some, List, [], ◌∷◌, ◌++◌, Option, None, Some, refl, sym, ap, ◌∙◌, subst, true≢false}
use Rattle.std.specs.List.{IsDistinct}
use Rattle.std.specs.Map.{keys_of}
use Rattle.std.specs.Option.{option_map}
use Rattle.std.proofs.lemmas.Bool.{eqb-true, eq-eqb}
use Rattle.flow_actions.specs.declared.action.Action.{Action}
use Rattle.flow_rules.specs.declared.counter.Counter.{Counter}
use Rattle.flow_rules.specs.declared.counter.Counter.TheVariants as counters
use Rattle.flow_rules.specs.RuleView.{RuleView}
use Rattle.flow_rules.specs.Changes.{has_id}
use Rattle.rules_in_effect.specs.declared.in_effect.InEffect.{InEffect}
use Rattle.rules_in_effect.specs.Entries as rules
use Rattle.rules_in_effect.proofs.Distinct.{entry_at-without_same, entry_at-without_other}
use Rattle.indirect_counters.specs.declared.shared_action.SharedAction.{SharedAction}
use Rattle.indirect_counters.specs.Entries.{Entries, entry_at, if_in_effect, in_effect_at, values_in_effect, created}
use Rattle.indirect_counters.specs.Effects.{activated, added, without, updated}
use Rattle.indirect_counters.proofs.Effects.{seen-at, entry_at-changed_at, entry_at-pushed, entry_at-without, entry_at-activated}
use Rattle.port_state.specs.State.{rule_in}
use Rattle.port_state.specs.Counters.{is_there, while_there, zero_count}
use Rattle.port_state.specs.KeptState.{KeptState, placed, count_of_rule, count_of_shared, count_kept, count_in}
use Rattle.port_state.specs.declared.state.State.TheInside.{Inside}
use Rattle.port_state.specs.StateInside.{state_kept}
use Rattle.port_state.proofs.RulesKept.{rule_at-placed}

-- a rule, or a shared action, and what is there in its place
abbrev pub CarriesRule : Option InEffect → Option InEffect → Type 0
CarriesRule old new = count_of_rule new ≡ while_there (is_some new) (count_of_rule old)

abbrev pub CarriesShared : Option SharedAction → Option SharedAction → Type 0
CarriesShared old new = count_of_shared new ≡ while_there (is_some new) (count_of_shared old)

pub same_rule : (o : Option InEffect) → CarriesRule o o
same_rule None = refl
same_rule (Some entry) = refl

pub same_shared : (o : Option SharedAction) → CarriesShared o o
same_shared None = refl
same_shared (Some entry) = refl

is_some-map : {A B : Type 0} (f : A → B) (o : Option A) → is_some (option_map f o) ≡ is_some o
is_some-map f None = refl
is_some-map f (Some x) = refl

-- all counters, by the lists that the code keeps
pub carried : (kept old : KeptState) → kept ≡ old → (list : List InEffect) (shared : Entries) (isolated : Bool) (rxq : ℕ) → IsDistinct nat_eq (keys_of shared)
    → ((q : ℕ) → CarriesRule (rules.entry_at q kept.rules) (rules.entry_at q list)) → ((q : ℕ) → CarriesShared (in_effect_at q kept.shared) (in_effect_at q shared))
    → (c : Counter) → count_kept list shared c
    ≡ while_there (is_there c (record { rules = map rule_in (map placed list); shared = values_in_effect shared; isolated = isolated; rxq = rxq })) (count_in old c)
carried kept old same list shared isolated rxq ids by_rule by_shared (counters.Rule id) =
    by_rule id
    ∙ ap (λ b. while_there b (count_of_rule (rules.entry_at id kept.rules))) (sym (ap (λ (o : Option RuleView). is_some o) (rule_at-placed id list) ∙ is_some-map rules.rule_in (rules.entry_at id list)))
    ∙ ap (λ (s : KeptState). while_there (is_there (counters.Rule id) (record { rules = map rule_in (map placed list); shared = values_in_effect shared; isolated = isolated; rxq = rxq })) (count_of_rule (rules.entry_at id s.rules))) same
carried kept old same list shared isolated rxq ids by_rule by_shared (counters.Shared id) =
    by_shared id
    ∙ ap (λ b. while_there b (count_of_shared (in_effect_at id kept.shared)))
    (sym (ap (λ (o : Option Action). is_some o) (seen-at id shared ids) ∙ is_some-map (λ (e : SharedAction). e.value) (in_effect_at id shared)))
    ∙ ap (λ (s : KeptState). while_there (is_there (counters.Shared id) (record { rules = map rule_in (map placed list); shared = values_in_effect shared; isolated = isolated; rxq = rxq })) (count_of_shared (in_effect_at id s.shared))) same

-- and where no shared action changes
pub carried-rules : (s : Inside) (old : KeptState) → state_kept s ≡ old → (list : List InEffect) (isolated : Bool) (rxq : ℕ) → IsDistinct nat_eq (keys_of s.shared.entries)
    → ((q : ℕ) → CarriesRule (rules.entry_at q s.rules.list) (rules.entry_at q list)) → (c : Counter) → count_kept list s.shared.entries c
    ≡ while_there (is_there c (record { rules = map rule_in (map placed list); shared = values_in_effect s.shared.entries; isolated = isolated; rxq = rxq })) (count_in old c)
carried-rules s old same list isolated rxq ids by_rule =
    carried (state_kept s) old same list s.shared.entries isolated rxq ids by_rule (λ q. same_shared (in_effect_at q s.shared.entries))

-- or no rule does
pub carried-shared : (s : Inside) (old : KeptState) (new entries : Entries) → state_kept s ≡ old → new ≡ entries → IsDistinct nat_eq (keys_of new)
    → ((q : ℕ) → CarriesShared (in_effect_at q s.shared.entries) (in_effect_at q entries)) → (c : Counter) → count_kept s.rules.list new c
    ≡ while_there (is_there c (record { rules = map rule_in (map placed s.rules.list); shared = values_in_effect new; isolated = s.isolated; rxq = s.rxq })) (count_in old c)
carried-shared s old new entries same is ids by_shared =
    carried (state_kept s) old same s.rules.list new s.isolated s.rxq ids (λ q. same_rule (rules.entry_at q s.rules.list))
    (λ q. subst (λ (es : Entries). CarriesShared (in_effect_at q s.shared.entries) (in_effect_at q es)) (sym is) (by_shared q))

-- a rule that takes effect behind the others
entry_at-pushed_rule : (q : ℕ) (list : List InEffect) (entry : InEffect)
    → rules.entry_at q (list ++ entry ∷ []) ≡ cond (is_some (rules.entry_at q list)) (rules.entry_at q list) (cond (has_id q entry.rule) (Some entry) None)
entry_at-pushed_rule q [] entry = refl
entry_at-pushed_rule q (e ∷ list) entry = by (has_id q e.rule) (entry_at-pushed_rule q list entry) where
  by : (b : Bool) → rules.entry_at q (list ++ entry ∷ []) ≡ cond (is_some (rules.entry_at q list)) (rules.entry_at q list) (cond (has_id q entry.rule) (Some entry) None)
      → cond b (Some e) (rules.entry_at q (list ++ entry ∷ []))
      ≡ cond (is_some (cond b (Some e) (rules.entry_at q list))) (cond b (Some e) (rules.entry_at q list)) (cond (has_id q entry.rule) (Some entry) None)
  by true behind = refl
  by false behind = behind

pub pushed_rule : (q : ℕ) (list : List InEffect) (entry : InEffect) → entry.count ≡ zero_count → CarriesRule (rules.entry_at q list) (rules.entry_at q (list ++ entry ∷ []))
pushed_rule q list entry zero = subst (CarriesRule (rules.entry_at q list)) (sym (entry_at-pushed_rule q list entry)) (by (rules.entry_at q list) (has_id q entry.rule)) where
  by : (o : Option InEffect) (b : Bool) → CarriesRule o (cond (is_some o) o (cond b (Some entry) None))
  by None true = zero
  by None false = refl
  by (Some e) b = refl

apart : {b : Bool} → b ≡ false → b ≡ true → ⊥
apart off on = true≢false (sym on ∙ off)

pub removed_rule : (id q : ℕ) (list : List InEffect) → CarriesRule (rules.entry_at q list) (rules.entry_at q (rules.without id list))
removed_rule id q list = by (nat_eq q id) refl where
  by : (b : Bool) → nat_eq q id ≡ b → CarriesRule (rules.entry_at q list) (rules.entry_at q (rules.without id list))
  by true same =
      subst (CarriesRule (rules.entry_at q list)) (sym (ap (λ k. rules.entry_at k (rules.without id list)) (eqb-true q id same) ∙ entry_at-without_same id list)) refl
  by false other =
      subst (CarriesRule (rules.entry_at q list)) (sym (entry_at-without_other id q list (λ same. apart other (ap (λ k. nat_eq k id) same ∙ eq-eqb id id refl)))) (same_rule (rules.entry_at q list))

-- what stands in effect, by what stands
in_effect-is : (q : ℕ) (entries : Entries) (o : Option SharedAction) → entry_at q entries ≡ o → in_effect_at q entries ≡ if_in_effect o
in_effect-is q entries o is = ap if_in_effect is

pub added_shared : (id q : ℕ) (value : Action) (held : Bool) (entries : Entries) → entry_at id entries ≡ None
    → CarriesShared (in_effect_at q entries) (in_effect_at q (added id value held entries))
added_shared id q value held entries free =
    subst (CarriesShared (in_effect_at q entries)) (sym (in_effect-is q (added id value held entries) _ (entry_at-pushed id (created value held) q entries free))) (by (nat_eq q id) refl held) where
      by : (b : Bool) → nat_eq q id ≡ b → (h : Bool) → CarriesShared (in_effect_at q entries) (if_in_effect (cond b (Some (created value h)) (entry_at q entries)))
      by true same true = refl
      by true same false = sym (ap count_of_shared (in_effect-is q entries None (ap (λ k. entry_at k entries) (eqb-true q id same) ∙ free)))
      by false other h = same_shared (in_effect_at q entries)

pub updated_shared : (id q : ℕ) (value : Action) (entries : Entries) → CarriesShared (in_effect_at q entries) (in_effect_at q (updated id value entries))
updated_shared id q value entries =
    subst (CarriesShared (in_effect_at q entries)) (sym (in_effect-is q (updated id value entries) _ (entry_at-changed_at id (λ (e : SharedAction). record e { value = value }) q entries)))
    (by (nat_eq q id) (entry_at q entries)) where
      held : (b : Bool) (e : SharedAction) → CarriesShared (cond b None (Some e)) (cond b None (Some (record e { value = value })))
      held true e = refl
      held false e = refl

      by : (b : Bool) (o : Option SharedAction) → CarriesShared (if_in_effect o) (if_in_effect (cond b (option_map (λ (e : SharedAction). record e { value = value }) o) o))
      by true None = refl
      by true (Some e) = held e.held e
      by false o = same_shared (if_in_effect o)

pub removed_shared : (id q : ℕ) (entries : Entries) → IsDistinct nat_eq (keys_of entries) → CarriesShared (in_effect_at q entries) (in_effect_at q (without id entries))
removed_shared id q entries ids =
    subst (CarriesShared (in_effect_at q entries)) (sym (in_effect-is q (without id entries) _ (entry_at-without id q entries ids))) (by (nat_eq id q)) where
      by : (b : Bool) → CarriesShared (in_effect_at q entries) (if_in_effect (cond b None (entry_at q entries)))
      by true = refl
      by false = same_shared (in_effect_at q entries)

-- a held action that takes effect has counted nothing
pub activated_shared : (id q : ℕ) (value : Action) (entries : Entries) → IsDistinct nat_eq (keys_of entries) → entry_at id entries ≡ Some (created value true)
    → CarriesShared (in_effect_at q entries) (in_effect_at q (activated id entries))
activated_shared id q value entries ids here =
    subst (CarriesShared (in_effect_at q entries)) (sym (in_effect-is q (activated id entries) _ (entry_at-activated id (created value true) q entries ids here))) (by (nat_eq q id) refl) where
      by : (b : Bool) → nat_eq q id ≡ b → CarriesShared (in_effect_at q entries) (if_in_effect (cond b (Some (created value false)) (entry_at q entries)))
      by true same = sym (ap count_of_shared (in_effect-is q entries (Some (created value true)) (ap (λ k. entry_at k entries) (eqb-true q id same) ∙ here)))
      by false other = same_shared (in_effect_at q entries)

-- an action that is held is counted by nobody
pub counts-held : (id : ℕ) (value : Action) (list : List InEffect) (entries : Entries) → entry_at id entries ≡ None → (c : Counter)
    → count_kept list (added id value true entries) c ≡ count_kept list entries c
counts-held id value list entries free (counters.Rule q) = refl
counts-held id value list entries free (counters.Shared q) = ap count_of_shared (in_effect-is q (added id value true entries) _ (entry_at-pushed id (created value true) q entries free) ∙ by (nat_eq q id) refl) where
  by : (b : Bool) → nat_eq q id ≡ b → if_in_effect (cond b (Some (created value true)) (entry_at q entries)) ≡ in_effect_at q entries
  by true same = sym (in_effect-is q entries None (ap (λ k. entry_at k entries) (eqb-true q id same) ∙ free))
  by false other = refl
