-- Nothing is held for the id of a rule, or of a shared action, that is in effect.
use Rattle.std.proofs.Common.{◌≡◌, ℕ, ◌&&◌, Bool, true, false, cond, nat_eq, is_some, map, List, [], ◌∷◌, None, Some, IsSome, Option, refl, sym, ap, ◌∙◌, arith, true≢false}
use Rattle.std.specs.List.{IsDistinct, list_any, count_by}
use Rattle.std.specs.Map.{keys_of}
use Rattle.std.specs.Option.{option_map}
use Rattle.flow_rules.specs.Naming.{rule_at}
use Rattle.flow_rules.specs.Shared.{shared_at}
use Rattle.indirect_counters.specs.declared.shared_action.SharedAction.{SharedAction}
use Rattle.indirect_counters.specs.Entries.{in_effect_at}
use Rattle.indirect_counters.proofs.Effects.{seen-at}
use Rattle.port_state.specs.Apart.{AreApart, is_rule, is_held_rule, is_held_shared}
use Rattle.port_state.specs.KeptState.{KeptState, state_in}
use Rattle.port_state.specs.State.{Placed, State, all_held, rule_in}
use Rattle.port_state.proofs.ApartKept.{fresh-rules, some-counted}
use Rattle.port_state.proofs.Waiting.{count_by-first}

-- no rule has an id that isn't counted
pub no-rule : (id : ℕ) (rules : List Placed) → count_by (is_rule id) rules ≡ 0 → rule_at id (map rule_in rules) ≡ None
no-rule id [] none = refl
no-rule id (r ∷ rules) none = by (nat_eq r.rule.id id) refl (no-rule id rules) where
  by : (b : Bool) → nat_eq r.rule.id id ≡ b → (count_by (is_rule id) rules ≡ 0 → rule_at id (map rule_in rules) ≡ None) → cond b (Some r.rule) (rule_at id (map rule_in rules)) ≡ None
  by true same more = absurd (omega (arith, none, count_by-first (is_rule id) r rules, ap {B = ℕ} (λ b. cond b 1 0) same))
  by false other more = more (omega (arith, none, count_by-first (is_rule id) r rules, ap {B = ℕ} (λ b. cond b 1 0) other))

-- the id that is given next
pub fresh-id : (s : State) → AreApart s → rule_at s.ids (map rule_in s.rules) ≡ None
fresh-id s apart = no-rule s.ids s.rules (fresh-rules s.ids s.rules apart.given)

-- a rule that is there
pub first-part : (a b : Bool) → (a && b) ≡ true → a ≡ true
first-part true b is = refl
first-part false b is = absurd (true≢false (sym is))

pub rule-alone : (s : State) (test : Placed → Bool) (id : ℕ) → ((r : Placed) → test r ≡ true → is_rule id r ≡ true) → AreApart s → list_any test s.rules ≡ true
    → count_by (is_held_rule id) (all_held s) ≡ 0
rule-alone s test id stronger apart there = omega (arith, apart.rules id, some-counted test (is_rule id) stronger s.rules there)

-- a shared action that is there
pub shared-alone : (k : KeptState) (id : ℕ) → AreApart (state_in k) → IsDistinct nat_eq (keys_of k.shared) → IsSome (in_effect_at id k.shared)
    → count_by (is_held_shared id) (all_held (state_in k)) ≡ 0
shared-alone k id apart distinct there =
    let seen : is_some (shared_at id (state_in k).shared) ≡ true
    = ap (λ (o : Option _). is_some o) (seen-at id k.shared distinct) ∙ some-map (in_effect_at id k.shared) ∙ there in
    omega (arith, apart.shared id, ap {B = ℕ} (λ b. cond b 1 0) seen) where
      some-map : (o : Option SharedAction) → is_some (option_map (λ (e : SharedAction). e.value) o) ≡ is_some o
      some-map None = refl
      some-map (Some e) = refl
