-- Lists of shared actions that refuse the same calls.
use Rattle.std.proofs.Common.{◌≡◌, ◌∙◌, ◌++◌, ℕ, not, length, Option, None, Some, refl, ap}
use Rattle.std.specs.Option.{is_none, option_map}
use Rattle.std.proofs.lemmas.Option.{same_Some}
use Rattle.flow_actions.specs.declared.action.Action.{Action}
use Rattle.flow_actions.specs.Kinds.{kind_of, is_shareable}
use Rattle.flow_rules.specs.declared.spec.Attr.{Attr}
use Rattle.flow_rules.specs.declared.fault.Cause.TheVariants as causes
use Rattle.flow_rules.specs.Faults.{fault_if, direction_faults, is_bad, is_count}
use Rattle.object_ids.specs.Ids.{is_used}
use Rattle.object_ids.proofs.Alike.{id_faults-alike}
use Rattle.indirect_counters.specs.declared.shared_action.SharedAction.{SharedAction}
use Rattle.indirect_counters.specs.Entries.{Entries, in_effect_at, value_at}
use Rattle.indirect_counters.specs.Refusals.{create_faults, update_faults, destroy_faults, is_same_kind, is_of_other_kind, has_users}

-- the same ids are in use, as many of them
pub create_faults-alike : (xs ys : Entries) → ((id : ℕ) → is_used id xs ≡ is_used id ys) → length xs ≡ length ys
    → (rxq : ℕ) (id : Option ℕ) (attr : Attr) (value : Action) → create_faults rxq xs id attr value ≡ create_faults rxq ys id attr value
create_faults-alike xs ys used long rxq id attr value =
    ap (λ faults. direction_faults attr
    ++ (fault_if (not (is_shareable (kind_of value))) causes.KindNotIndirect 0 ++ (fault_if (is_bad rxq 0 value) causes.ActionConf 0 ++ faults)))
    (id_faults-alike xs ys used 1024 id long)

none-alike : (a b : Option SharedAction) → option_map (λ (entry : SharedAction). entry.value) a ≡ option_map (λ (entry : SharedAction). entry.value) b → is_none a ≡ is_none b
none-alike None None same = refl
none-alike None (Some y) same = cc
none-alike (Some x) None same = cc
none-alike (Some x) (Some y) same = refl

other_kind-alike : (value : Action) (a b : Option SharedAction) → option_map (λ (entry : SharedAction). entry.value) a ≡ option_map (λ (entry : SharedAction). entry.value) b
    → is_of_other_kind value a ≡ is_of_other_kind value b
other_kind-alike value None None same = refl
other_kind-alike value None (Some y) same = cc
other_kind-alike value (Some x) None same = cc
other_kind-alike value (Some x) (Some y) same = ap (λ v. not (is_same_kind (kind_of v) (kind_of value))) (same_Some x.value y.value same)

-- the id has the same value in effect
pub update_faults-alike : (xs ys : Entries) (id : ℕ) → value_at id xs ≡ value_at id ys → (rxq : ℕ) (value : Action) → update_faults rxq xs id value ≡ update_faults rxq ys id value
update_faults-alike xs ys id same rxq value =
    let rest = fault_if (is_count value) causes.CannotUpdate 0 ++ fault_if (is_bad rxq 0 value) causes.ActionConf 0 in
    ap (λ b. fault_if b causes.NoObject 0 ++ (fault_if (is_of_other_kind value (in_effect_at id xs)) causes.KindDiffers 0 ++ rest))
    (none-alike (in_effect_at id xs) (in_effect_at id ys) same)
    ∙ ap (λ b. fault_if (is_none (in_effect_at id ys)) causes.NoObject 0 ++ (fault_if b causes.KindDiffers 0 ++ rest))
    (other_kind-alike value (in_effect_at id xs) (in_effect_at id ys) same)

-- and rules use it in both lists or in none
pub destroy_faults-alike : (xs ys : Entries) (id : ℕ) → value_at id xs ≡ value_at id ys → has_users (in_effect_at id xs) ≡ has_users (in_effect_at id ys)
    → destroy_faults xs id ≡ destroy_faults ys id
destroy_faults-alike xs ys id same users =
    ap (λ b. fault_if b causes.NoObject 0 ++ fault_if (has_users (in_effect_at id xs)) causes.Busy 0) (none-alike (in_effect_at id xs) (in_effect_at id ys) same)
    ∙ ap (λ b. fault_if (is_none (in_effect_at id ys)) causes.NoObject 0 ++ fault_if b causes.Busy 0) users
