use Rattle.std.proofs.Common.{◌≡◌, ℕ, nat_eq, refl, sym, ap, ◌∙◌, None, Some, Option}
use Rattle.std.specs.List.{IsDistinct}
use Rattle.std.specs.Map.{keys_of}
use Rattle.std.specs.Option.{option_map, option_copied}
use Rattle.flow_actions.specs.declared.action.Action.{Action}
use Rattle.flow_rules.specs.declared.counter.Count.{Count}
use Rattle.flow_rules.specs.declared.counter.Counter.TheVariants as counters
use Rattle.flow_rules.specs.Shared.{shared_at}
use Rattle.indirect_counters.specs.declared.shared_action.SharedAction.{SharedAction}
use Rattle.indirect_counters.specs.Entries.{in_effect_at}
use Rattle.flow_calls.specs.declared.reply.Reply.TheVariants as replies
use Rattle.port_state.specs.Reply.{reply_to_shared_query, reply_of_count}
use Rattle.port_state.specs.KeptState.{KeptState, state_in, count_in, count_of_shared}
use Rattle.port_state.specs.StateInside.{state_kept}
use Rattle.indirect_counters.proofs.Effects.{seen-at}
use Rattle.port_state.proofs.state.State.query_shared.Goals as goal

-- what the state answers, by what is kept
asked : (kept now : KeptState) → kept ≡ now → IsDistinct nat_eq (keys_of kept.shared) → (id : ℕ) (o : Option SharedAction) → in_effect_at id kept.shared ≡ o
    → reply_to_shared_query (shared_at id (state_in now).shared) (count_in now (counters.Shared id)) ≡ reply_to_shared_query (option_map (λ (e : SharedAction). e.value) o) (count_of_shared o)
asked kept now same ids id o found =
    ap (λ (k : KeptState). reply_to_shared_query (shared_at id (state_in k).shared) (count_in k (counters.Shared id))) (sym same)
    ∙ ap (λ (v : Option Action). reply_to_shared_query v (count_of_shared (in_effect_at id kept.shared))) (seen-at id kept.shared ids)
    ∙ ap (λ (e : Option SharedAction). reply_to_shared_query (option_map (λ (x : SharedAction). x.value) e) (count_of_shared e)) found

-- a value and a count are those of one entry
both : (o : Option SharedAction) (value : Action) (count : Count) → Some value ≡ option_map (λ (e : SharedAction). e.value) o → Some count ≡ option_map (λ (e : SharedAction). e.count) o
    → reply_to_shared_query (option_map (λ (x : SharedAction). x.value) o) (count_of_shared o) ≡ reply_to_shared_query (Some value) count
both None value count v n = cc
both (Some e) value count v n = ap (λ (x : Option Action). reply_to_shared_query x e.count) (sym v) ∙ ap (reply_to_shared_query (Some value)) (sym (some-same n)) where
  some-same : {A : Type 0} {x y : A} → Some x ≡ Some y → x ≡ y
  some-same same = cc

neither : (o : Option SharedAction) → option_map (λ (e : SharedAction). e.value) o ≡ None → o ≡ None
neither None none = refl
neither (Some e) none = cc

uncounted : (o : Option SharedAction) → option_map (λ (e : SharedAction). e.count) o ≡ None → o ≡ None
uncounted None none = refl
uncounted (Some e) none = cc

pub returns-in_default : goal.returns-in_default
returns-in_default c =
    let s = c.self.inside in
    ap replies.Fault c.plain.ensures
    ∙ sym (asked (state_kept s) _ c.self.view_is c.len-number.ensures.sound.ids c.args.id None (neither (in_effect_at c.args.id s.shared.entries) (sym c.value.ensures.value ∙ ap option_copied c.in_default.is)))

pub returns-in_default-count : goal.returns-in_default-count
returns-in_default-count c =
    let s = c.self.inside in
    ap replies.Fault c.plain-in_default-count.ensures
    ∙ sym (asked (state_kept s) _ c.self.view_is c.len-number.ensures.sound.ids c.args.id None (uncounted (in_effect_at c.args.id s.shared.entries) (sym c.count.ensures ∙ c.in_default-count.is)))

pub returns : goal.returns
returns c =
    let s = c.self.inside in
    let o = in_effect_at c.args.id s.shared.entries in
    c.counted.ensures ∙ ap (λ b. reply_of_count b c.in-Some-count.count) c.is_count.ensures
    ∙ sym (asked (state_kept s) _ c.self.view_is c.len-number.ensures.sound.ids c.args.id o refl
    ∙ both o c.in-Some.value.now c.in-Some-count.count (sym (ap option_copied c.in-Some.is) ∙ c.value.ensures.value) (sym c.in-Some-count.is ∙ c.count.ensures))
