use Rattle.std.proofs.Common.{◌≡◌, nat_eq, sym, subst, ap, ◌∙◌, map, List}
use Rattle.std.specs.List.{All, IsDistinct, count_by}
use Rattle.std.specs.Map.{keys_of}
use Rattle.rules_in_effect.specs.declared.in_effect.InEffect.{InEffect}
use Rattle.rules_in_effect.specs.Entries as rules
use Rattle.template_tables.specs.TemplatesView.{TemplatesView}
use Rattle.indirect_counters.specs.Entries.{values_in_effect}
use Rattle.port_state.specs.Apart.{is_held_rule}
use Rattle.port_state.specs.Kept.{AreKeptFor}
use Rattle.port_state.specs.KeptState.{KeptState, state_in, placed, plans_of}
use Rattle.port_state.specs.State.{Placed, destroyed}
use Rattle.port_state.specs.StateInside.{HaveSettled, IsSettled}
use Rattle.port_state.proofs.RulesKept.{without-placed}
use Rattle.port_state.proofs.Carried.{carried-rules, CarriesRule, removed_rule}
use Rattle.port_state.proofs.Parts.{with_parts}
use Rattle.port_state.proofs.Settling.{left-without, id-gone}
use Rattle.port_state.proofs.state.State.destroy.Goals as goal

pub invariant_of-self : goal.invariant_of-self
invariant_of-self c =
    let s = c.self.inside in
    let left = left-without c.args.id s.rules.list s.templates c.remove-gone.result c.remove-gone.new.self.list c.remove-gone.ensures.entry c.remove-gone.ensures.others
    c.len-rules.ensures.distinct c.self.invariant.settled c.self.invariant.slots c.self.invariant.tables in
    record {
      on_port = c.self.invariant.on_port;
      settled = subst (λ (t : TemplatesView). All (IsSettled t) (map placed c.remove-gone.new.self.list)) (sym c.free_slot_of.ensures) left.settled;
      slots = subst (λ (t : TemplatesView). HaveSettled (map placed c.remove-gone.new.self.list) t) (sym c.free_slot_of.ensures) left.slots;
      queues = c.self.invariant.queues;
      tables = subst (λ (t : TemplatesView). IsDistinct nat_eq (keys_of t.tables)) (sym c.free_slot_of.ensures) left.tables;
    }

pub returns-clause-state : goal.returns-clause-state
returns-clause-state c =
    let s = c.self.inside in
    let vs = values_in_effect s.shared.entries in
    let left = left-without c.args.id s.rules.list s.templates c.remove-gone.result c.remove-gone.new.self.list c.remove-gone.ensures.entry c.remove-gone.ensures.others
    c.len-rules.ensures.distinct c.self.invariant.settled c.self.invariant.slots c.self.invariant.tables in
    ap (with_parts s (map placed c.remove-gone.new.self.list) vs) (ap plans_of c.free_slot_of.ensures ∙ left.plans)
    ∙ ap (λ (list : List InEffect). with_parts s (map placed list) vs (plans_of s.templates)) c.remove-gone.ensures.others
    ∙ ap (λ (rs : List Placed). with_parts s rs vs (plans_of s.templates)) (without-placed c.args.id s.rules.list)
    ∙ ap (λ (k : KeptState). destroyed c.args.id (state_in k)) c.self.view_is

pub returns-clause-counts : goal.returns-clause-counts
returns-clause-counts c =
    let s = c.self.inside in
    carried-rules s _ c.self.view_is c.remove-gone.new.self.list s.isolated s.rxq c.len-number.ensures.sound.ids
    (λ q. subst (λ (list : List InEffect). CarriesRule (rules.entry_at q s.rules.list) (rules.entry_at q list)) (sym c.remove-gone.ensures.others) (removed_rule c.args.id q s.rules.list))

pub returns-clause-kept : goal.returns-clause-kept
returns-clause-kept c = λ others alone kept.
    let s = c.self.inside in
    let left = left-without c.args.id s.rules.list s.templates c.remove-gone.result c.remove-gone.new.self.list c.remove-gone.ensures.entry c.remove-gone.ensures.others
    c.len-rules.ensures.distinct c.self.invariant.settled c.self.invariant.slots c.self.invariant.tables in
    let before : AreKeptFor s.ids s.templates s.shared.entries others = subst (λ (k : KeptState). AreKeptFor k.ids k.templates k.shared others) (sym c.self.view_is) kept in
    subst (λ (t : TemplatesView). AreKeptFor s.ids t s.shared.entries others) (sym c.free_slot_of.ensures)
    (left.kept s.ids s.shared.entries others
    (λ e is. subst (λ k. count_by (is_held_rule k) others ≡ 0) (sym (id-gone c.args.id s.rules.list e (sym is ∙ c.remove-gone.ensures.entry))) alone) before)
