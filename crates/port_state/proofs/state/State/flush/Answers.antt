use Rattle.std.proofs.Common.{◌≡◌, nat_eq, refl, sym, subst, ap, ◌∙◌, map, List, []}
use Rattle.std.specs.List.{All, IsDistinct}
use Rattle.std.specs.Map.{keys_of}
use Rattle.std.proofs.lemmas.List.Elements.{All-nil}
use Rattle.rules_in_effect.specs.declared.in_effect.InEffect.{InEffect}
use Rattle.rules_in_effect.specs.Entries as rules
use Rattle.template_tables.specs.TemplatesView.{TemplatesView}
use Rattle.indirect_counters.specs.Entries.{values_in_effect}
use Rattle.port_state.specs.Apart.{AreOthers}
use Rattle.port_state.specs.Freed.{freed_all}
use Rattle.port_state.specs.Kept.{AreKeptFor}
use Rattle.port_state.specs.KeptState.{KeptState, state_in, placed, plans_of}
use Rattle.port_state.specs.State.{Placed, flushed}
use Rattle.port_state.specs.StateInside.{HaveSettled, IsSettled}
use Rattle.port_state.proofs.Carried.{carried-rules, CarriesRule}
use Rattle.port_state.proofs.Parts.{with_parts}
use Rattle.port_state.proofs.Settling.{left-all}
use Rattle.port_state.proofs.state.State.flush.Goals as goal

pub invariant_of-self : goal.invariant_of-self
invariant_of-self c =
    let s = c.self.inside in
    let left = left-all s.rules.list s.templates c.len-rules.ensures.distinct c.self.invariant.settled c.self.invariant.slots c.self.invariant.tables in
    let none : map placed c.clear_rules.new.rules.list ≡ [] = ap (map placed) c.clear_rules.ensures.none in
    record {
      on_port = c.self.invariant.on_port;
      settled = subst (All (IsSettled c.clear_rules.new.templates)) (sym none) (All-nil (IsSettled c.clear_rules.new.templates));
      slots = subst (λ (t : TemplatesView). HaveSettled (map placed c.clear_rules.new.rules.list) t) (sym c.clear_rules.ensures.freed)
          (subst (λ (rs : List Placed). HaveSettled rs (freed_all s.rules.list s.templates)) (sym none) left.slots);
      queues = c.self.invariant.queues;
      tables = subst (λ (t : TemplatesView). IsDistinct nat_eq (keys_of t.tables)) (sym c.clear_rules.ensures.freed) left.tables;
    }

pub returns-clause-state : goal.returns-clause-state
returns-clause-state c =
    let s = c.self.inside in
    let vs = values_in_effect s.shared.entries in
    let left = left-all s.rules.list s.templates c.len-rules.ensures.distinct c.self.invariant.settled c.self.invariant.slots c.self.invariant.tables in
    ap (with_parts s (map placed c.clear_rules.new.rules.list) vs) (ap plans_of c.clear_rules.ensures.freed ∙ left.plans)
    ∙ ap (λ (list : List InEffect). with_parts s (map placed list) vs (plans_of s.templates)) c.clear_rules.ensures.none
    ∙ ap (λ (k : KeptState). flushed (state_in k)) c.self.view_is

pub returns-clause-counts : goal.returns-clause-counts
returns-clause-counts c =
    let s = c.self.inside in
    carried-rules s _ c.self.view_is c.clear_rules.new.rules.list s.isolated s.rxq c.len-number.ensures.sound.ids
    (λ q. subst (λ (list : List InEffect). CarriesRule (rules.entry_at q s.rules.list) (rules.entry_at q list)) (sym c.clear_rules.ensures.none) refl)

pub returns-clause-kept : goal.returns-clause-kept
returns-clause-kept c = λ others apart kept.
    let s = c.self.inside in
    let left = left-all s.rules.list s.templates c.len-rules.ensures.distinct c.self.invariant.settled c.self.invariant.slots c.self.invariant.tables in
    let before : AreKeptFor s.ids s.templates s.shared.entries others = subst (λ (k : KeptState). AreKeptFor k.ids k.templates k.shared others) (sym c.self.view_is) kept in
    subst (λ (t : TemplatesView). AreKeptFor s.ids t s.shared.entries others) (sym c.clear_rules.ensures.freed)
    (left.kept s.ids s.shared.entries others (subst (λ (k : KeptState). AreOthers (state_in k).rules others) (sym c.self.view_is) apart) before)
