use Rattle.std.proofs.Common.{◌≡◌, ℕ, ◌≤◌, sym, ap, ◌∙◌, subst, map, flat_map, length, count_by, List}
use Rattle.flow_rules.specs.declared.counter.Counter.{Counter}
use Rattle.std.specs.List.{All}
use Rattle.flow_rules.specs.RuleView.{RuleView}
use Rattle.flow_rules.specs.Shared.{Shared}
use Rattle.flow_rules.specs.Naming.{rule_at, namings_at, namings_of, HaveOwnIds}
use Rattle.rules_in_effect.specs.Entries as rules
use Rattle.indirect_counters.specs.Entries.{values_in_effect}
use Rattle.port_state.specs.State.{Placed, all_held, flows_of, rule_in}
use Rattle.port_state.specs.Counters.{counted_more, is_counter}
use Rattle.port_state.specs.KeptState.{KeptState, state_in, count_in}
use Rattle.port_state.specs.StateInside.{state_kept, HaveSettled, IsSettled}
use Rattle.port_state.specs.Kept.{AreKept}
use Rattle.port_state.specs.Raising.{HasRoomFor}
use Rattle.port_state.proofs.Rises.{AreKeptFor-raised}
use Rattle.port_state.proofs.RulesKept.{rules-placed}
use Rattle.port_state.proofs.state.State.raise.Goals as goal

pub raise_all-requires-clause-room : goal.raise_all-requires-clause-room
raise_all-requires-clause-room c = λ c'. subst (λ (k : KeptState). HasRoomFor 256 (count_in k c')) (sym c.self.view_is) (c.requires.room c')

-- what a path names, by the rules of the state and by those that are kept
path-kept : (kept now : KeptState) → kept ≡ now → (path : List ℕ)
    → flat_map (λ id. namings_of (values_in_effect kept.shared) (rule_at id (map rules.rule_in kept.rules))) path ≡ flat_map (namings_at (flows_of (state_in now))) path
path-kept kept now same path =
    ap (λ (rs : List RuleView). flat_map (λ id. namings_of (values_in_effect kept.shared) (rule_at id rs)) path) (sym (rules-placed kept.rules))
    ∙ ap (λ (k : KeptState). flat_map (namings_at (flows_of (state_in k))) path) same

pub invariant_of-self : goal.invariant_of-self
invariant_of-self c =
    let templates = c.self.inside.templates in
    record {
      on_port = c.raise_all.ensures.raises.on_port c.self.inside.rxq c.self.invariant.on_port;
      settled = subst (λ (ps : List Placed). All (IsSettled templates) ps) (sym c.raise_all.ensures.raises.rules_same) c.self.invariant.settled;
      slots = subst (λ (ps : List Placed). HaveSettled ps templates) (sym c.raise_all.ensures.raises.rules_same) c.self.invariant.slots;
      tables = c.self.invariant.tables;
      queues = c.self.invariant.queues;
    }

pub returns-clause-state : goal.returns-clause-state
returns-clause-state c =
    let s = state_in (state_kept c.self.inside) in
    ap (λ (ps : List Placed). record s { rules = ps; shared = values_in_effect c.raise_all.new.shared.entries }) c.raise_all.ensures.raises.rules_same
    ∙ ap (λ (vs : Shared). record s { shared = vs }) c.raise_all.ensures.raises.values_same
    ∙ ap state_in c.self.view_is

pub returns-clause-kept : goal.returns-clause-kept
returns-clause-kept c = λ kept.
    let s = c.self.inside in
    let raises = c.raise_all.ensures.raises in
    AreKeptFor-raised s.rules.list c.raise_all.new.rules.list s.shared.entries c.raise_all.new.shared.entries _ c.args.bytes raises
    s.ids s.templates (all_held (state_in (state_kept s))) (subst AreKept (sym c.self.view_is) kept)

pub returns-clause-counts : goal.returns-clause-counts
returns-clause-counts c = λ c'.
    c.raise_all.ensures.raises.counts c'
    ∙ ap (λ (ns : List Counter). counted_more (count_in (state_kept c.self.inside) c') (count_by (is_counter c') ns) c.args.bytes) (path-kept (state_kept c.self.inside) _ c.self.view_is c.args.path.now)
    ∙ ap (λ (k : KeptState). counted_more (count_in k c') (count_by (is_counter c') (flat_map (namings_at (flows_of (state_in c.args.self.now))) c.args.path.now)) c.args.bytes) c.self.view_is

pub returns-clause-few : goal.returns-clause-few
returns-clause-few c = subst (λ (ns : List Counter). length ns ≤ 256) (path-kept (state_kept c.self.inside) _ c.self.view_is c.args.path.now) c.raise_all.ensures.few

pub returns-clause-own : goal.returns-clause-own
returns-clause-own c =
    subst (λ (k : KeptState). HaveOwnIds (map rule_in (state_in k).rules)) c.self.view_is
    (subst HaveOwnIds (sym (rules-placed c.self.inside.rules.list)) c.len-number.ensures.own)
