use Rattle.std.proofs.Common.{◌≡◌, ℕ, nat_eq, ◌++◌, ◌∷◌, [], refl, ap, ◌∙◌, map, sym, subst, List, None, Some}
use Rattle.std.specs.List.{All, IsDistinct}
use Rattle.std.specs.Map.{keys_of}
use Rattle.std.proofs.lemmas.List.{map-append}
use Rattle.flow_rules.specs.RuleView.{RuleView}
use Rattle.flow_rules.specs.Naming.{rule_at}
use Rattle.rules_in_effect.specs.declared.in_effect.InEffect.{InEffect}
use Rattle.rules_in_effect.specs.Entries as rules
use Rattle.template_tables.specs.TemplatesView.{TemplatesView, table_of, with_table}
use Rattle.template_tables.specs.Slots.{settled}
use Rattle.indirect_counters.specs.Entries.{values_in_effect}
use Rattle.port_state.specs.Kept.{IsReserved, AreKeptFor}
use Rattle.port_state.specs.KeptState.{KeptState, state_in, placed, plans_of}
use Rattle.port_state.specs.State.{Placed, rule_in, took_effect}
use Rattle.port_state.specs.StateInside.{HaveSettled, IsSettled}
use Rattle.port_state.proofs.Carried.{carried-rules, CarriesRule, pushed_rule}
use Rattle.port_state.specs.declared.held.Held.TheVariants as held
use Rattle.port_state.proofs.Parts.{with_parts}
use Rattle.port_state.proofs.Plans.{plans-with, tables-with}
use Rattle.port_state.proofs.Settling.{entry-free, reserved-at, taken-kept, taken-settled, taken-slots}
use Rattle.port_state.proofs.state.State.take_rule.Goals as goal

pub push-requires-clause-fresh : goal.push-requires-clause-fresh
push-requires-clause-fresh c =
    let s = c.self.inside in
    let is = c.into_parts-in_effect.ensures.in_effect in
    subst (λ (r : RuleView). rules.entry_at r.id s.rules.list ≡ None) (sym is)
    (entry-free c.args.rule.id s.rules.list (ap (λ (k : KeptState). rule_at c.args.rule.id (map rule_in (state_in k).rules)) c.self.view_is ∙ c.requires.fresh))

-- the rules behind it
abbrev placed_in : RuleView → ℕ → Placed
placed_in rule table = record { rule = rule; table = Some table }

rules-are : (rule r : RuleView) (table : ℕ) (list new : List InEffect) → r ≡ rule → new ≡ list ++ record { rule = r; table = Some table; count = record { hits = 0; bytes = 0 } } ∷ []
    → map placed new ≡ map placed list ++ placed_in rule table ∷ []
rules-are rule r table list new same is =
    ap (map placed) is
    ∙ map-append placed list (record { rule = r; table = Some table; count = record { hits = 0; bytes = 0 } } ∷ [])
    ∙ ap (λ (x : RuleView). map placed list ++ placed_in x table ∷ []) same

pub invariant_of-self : goal.invariant_of-self
invariant_of-self c =
    let s = c.self.inside in
    let rule = c.args.rule in
    let table = c.args.table in
    let rs = rules-are rule c.into_parts-in_effect.result.0 table s.rules.list c.push.new.self.list c.into_parts-in_effect.ensures.in_effect c.push.ensures.list in
    let ts : c.settle.new.self ≡ with_table table (settled rule) s.templates = c.settle.ensures ∙ ap (λ (r : RuleView). with_table table (settled r) s.templates) c.into_parts-in_effect.ensures.in_slot in
    let at = reserved-at rule.id table s.templates (subst (λ (k : KeptState). IsReserved rule.id (table_of table k.templates)) (sym c.self.view_is) c.requires.reserved) in
    let fresh = ap (λ (k : KeptState). rule_at rule.id (map rule_in (state_in k).rules)) c.self.view_is ∙ c.requires.fresh in
    record {
      on_port = c.self.invariant.on_port;
      settled = subst (λ (t : TemplatesView). All (IsSettled t) (map placed c.push.new.self.list)) (sym ts)
          (subst (All (IsSettled (with_table table (settled rule) s.templates))) (sym rs)
          (taken-settled rule table s.templates at.view at.is at.found (map placed s.rules.list) fresh c.self.invariant.settled));
      slots = subst (λ (t : TemplatesView). HaveSettled (map placed c.push.new.self.list) t) (sym ts)
          (subst (λ (xs : List Placed). HaveSettled xs (with_table table (settled rule) s.templates)) (sym rs)
          (taken-slots rule table s.templates at.view at.is at.found (map placed s.rules.list) c.self.invariant.slots));
      queues = c.self.invariant.queues;
      tables = subst (λ (t : TemplatesView). IsDistinct nat_eq (keys_of t.tables)) (sym ts) (tables-with table (settled rule) s.templates c.self.invariant.tables);
    }

pub returns-clause-state : goal.returns-clause-state
returns-clause-state c =
    let s = c.self.inside in
    let rule = c.args.rule in
    let table = c.args.table in
    let rs = rules-are rule c.into_parts-in_effect.result.0 table s.rules.list c.push.new.self.list c.into_parts-in_effect.ensures.in_effect c.push.ensures.list in
    let ts : c.settle.new.self ≡ with_table table (settled rule) s.templates = c.settle.ensures ∙ ap (λ (r : RuleView). with_table table (settled r) s.templates) c.into_parts-in_effect.ensures.in_slot in
    let vs = values_in_effect s.shared.entries in
    ap (λ (xs : List Placed). with_parts s xs vs (plans_of c.settle.new.self)) rs
    ∙ ap (with_parts s (map placed s.rules.list ++ placed_in rule table ∷ []) vs) (ap plans_of ts ∙ plans-with table (settled rule) s.templates (λ k v. refl))
    ∙ ap (λ (k : KeptState). took_effect (placed_in rule table) (state_in k)) c.self.view_is

pub returns-clause-counts : goal.returns-clause-counts
returns-clause-counts c =
    let s = c.self.inside in
    let entry : InEffect = record { rule = c.into_parts-in_effect.result.0; table = Some c.args.table; count = record { hits = 0; bytes = 0 } } in
    carried-rules s _ c.self.view_is c.push.new.self.list s.isolated s.rxq c.len-number.ensures.sound.ids
    (λ q. subst (λ (list : List InEffect). CarriesRule (rules.entry_at q s.rules.list) (rules.entry_at q list)) (sym c.push.ensures.list) (pushed_rule q s.rules.list entry refl))

pub returns-clause-kept : goal.returns-clause-kept
returns-clause-kept c = λ others alone kept.
    let s = c.self.inside in
    let rule = c.args.rule in
    let table = c.args.table in
    let ts : c.settle.new.self ≡ with_table table (settled rule) s.templates = c.settle.ensures ∙ ap (λ (r : RuleView). with_table table (settled r) s.templates) c.into_parts-in_effect.ensures.in_slot in
    let at = reserved-at rule.id table s.templates (subst (λ (k : KeptState). IsReserved rule.id (table_of table k.templates)) (sym c.self.view_is) c.requires.reserved) in
    let before : AreKeptFor s.ids s.templates s.shared.entries (held.RuleCreated rule table ∷ others)
    = subst (λ (k : KeptState). AreKeptFor k.ids k.templates k.shared (held.RuleCreated rule table ∷ others)) (sym c.self.view_is) kept in
    subst (λ (t : TemplatesView). AreKeptFor s.ids t s.shared.entries others) (sym ts) (taken-kept rule table s.templates at.view at.is at.found s.ids s.shared.entries others alone before)
