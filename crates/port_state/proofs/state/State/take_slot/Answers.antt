use Rattle.std.proofs.Common.{◌≡◌, ℕ, ◌+◌, nat_eq, refl, sym, subst, ap, ◌∙◌, map, Option, None, Some, IsSome, ◌∷◌}
use Rattle.std.specs.List.{All, IsDistinct}
use Rattle.std.specs.Map.{keys_of}
use Rattle.flow_rules.specs.Faults.{first}
use Rattle.indirect_counters.specs.Entries.{values_in_effect}
use Rattle.template_tables.specs.Slots.{reserved, slot_refusals}
use Rattle.template_tables.specs.TableView.{TableView}
use Rattle.template_tables.specs.TemplatesView.{TemplatesView, table_of, with_table}
use Rattle.port_state.specs.declared.held.Held.TheVariants as held
use Rattle.port_state.specs.Kept.{AreKept, AreKeptFor}
use Rattle.port_state.specs.KeptState.{KeptState, placed, plans_of, state_in}
use Rattle.port_state.specs.State.{all_held, id_taken}
use Rattle.port_state.specs.StateInside.{state_kept, HaveSettled, IsSettled}
use Rattle.port_state.proofs.Holding.{reserved-kept, reserved-settled, reserved-slots}
use Rattle.port_state.proofs.Parts.{with_parts}
use Rattle.port_state.proofs.Plans.{plans-with, tables-with}
use Rattle.port_state.proofs.TemplatesKept.{at-ok}
use Rattle.port_state.proofs.state.State.take_slot.Goals as goal

-- a table that is there
some-of : {A : Type 0} (o : Option A) → IsSome o → (x : A) × (o ≡ Some x)
some-of None there = cc
some-of (Some x) there = (x, refl)

table-at : (k old : KeptState) → k ≡ old → (table : ℕ) → IsSome (table_of table old.templates) → (view : TableView) × (table_of table k.templates ≡ Some view)
table-at k old same table there = some-of (table_of table k.templates) (subst (λ (x : KeptState). IsSome (table_of table x.templates)) (sym same) there)

free-at : (k old : KeptState) → k ≡ old → (table : ℕ) → first (slot_refusals (table_of table old.templates)) ≡ None → first (slot_refusals (table_of table k.templates)) ≡ None
free-at k old same table free = subst (λ (x : KeptState). first (slot_refusals (table_of table x.templates)) ≡ None) (sym same) free

pub invariant_of-self : goal.invariant_of-self
invariant_of-self c =
    let s = c.self.inside in
    let table = c.args.table in
    let at = table-at (state_kept s) _ c.self.view_is table c.requires.there in
    let own : c.args.id ≡ s.ids = c.requires.id ∙ ap (λ (k : KeptState). k.ids) (sym c.self.view_is) in
    let ts : c.reserve_slot.new.self ≡ with_table table (reserved s.ids) s.templates
    = at-ok c.reserve_slot.result _ (c.reserve_slot.ensures.refused ∙ free-at (state_kept s) _ c.self.view_is table c.requires.free) c.reserve_slot.ensures.taken
    ∙ ap (λ k. with_table table (reserved k) s.templates) own in
    record {
      on_port = c.self.invariant.on_port;
      settled = subst (λ (t : TemplatesView). All (IsSettled t) (map placed s.rules.list)) (sym ts) (reserved-settled s.ids table s.templates at.0 at.1 (map placed s.rules.list) c.self.invariant.settled);
      slots = subst (λ (t : TemplatesView). HaveSettled (map placed s.rules.list) t) (sym ts) (reserved-slots s.ids table s.templates at.0 at.1 (map placed s.rules.list) c.self.invariant.slots);
      queues = c.self.invariant.queues;
      tables = subst (λ (t : TemplatesView). IsDistinct nat_eq (keys_of t.tables)) (sym ts) (tables-with table (reserved s.ids) s.templates c.self.invariant.tables);
    }

pub returns-clause-state : goal.returns-clause-state
returns-clause-state c =
    let s = c.self.inside in
    let table = c.args.table in
    let is = at-ok c.reserve_slot.result _ (c.reserve_slot.ensures.refused ∙ free-at (state_kept s) _ c.self.view_is table c.requires.free) c.reserve_slot.ensures.taken in
    ap (λ ts. id_taken (with_parts s (map placed s.rules.list) (values_in_effect s.shared.entries) ts)) (ap plans_of is ∙ plans-with table (reserved c.args.id) s.templates (λ k v. refl))
    ∙ ap (λ (k : KeptState). id_taken (state_in k)) c.self.view_is

pub returns-clause-kept : goal.returns-clause-kept
returns-clause-kept c = λ rule same.
    let s = c.self.inside in
    let table = c.args.table in
    let at = table-at (state_kept s) _ c.self.view_is table c.requires.there in
    let own : c.args.id ≡ s.ids = c.requires.id ∙ ap (λ (k : KeptState). k.ids) (sym c.self.view_is) in
    let ts : c.reserve_slot.new.self ≡ with_table table (reserved s.ids) s.templates
    = at-ok c.reserve_slot.result _ (c.reserve_slot.ensures.refused ∙ free-at (state_kept s) _ c.self.view_is table c.requires.free) c.reserve_slot.ensures.taken
    ∙ ap (λ k. with_table table (reserved k) s.templates) own in
    let ops = all_held (state_in (state_kept s)) in
    subst (λ (k : KeptState). AreKeptFor (s.ids + 1) c.reserve_slot.new.self s.shared.entries (held.RuleCreated rule table ∷ all_held (state_in k))) c.self.view_is
    (subst (λ (t : TemplatesView). AreKeptFor (s.ids + 1) t s.shared.entries (held.RuleCreated rule table ∷ ops)) (sym ts)
    (reserved-kept s.ids table s.templates at.0 at.1 rule s.shared.entries ops (same ∙ own) (subst AreKept (sym c.self.view_is) c.requires.kept)))
