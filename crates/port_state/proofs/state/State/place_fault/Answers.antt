use Rattle.std.proofs.Common.{◌≡◌, ℕ, sym, ap, ◌∙◌, subst, None, Some, Option, IsSome, is_some}
use Rattle.flow_rules.specs.declared.fault.Fault.{Fault}
use Rattle.flow_rules.specs.Faults.{first}
use Rattle.template_tables.specs.Slots.{slot_refusals}
use Rattle.template_tables.specs.TemplatesView.{table_of}
use Rattle.port_state.specs.Kept.{AreKept}
use Rattle.port_state.specs.KeptState.{KeptState, state_in}
use Rattle.port_state.specs.State.{first_of, ids_fault, templates_in}
use Rattle.port_state.specs.StateInside.{state_kept, HaveSettled}
use Rattle.port_state.proofs.Places.{table-full, slot-left}
use Rattle.port_state.proofs.TemplatesJudged.{slots-left, table-there}
use Rattle.port_state.proofs.state.State.place_fault.Goals as goal

-- the table is kept
kept-there : (kept now : KeptState) → kept ≡ now → (table : ℕ) → IsSome (table_of table (templates_in (state_in now))) → IsSome (table_of table kept.templates)
kept-there kept now same table there = table-there kept table ∙ ap (λ (k : KeptState). is_some (table_of table (templates_in (state_in k)))) same ∙ there

-- the fault of taking a slot, by what is kept
slot-fault : (kept now : KeptState) → kept ≡ now → HaveSettled (state_in kept).rules kept.templates → AreKept now → (table : ℕ) (o : Option Fault)
    → first (slot_refusals (table_of table kept.templates)) ≡ o → first (slot_refusals (table_of table (templates_in (state_in now)))) ≡ o
slot-fault kept now same settled are table o is =
    ap (λ (k : KeptState). first (slot_refusals (table_of table (templates_in (state_in k))))) (sym same)
    ∙ sym (ap first (slots-left kept settled (subst AreKept (sym same) are) table)) ∙ is

pub slots_left-requires : goal.slots_left-requires
slots_left-requires c = kept-there (state_kept c.self.inside) _ c.self.view_is c.args.table c.requires.there

pub returns-then-slots_left-eq0 : goal.returns-then-slots_left-eq0
returns-then-slots_left-eq0 c =
    let s = c.self.inside in
    let there = kept-there (state_kept s) _ c.self.view_is c.args.table c.requires.there in
    let full = table-full (table_of c.args.table s.templates) c.slots_left.result there c.slots_left.ensures c.if-slots_left-eq0.true in
    ap Some c.plain.ensures
    ∙ sym (ap (λ (o : Option Fault). first_of o (ids_fault (state_in c.args.self.now))) (slot-fault (state_kept s) _ c.self.view_is c.self.invariant.slots c.requires.kept c.args.table _ full))

pub returns : goal.returns
returns c =
    let s = c.self.inside in
    let there = kept-there (state_kept s) _ c.self.view_is c.args.table c.requires.there in
    let left = slot-left (table_of c.args.table s.templates) c.slots_left.result there c.slots_left.ensures c.if-slots_left-eq0.false in
    c.ids_fault.ensures
    ∙ sym (ap (λ (o : Option Fault). first_of o (ids_fault (state_in c.args.self.now))) (slot-fault (state_kept s) _ c.self.view_is c.self.invariant.slots c.requires.kept c.args.table None left))
