use Rattle.std.proofs.Common.{◌≡◌, ℕ, nat_eq, sym, subst, ap, ◌∙◌, map, None}
use Rattle.std.specs.List.{All, IsDistinct}
use Rattle.std.specs.Map.{keys_of}
use Rattle.flow_rules.specs.Faults.{first}
use Rattle.template_tables.specs.Refusals.{table_end_refusals}
use Rattle.template_tables.specs.TemplatesView.{TemplatesView}
use Rattle.port_state.specs.Kept.{AreKept, AreKeptFor}
use Rattle.port_state.specs.KeptState.{KeptState, placed, state_in}
use Rattle.port_state.specs.State.{all_held, templates_in}
use Rattle.port_state.specs.StateInside.{state_kept, HaveSettled, IsSettled}
use Rattle.port_state.specs.Tables.{table_gone}
use Rattle.port_state.proofs.TemplatesJudged.{table-end}
use Rattle.port_state.proofs.TemplatesKept.{at-ok, gone, gone-kept, gone-settled, gone-slots, gone-tables, may-end, plans-gone}
use Rattle.port_state.proofs.state.State.end_table.Goals as goal

-- the table may go, by what is kept
due : (k old : KeptState) → k ≡ old → HaveSettled (state_in k).rules k.templates → AreKept old → (id : ℕ) → first (table_end_refusals (templates_in (state_in old)) id) ≡ None
    → first (table_end_refusals k.templates id) ≡ None
due k old same slots kept id none =
    table-end k slots (subst AreKept (sym same) kept) id ∙ ap (λ (x : KeptState). first (table_end_refusals (templates_in (state_in x)) id)) same ∙ none

pub invariant_of-self : goal.invariant_of-self
invariant_of-self c =
    let s = c.self.inside in
    let none = due (state_kept s) _ c.self.view_is c.self.invariant.slots c.requires.kept c.args.id c.requires.due in
    let is = at-ok c.destroy_table.result _ (c.destroy_table.ensures.refused ∙ none) c.destroy_table.ensures.gone in
    let at = may-end c.args.id s.templates none in
    record {
      on_port = c.self.invariant.on_port;
      settled = subst (λ (t : TemplatesView). All (IsSettled t) (map placed s.rules.list)) (sym is)
          (gone-settled c.args.id at.view s.templates at.is at.empty c.self.invariant.tables (map placed s.rules.list) c.self.invariant.settled);
      slots = subst (λ (t : TemplatesView). HaveSettled (map placed s.rules.list) t) (sym is)
          (gone-slots c.args.id at.view s.templates at.is at.empty c.self.invariant.tables (map placed s.rules.list) c.self.invariant.slots);
      queues = c.self.invariant.queues;
      tables = subst (λ (t : TemplatesView). IsDistinct nat_eq (keys_of t.tables)) (sym is) (gone-tables c.args.id s.templates.tables c.self.invariant.tables);
    }

pub returns-clause-state : goal.returns-clause-state
returns-clause-state c =
    let none = due (state_kept c.self.inside) _ c.self.view_is c.self.invariant.slots c.requires.kept c.args.id c.requires.due in
    gone c.self.inside _ c.destroy_table.result c.destroy_table.new.self _ (table_gone c.args.id) c.self.view_is (c.destroy_table.ensures.refused ∙ none) c.destroy_table.ensures.gone
    (plans-gone c.self.inside.templates c.args.id)

pub returns-clause-kept : goal.returns-clause-kept
returns-clause-kept c = λ kept.
    let s = c.self.inside in
    let none = due (state_kept s) _ c.self.view_is c.self.invariant.slots c.requires.kept c.args.id c.requires.due in
    let is = at-ok c.destroy_table.result _ (c.destroy_table.ensures.refused ∙ none) c.destroy_table.ensures.gone in
    let at = may-end c.args.id s.templates none in
    let ops = all_held (state_in (state_kept s)) in
    subst (λ (t : TemplatesView). AreKeptFor s.ids t s.shared.entries ops) (sym is)
    (gone-kept c.args.id at.view s.templates at.is at.empty c.self.invariant.tables s.ids s.shared.entries ops (subst AreKept (sym c.self.view_is) kept))
