use Rattle.std.proofs.Common.{◌≡◌, ℕ, nat_eq, refl, sym, subst, ap, ◌∙◌, map, List, [], ◌∷◌, ◌++◌, None, Option}
use Rattle.std.specs.Prelude.{Result, Ok, Err, OnOk, OnErr}
use Rattle.std.specs.List.{All, IsDistinct}
use Rattle.std.specs.Map.{keys_of, lookup}
use Rattle.flow_rules.specs.declared.spec.Attr.{Attr}
use Rattle.object_ids.specs.Ids.{id_for}
use Rattle.template_tables.specs.TableView.{empty_table}
use Rattle.template_tables.specs.TemplatesView.{TemplatesView}
use Rattle.port_state.specs.declared.state.State.TheInside.{Inside}
use Rattle.indirect_counters.specs.Entries.{values_in_effect}
use Rattle.port_state.proofs.Parts.{with_parts}
use Rattle.port_state.specs.Kept.{AreKept, AreKeptFor}
use Rattle.port_state.specs.KeptState.{KeptState, placed, plans_of, state_in}
use Rattle.port_state.specs.State.{all_held, with_templates}
use Rattle.port_state.specs.StateInside.{state_kept, HaveSettled, IsSettled, IsSound}
use Rattle.port_state.specs.Tables.{table_made}
use Rattle.port_state.proofs.TemplatesJudged.{id_for-plans}
use Rattle.port_state.proofs.TemplatesKept.{changed, on-ok, made-kept, made-settled, made-slots, made-tables, plans-made}
use Rattle.port_state.proofs.state.State.make_table.Goals as goal
use Rattle.port_state.proofs.state.State.make_table.Goals.{in-Ok, in-Err}

-- what is there behind the creation, or as it was
module _ {E : Type 0} (s : Inside) (new : TemplatesView) (id : Option ℕ) (attr : Attr) (n : ℕ) (patterns actions : List ℕ) where
  sound-made : (r : Result ℕ E) → OnOk r (lookup (nat_eq (id_for id s.templates.tables)) s.templates.tables ≡ None)
      → OnOk r (new ≡ record s.templates { tables = s.templates.tables ++ (id_for id s.templates.tables, empty_table attr n patterns actions) ∷ [] })
      → OnErr r (new ≡ s.templates) → IsSound s → IsSound (record s { templates = new })
  sound-made (Ok x) free is stays sound = record {
    on_port = sound.on_port;
    settled = subst (λ (t : TemplatesView). All (IsSettled t) (map placed s.rules.list)) (sym is)
        (made-settled (id_for id s.templates.tables) (empty_table attr n patterns actions) s.templates free refl (map placed s.rules.list) sound.settled);
    slots = subst (λ (t : TemplatesView). HaveSettled (map placed s.rules.list) t) (sym is)
        (made-slots (id_for id s.templates.tables) (empty_table attr n patterns actions) s.templates free refl (map placed s.rules.list) sound.slots);
    queues = sound.queues;
    tables = subst (λ (t : TemplatesView). IsDistinct nat_eq (keys_of t.tables)) (sym is)
        (made-tables (id_for id s.templates.tables) (empty_table attr n patterns actions) s.templates.tables free sound.tables);
  }
  sound-made (Err e) free is stays sound = subst (λ (t : TemplatesView). IsSound (record s { templates = t })) (sym stays) sound

  state-made : (old : KeptState) (r : Result ℕ E) → state_kept s ≡ old → OnOk r (new ≡ record s.templates { tables = s.templates.tables ++ (id_for id s.templates.tables, empty_table attr n patterns actions) ∷ [] })
      → OnOk r (with_parts s (map placed s.rules.list) (values_in_effect s.shared.entries) (plans_of new)
      ≡ with_templates (table_made id (record { attr = attr; patterns = patterns; actions = actions; rules_number = n })) (state_in old))
  state-made old (Ok x) same is = changed s old new (table_made id (record { attr = attr; patterns = patterns; actions = actions; rules_number = n })) same
      (ap plans_of is ∙ plans-made s.templates id attr n patterns actions (id_for-plans s.templates.tables id))
  state-made old (Err e) same is = tt

  kept-made : (old : KeptState) (r : Result ℕ E) → state_kept s ≡ old → OnOk r (lookup (nat_eq (id_for id s.templates.tables)) s.templates.tables ≡ None)
      → OnOk r (new ≡ record s.templates { tables = s.templates.tables ++ (id_for id s.templates.tables, empty_table attr n patterns actions) ∷ [] })
      → OnOk r (AreKept old → AreKeptFor s.ids new s.shared.entries (all_held (state_in (state_kept s))))
  kept-made old (Ok x) same free is = λ kept.
      subst (λ (t : TemplatesView). AreKeptFor s.ids t s.shared.entries (all_held (state_in (state_kept s)))) (sym is)
      (made-kept (id_for id s.templates.tables) (empty_table attr n patterns actions) s.templates free refl s.ids s.shared.entries (all_held (state_in (state_kept s))) refl (subst AreKept (sym same) kept))
  kept-made old (Err e) same free is = tt

-- what holds behind an answer
ok-of : {T E : Type 0} (r : Result T E) (x : T) (P : Type 0) → r ≡ Ok x → OnOk r P → P
ok-of {T} {E} r x P is p = subst (λ (a : Result T E). OnOk a P) is p

err-on : {T E : Type 0} (r : Result T E) (e : E) (P : Type 0) → r ≡ Err e → OnOk r P
err-on {T} {E} r e P is = subst (λ (a : Result T E). OnOk a P) (sym is) tt

pub invariant_of-self : goal.invariant_of-self
invariant_of-self c =
    let t = c.args.templates.now in
    sound-made c.self.inside c.create_table.new.self c.args.id c.args.attr.now c.args.rules_number t.patterns.items t.actions.items c.create_table.result
    c.create_table.ensures.fresh c.create_table.ensures.made c.create_table.ensures.stays c.self.invariant

pub returns-clause-state : goal.returns-clause-state
returns-clause-state c =
    let t = c.args.templates.now in
    let is = state-made c.self.inside c.create_table.new.self c.args.id c.args.attr.now c.args.rules_number t.patterns.items t.actions.items _ c.create_table.result c.self.view_is c.create_table.ensures.made in
    elim c.match-create_table.branch [
      | in-Ok w ↦ on-ok c.match-create_table.result _ (ok-of c.create_table.result w.in-Ok.field-0 _ w.in-Ok.is is)
      | in-Err w ↦ err-on c.match-create_table.result _ _ w.result-is
    ]

pub returns-clause-kept : goal.returns-clause-kept
returns-clause-kept c =
    let t = c.args.templates.now in
    let is = kept-made c.self.inside c.create_table.new.self c.args.id c.args.attr.now c.args.rules_number t.patterns.items t.actions.items _ c.create_table.result c.self.view_is
    c.create_table.ensures.fresh c.create_table.ensures.made in
    elim c.match-create_table.branch [
      | in-Ok w ↦ on-ok c.match-create_table.result _ (ok-of c.create_table.result w.in-Ok.field-0 _ w.in-Ok.is is)
      | in-Err w ↦ err-on c.match-create_table.result _ _ w.result-is
    ]
