-- The templates and tables that the code keeps are judged as those of the state are: as many slots of a table are taken.
use Rattle.std.proofs.Common.{◌≡◌, ℕ, suc, ◌+◌, ◌++◌, ◌||◌, not, nat_lt, Bool, true, false, cond, nat_eq, map, filter, length, is_some, List, [], ◌∷◌, Option, None, Some, IsSome, refl, sym, ap, ◌∙◌}
use Rattle.std.specs.List.{list_any, count_by, filter_map}
use Rattle.std.specs.Map.{lookup, values_of}
use Rattle.std.specs.Option.{option_map}
use Rattle.std.proofs.lemmas.Bool.{eqb-true}
use Rattle.std.proofs.lemmas.List.{length-append, length-map}
use Rattle.std.proofs.lemmas.List.Sums.{sum_by-cons, length-filter}
use Rattle.pattern_items.specs.declared.pattern.Pattern.{Pattern}
use Rattle.flow_actions.specs.declared.action.Actions.{Actions}
use Rattle.flow_rules.specs.declared.fault.Fault.{Fault}
use Rattle.flow_rules.specs.declared.fault.Cause.TheVariants as causes
use Rattle.flow_rules.specs.declared.spec.Attr.{Attr}
use Rattle.flow_rules.specs.declared.spec.RuleSpec.{RuleSpec}
use Rattle.flow_rules.specs.RuleView.{RuleView}
use Rattle.flow_rules.specs.Faults.{fault_if, first, attr_faults}
use Rattle.object_ids.specs.Ids.{is_used, id_for, id_faults}
use Rattle.template_tables.specs.TableView.{TableView}
use Rattle.template_tables.specs.TemplatesView.{TemplatesView, table_of}
use Rattle.template_tables.specs.Bound.{bind_refusals, bound_in, bound_by, faults_in}
use Rattle.template_tables.specs.Slots.{slot_refusals}
use Rattle.template_tables.specs.Refusals.{rules_of, is_out_of_range, is_any_missing, names_pattern, names_actions, is_busy, table_refusals, pattern_end_refusals, actions_end_refusals, table_end_refusals}
use Rattle.port_state.specs.declared.held.Held.{Held}
use Rattle.port_state.specs.declared.held.Held.TheVariants as held
use Rattle.port_state.specs.Kept.{AreKept, HasReserved, IsReservedFor, is_held_in, is_reserved}
use Rattle.port_state.specs.KeptState.{KeptState, plan_of, state_in}
use Rattle.port_state.specs.State.{Placed, all_held, held_slot, slot_of, stands_in, table_in, templates_in}
use Rattle.port_state.specs.StateInside.{HasSettled, HaveSettled}
use Rattle.object_ids.proofs.Alike.{id_for-alike, id_faults-alike}
use Rattle.port_state.proofs.Objects.{length-filter_map}

-- a table as it is judged by
abbrev pub judged : List Placed → List Held → ℕ → TableView → TableView
judged rules ops id table = (table_in rules ops (plan_of (id, table))).1

-- the creation of a rule of a table takes a slot
is-held-in : (id : ℕ) (op : Held) → is_some (held_slot id op) ≡ is_held_in id op
is-held-in id (held.RuleCreated rule table) = by (nat_eq id table) where
  by : (b : Bool) → is_some {T = ℕ × Option RuleView} (cond b (Some (rule.id, None)) None) ≡ b
  by true = refl
  by false = refl
is-held-in id (held.RuleDestroyed other) = refl
is-held-in id (held.SharedCreated other value) = refl
is-held-in id (held.SharedUpdated other value) = refl
is-held-in id (held.SharedDestroyed other) = refl

-- a table's slots are as many as it has rules, in effect or as their creation is held
pub slots-number : (ids : ℕ) (rules : List Placed) (ops : List Held) (id : ℕ) (table : TableView)
    → length table.slots ≡ count_by (stands_in id) rules + count_by is_reserved table.slots → IsReservedFor ids id ops table → length (judged rules ops id table).slots ≡ length table.slots
slots-number ids rules ops id table settled reserved =
    length-append (map slot_of (filter (stands_in id) rules)) (filter_map (held_slot id) ops)
    ∙ ap (λ n. n + length (filter_map (held_slot id) ops)) (length-map (filter (stands_in id) rules) slot_of ∙ length-filter (stands_in id) rules)
    ∙ ap (λ n. count_by (stands_in id) rules + n) (length-filter_map (held_slot id) (is_held_in id) (is-held-in id) ops ∙ sym reserved.number)
    ∙ sym settled

-- a table, if it is there, has as many slots as it is judged to have
abbrev pub IsAsLong : List Placed → List Held → ℕ → Option TableView → Type 0
IsAsLong rules ops id None = Unit {0}
IsAsLong rules ops id (Some table) = length (judged rules ops id table).slots ≡ length table.slots

module _ (rules : List Placed) (ops : List Held) where
  -- tables as they are judged by
  abbrev pub seen : List (ℕ × TableView) → List (ℕ × TableView)
  seen tables = map (table_in rules ops) (map plan_of tables)

  pub long-at : (ids id : ℕ) (o : Option TableView) → HasSettled rules id o → HasReserved ids ops id o → IsAsLong rules ops id o
  long-at ids id None settled reserved = tt
  long-at ids id (Some table) settled reserved = slots-number ids rules ops id table settled reserved

  pub seen-lookup : (id : ℕ) (tables : List (ℕ × TableView)) → lookup (nat_eq id) (seen tables) ≡ option_map (judged rules ops id) (lookup (nat_eq id) tables)
  seen-lookup id [] = refl
  seen-lookup id (e ∷ tables) = by (nat_eq id e.0) refl (seen-lookup id tables) where
    by : (b : Bool) → nat_eq id e.0 ≡ b → lookup (nat_eq id) (seen tables) ≡ option_map (judged rules ops id) (lookup (nat_eq id) tables)
        → cond b (Some (judged rules ops e.0 e.1)) (lookup (nat_eq id) (seen tables)) ≡ option_map (judged rules ops id) (cond b (Some e.1) (lookup (nat_eq id) tables))
    by true same behind = ap (λ k. Some (judged rules ops k e.1)) (sym (eqb-true id e.0 same))
    by false other behind = behind

  is_some-judged : (id : ℕ) (o : Option TableView) → is_some (option_map (judged rules ops id) o) ≡ is_some o
  is_some-judged id None = refl
  is_some-judged id (Some t) = refl

  used-seen : (tables : List (ℕ × TableView)) (id : ℕ) → is_used id tables ≡ is_used id (seen tables)
  used-seen tables id = sym (ap (λ (o : Option TableView). is_some o) (seen-lookup id tables) ∙ is_some-judged id (lookup (nat_eq id) tables))

  many-seen : (tables : List (ℕ × TableView)) → length tables ≡ length (seen tables)
  many-seen [] = refl
  many-seen (e ∷ tables) = ap suc (many-seen tables)

  rules_of-seen : (tables : List (ℕ × TableView)) → rules_of (values_of tables) ≡ rules_of (values_of (seen tables))
  rules_of-seen [] = refl
  rules_of-seen (e ∷ tables) =
      sum_by-cons (λ (t : TableView). t.rules_number) e.1 (values_of tables)
      ∙ ap (λ n. e.1.rules_number + n) (rules_of-seen tables) ∙ sym (sum_by-cons (λ (t : TableView). t.rules_number) (judged rules ops e.0 e.1) (values_of (seen tables)))

  patterns-seen : (id : ℕ) (tables : List (ℕ × TableView)) → list_any (names_pattern id) (values_of tables) ≡ list_any (names_pattern id) (values_of (seen tables))
  patterns-seen id [] = refl
  patterns-seen id (e ∷ tables) = ap (λ b. names_pattern id e.1 || b) (patterns-seen id tables)

  actions-seen : (id : ℕ) (tables : List (ℕ × TableView)) → list_any (names_actions id) (values_of tables) ≡ list_any (names_actions id) (values_of (seen tables))
  actions-seen id [] = refl
  actions-seen id (e ∷ tables) = ap (λ b. names_actions id e.1 || b) (actions-seen id tables)

  -- what depends on how many slots are taken
  busy-judged : (id : ℕ) (o : Option TableView) → IsAsLong rules ops id o → is_busy o ≡ is_busy (option_map (judged rules ops id) o)
  busy-judged id None long = refl
  busy-judged id (Some t) long = ap (nat_lt 0) (sym long)

  slots-judged : (id : ℕ) (o : Option TableView) → IsAsLong rules ops id o → slot_refusals o ≡ slot_refusals (option_map (judged rules ops id) o)
  slots-judged id None long = refl
  slots-judged id (Some t) long = ap (λ n. fault_if (nat_eq n t.rules_number) causes.TableFull 0) (sym long)

  -- what depends on patterns and actions alone
  faults-judged : (t : TemplatesView) (tables : List (ℕ × TableView)) (id pt act : ℕ) (pattern : Pattern) (actions : Actions) (o : Option TableView)
      → faults_in t o pt act pattern actions ≡ faults_in (record t { tables = tables }) (option_map (judged rules ops id) o) pt act pattern actions
  faults-judged t tables id pt act pattern actions None = refl
  faults-judged t tables id pt act pattern actions (Some table) = refl

  bound-judged : (t : TemplatesView) (tables : List (ℕ × TableView)) (id pt act : ℕ) (pattern : Pattern) (actions : Actions) (o : Option TableView)
      → bound_by t o pt act pattern actions ≡ bound_by (record t { tables = tables }) (option_map (judged rules ops id) o) pt act pattern actions
  bound-judged t tables id pt act pattern actions None = refl
  bound-judged t tables id pt act pattern actions (Some table) = refl

-- ---- what is kept, and what is judged

pub table-fault : (k : KeptState) (id : Option ℕ) (attr : Attr) (n : ℕ) (patterns actions : List ℕ)
    → first (table_refusals k.templates id attr n patterns actions) ≡ first (table_refusals (templates_in (state_in k)) id attr n patterns actions)
table-fault k id attr n patterns actions =
    let t = k.templates in
    let rules = (state_in k).rules in
    let ops = all_held (state_in k) in
    let by_parts : ℕ → List Fault → Option Fault
    = λ others ids. first (attr_faults attr
    ++ (fault_if (is_out_of_range n others) causes.RulesNumber 0
    ++ (fault_if (is_any_missing t.patterns patterns) causes.NoObject 0 ++ (fault_if (is_any_missing t.actions actions) causes.NoObject 0 ++ ids)))) in
    ap (λ others. by_parts others (id_faults 64 id t.tables)) (rules_of-seen rules ops t.tables)
    ∙ ap (by_parts (rules_of (values_of (seen rules ops t.tables)))) (id_faults-alike t.tables (seen rules ops t.tables) (used-seen rules ops t.tables) 64 id (many-seen rules ops t.tables))

pub pattern-end : (k : KeptState) (id : ℕ) → first (pattern_end_refusals k.templates id) ≡ first (pattern_end_refusals (templates_in (state_in k)) id)
pattern-end k id =
    ap (λ b. first (fault_if (not (is_used id k.templates.patterns)) causes.NoObject 0 ++ fault_if b causes.Busy 0)) (patterns-seen (state_in k).rules (all_held (state_in k)) id k.templates.tables)

pub actions-end : (k : KeptState) (id : ℕ) → first (actions_end_refusals k.templates id) ≡ first (actions_end_refusals (templates_in (state_in k)) id)
actions-end k id =
    ap (λ b. first (fault_if (not (is_used id k.templates.actions)) causes.NoObject 0 ++ fault_if b causes.Busy 0)) (actions-seen (state_in k).rules (all_held (state_in k)) id k.templates.tables)

-- where the slots are right, the table of an id has as many as it is judged to have
long-kept : (k : KeptState) → HaveSettled (state_in k).rules k.templates → AreKept k → (id : ℕ) → IsAsLong (state_in k).rules (all_held (state_in k)) id (table_of id k.templates)
long-kept k settled kept id = long-at (state_in k).rules (all_held (state_in k)) k.ids id (table_of id k.templates) (settled id) (kept.tables id)

pub table-end : (k : KeptState) → HaveSettled (state_in k).rules k.templates → AreKept k → (id : ℕ)
    → first (table_end_refusals k.templates id) ≡ first (table_end_refusals (templates_in (state_in k)) id)
table-end k settled kept id =
    let rules = (state_in k).rules in
    let ops = all_held (state_in k) in
    let tables = k.templates.tables in
    ap (λ b. first (fault_if (not b) causes.NoObject 0 ++ fault_if (is_busy (table_of id k.templates)) causes.Busy 0)) (used-seen rules ops tables id)
    ∙ ap (λ b. first (fault_if (not (is_used id (seen rules ops tables))) causes.NoObject 0 ++ fault_if b causes.Busy 0))
    (busy-judged rules ops id (table_of id k.templates) (long-kept k settled kept id) ∙ ap is_busy (sym (seen-lookup rules ops id tables)))

pub slots-left : (k : KeptState) → HaveSettled (state_in k).rules k.templates → AreKept k → (id : ℕ)
    → slot_refusals (table_of id k.templates) ≡ slot_refusals (table_of id (templates_in (state_in k)))
slots-left k settled kept id =
    let rules = (state_in k).rules in
    let ops = all_held (state_in k) in
    slots-judged rules ops id (table_of id k.templates) (long-kept k settled kept id) ∙ ap slot_refusals (sym (seen-lookup rules ops id k.templates.tables))

pub table-there : (k : KeptState) (id : ℕ) → is_some (table_of id k.templates) ≡ is_some (table_of id (templates_in (state_in k)))
table-there k id = used-seen (state_in k).rules (all_held (state_in k)) k.templates.tables id

-- what depends on a table by its templates alone
by-templates : {A : Type 0} (k : KeptState) (id : ℕ) (read : TemplatesView → Option TableView → A)
    → ((o : Option TableView) → read k.templates o ≡ read (templates_in (state_in k)) (option_map (judged (state_in k).rules (all_held (state_in k)) id) o))
    → read k.templates (table_of id k.templates) ≡ read (templates_in (state_in k)) (table_of id (templates_in (state_in k)))
by-templates k id read alike = alike (table_of id k.templates) ∙ ap (read (templates_in (state_in k))) (sym (seen-lookup (state_in k).rules (all_held (state_in k)) id k.templates.tables))

pub bind-fault : (k : KeptState) (id pt act : ℕ) (pattern : Pattern) (actions : Actions)
    → bind_refusals k.templates id pt act pattern actions ≡ bind_refusals (templates_in (state_in k)) id pt act pattern actions
bind-fault k id pt act pattern actions = by-templates k id (λ (t : TemplatesView) (o : Option TableView). faults_in t o pt act pattern actions)
    (faults-judged (state_in k).rules (all_held (state_in k)) k.templates (templates_in (state_in k)).tables id pt act pattern actions)

pub bind-rule : (k : KeptState) (id pt act : ℕ) (pattern : Pattern) (actions : Actions)
    → bound_in k.templates id pt act pattern actions ≡ bound_in (templates_in (state_in k)) id pt act pattern actions
bind-rule k id pt act pattern actions = by-templates k id (λ (t : TemplatesView) (o : Option TableView). bound_by t o pt act pattern actions)
    (bound-judged (state_in k).rules (all_held (state_in k)) k.templates (templates_in (state_in k)).tables id pt act pattern actions)

-- a rule is bound in a table that is there
pub bound-there : (t : TemplatesView) (o : Option TableView) (pt act : ℕ) (pattern : Pattern) (actions : Actions) (spec : RuleSpec) → bound_by t o pt act pattern actions ≡ Some spec → IsSome o
bound-there t None pt act pattern actions spec is = cc
bound-there t (Some table) pt act pattern actions spec is = refl

-- the id of a new table, by those of the state and by those that are kept
used-plans : (tables : List (ℕ × TableView)) (q : ℕ) → is_used q tables ≡ is_used q (map plan_of tables)
used-plans [] q = refl
used-plans (e ∷ tables) q = by (nat_eq q e.0) (used-plans tables q) where
  by : (b : Bool) → is_used q tables ≡ is_used q (map plan_of tables)
      → is_some (cond b (Some e.1) (lookup (nat_eq q) tables)) ≡ is_some (cond b (Some (plan_of e).1) (lookup (nat_eq q) (map plan_of tables)))
  by true behind = refl
  by false behind = behind

many-plans : (tables : List (ℕ × TableView)) → length tables ≡ length (map plan_of tables)
many-plans [] = refl
many-plans (e ∷ tables) = ap suc (many-plans tables)

pub id_for-plans : (tables : List (ℕ × TableView)) (id : Option ℕ) → id_for id tables ≡ id_for id (map plan_of tables)
id_for-plans tables id = id_for-alike tables (map plan_of tables) (used-plans tables) id (many-plans tables)
