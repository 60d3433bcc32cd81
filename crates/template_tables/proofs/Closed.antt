-- Each template that a table names is there: what keeps it so.
use Rattle.std.proofs.Common.{◌≡◌, ◌∙◌, ℕ, Bool, true, false, cond, not, ◌||◌, nat_eq, List, [], ◌∷◌, ◌++◌, is_some, None, Some, refl, sym, ap, inl, inr, arith, length, if◌then◌else◌, ◌<◌, ◌≤◌, true≢false}
use Rattle.std.specs.List.{list_any}
use Rattle.std.specs.Map.{values_of, lookup, remove_entry, set_value}
use Rattle.std.proofs.lemmas.Bool.{or_parts, eqb-true, eq-eqb}
use Rattle.std.proofs.lemmas.List.{length-append}
use Rattle.std.proofs.lemmas.Bool.Decides.{eqb_tells}
use Rattle.flow_rules.specs.declared.fault.Cause.{Cause}
use Rattle.flow_rules.specs.Faults.{fault_if, first}
use Rattle.object_ids.specs.Ids.{is_used}
use Rattle.rule_binding.specs.declared.template.ActionsTemplate.{ActionsTemplate}
use Rattle.rule_binding.specs.declared.template.PatternTemplate.{PatternTemplate}
use Rattle.template_tables.specs.Refusals.{is_any_missing, is_without, names_pattern, names_actions}
use Rattle.template_tables.specs.Slots.{freed, settled_in}
use Rattle.template_tables.specs.TableView.{TableView}

or_false : (a b : Bool) → a ≡ false → b ≡ false → (a || b) ≡ false
or_false a b x y = ap (λ c. c || b) x ∙ y

module _ {X : Type 0} (before also after : X → Bool) (each : (x : X) → before x ≡ false → also x ≡ false → after x ≡ false) where
  -- where two tests fail on each element, a third does that fails where they do
  pub none_after : (xs : List X) → list_any before xs ≡ false → list_any also xs ≡ false → list_any after xs ≡ false
  none_after [] first second = refl
  none_after (x ∷ xs) first second =
      let a = or_parts (before x) (list_any before xs) first in
      let b = or_parts (also x) (list_any also xs) second in
      or_false (after x) (list_any after xs) (each x a.0 b.0) (none_after xs a.1 b.1)

module _ {X : Type 0} (test : X → Bool) (is_it : ℕ → Bool) where
  pub none_removed : (es : List (ℕ × X)) → list_any test (values_of es) ≡ false → list_any test (values_of (remove_entry is_it es)) ≡ false
  none_removed [] none = refl
  none_removed (e ∷ es) none =
      let parts = or_parts (test e.1) (list_any test (values_of es)) none in
      by (is_it e.0) parts.0 parts.1 (none_removed es parts.1)
    where
      by : (b : Bool) → test e.1 ≡ false → list_any test (values_of es) ≡ false → list_any test (values_of (remove_entry is_it es)) ≡ false
          → list_any test (values_of (cond b es (e ∷ remove_entry is_it es))) ≡ false
      by true first rest removed = rest
      by false first rest removed = or_false (test e.1) (list_any test (values_of (remove_entry is_it es))) first removed

  pub none_written : (es : List (ℕ × X)) (w : X) → list_any test (values_of es) ≡ false → test w ≡ false → list_any test (values_of (set_value is_it es w)) ≡ false
  none_written [] w none new = refl
  none_written (e ∷ es) w none new =
      let parts = or_parts (test e.1) (list_any test (values_of es)) none in
      by (is_it e.0) parts.0 parts.1 (none_written es w parts.1 new)
    where
      by : (b : Bool) → test e.1 ≡ false → list_any test (values_of es) ≡ false → list_any test (values_of (set_value is_it es w)) ≡ false
          → list_any test (values_of (cond b ((e.0, w) ∷ es) (e ∷ set_value is_it es w))) ≡ false
      by true first rest written = or_false (test w) (list_any test (values_of es)) new rest
      by false first rest written = or_false (test e.1) (list_any test (values_of (set_value is_it es w))) first written

  -- so it fails on what is found
  pub none_found : (es : List (ℕ × X)) (x : X) → list_any test (values_of es) ≡ false → lookup is_it es ≡ Some x → test x ≡ false
  none_found [] x none found = absurd (true≢false (sym (ap is_some found)))
  none_found (e ∷ es) x none found =
      let parts = or_parts (test e.1) (list_any test (values_of es)) none in
      by (is_it e.0) parts.0 (none_found es x parts.1) found
    where
      by : (b : Bool) → test e.1 ≡ false → (lookup is_it es ≡ Some x → test x ≡ false) → cond b (Some e.1) (lookup is_it es) ≡ Some x → test x ≡ false
      by true first rest found = cc
      by false first rest found = rest found

pub none_pushed : {X : Type 0} (test : X → Bool) (es : List (ℕ × X)) (e : ℕ × X) → list_any test (values_of es) ≡ false → test e.1 ≡ false
    → list_any test (values_of (es ++ e ∷ [])) ≡ false
none_pushed test [] e none new = or_false (test e.1) false new refl
none_pushed test (x ∷ es) e none new =
    let parts = or_parts (test x.1) (list_any test (values_of es)) none in
    or_false (test x.1) (list_any test (values_of (es ++ e ∷ []))) parts.0 (none_pushed test es e parts.1 new)

other_than : (gone id other : ℕ) → nat_eq gone id ≡ false → nat_eq gone other ≡ true → nat_eq id other ≡ false
other_than gone id other differs same = elim (eqb_tells id other) [
  | inl equal ↦
      let one : gone ≡ id = omega (arith, eqb-true gone other same, equal.1) in
      absurd (true≢false (sym (eq-eqb gone id one) ∙ differs))
  | inr differ ↦ differ.0
]

module _ {T : Type 0} where
  -- an id in use stays so behind one more object
  used_pushed : (objects : List (ℕ × T)) (e : ℕ × T) (id : ℕ) → not (is_used id objects) ≡ false → not (is_used id (objects ++ e ∷ [])) ≡ false
  used_pushed [] e id used = cc
  used_pushed (x ∷ objects) e id used = by (nat_eq id x.0) (used_pushed objects e id) used
    where
      by : (b : Bool) → (not (is_used id objects) ≡ false → not (is_used id (objects ++ e ∷ [])) ≡ false)
          → not (is_some (cond b (Some x.1) (lookup (nat_eq id) objects))) ≡ false → not (is_some (cond b (Some x.1) (lookup (nat_eq id) (objects ++ e ∷ [])))) ≡ false
      by true rest used = refl
      by false rest used = rest used

  pub missing_pushed : (objects : List (ℕ × T)) (e : ℕ × T) (ids : List ℕ) → is_any_missing objects ids ≡ false → is_any_missing (objects ++ e ∷ []) ids ≡ false
  missing_pushed objects e [] none = refl
  missing_pushed objects e (id ∷ ids) none =
      let parts = or_parts (not (is_used id objects)) (is_any_missing objects ids) none in
      or_false (not (is_used id (objects ++ e ∷ []))) (is_any_missing (objects ++ e ∷ []) ids) (used_pushed objects e id parts.0) (missing_pushed objects e ids parts.1)

  -- and behind the end of another
  used_removed : (objects : List (ℕ × T)) (gone id : ℕ) → nat_eq gone id ≡ false → not (is_used id objects) ≡ false → not (is_used id (remove_entry (nat_eq gone) objects)) ≡ false
  used_removed [] gone id other used = used
  used_removed (x ∷ objects) gone id other used = by (nat_eq gone x.0) refl (used_removed objects gone id other) used
    where
      kept : (c : Bool) → (not (is_used id objects) ≡ false → not (is_used id (remove_entry (nat_eq gone) objects)) ≡ false)
          → not (is_some (cond c (Some x.1) (lookup (nat_eq id) objects))) ≡ false
          → not (is_some (cond c (Some x.1) (lookup (nat_eq id) (remove_entry (nat_eq gone) objects)))) ≡ false
      kept true rest used = refl
      kept false rest used = rest used

      by : (b : Bool) → nat_eq gone x.0 ≡ b → (not (is_used id objects) ≡ false → not (is_used id (remove_entry (nat_eq gone) objects)) ≡ false)
          → not (is_used id (x ∷ objects)) ≡ false → not (is_used id (cond b objects (x ∷ remove_entry (nat_eq gone) objects))) ≡ false
      by true here rest used = ap (λ c. not (is_some (cond c (Some x.1) (lookup (nat_eq id) objects)))) (sym (other_than gone id x.0 other here)) ∙ used
      by false here rest used = kept (nat_eq id x.0) rest used

  pub missing_removed : (objects : List (ℕ × T)) (gone : ℕ) (ids : List ℕ) → list_any (nat_eq gone) ids ≡ false → is_any_missing objects ids ≡ false
      → is_any_missing (remove_entry (nat_eq gone) objects) ids ≡ false
  missing_removed objects gone [] other none = refl
  missing_removed objects gone (id ∷ ids) other none =
      let parts = or_parts (not (is_used id objects)) (is_any_missing objects ids) none in
      let others = or_parts (nat_eq gone id) (list_any (nat_eq gone) ids) other in
      or_false (not (is_used id (remove_entry (nat_eq gone) objects))) (is_any_missing (remove_entry (nat_eq gone) objects) ids)
      (used_removed objects gone id others.0 parts.0) (missing_removed objects gone ids others.1 parts.1)

module _ (patterns : List (ℕ × PatternTemplate)) (list : List (ℕ × ActionsTemplate)) (tables : List TableView) (named : list_any (is_without patterns list) tables ≡ false) where
  -- one more template
  pub named_with_pattern : (e : ℕ × PatternTemplate) → list_any (is_without (patterns ++ e ∷ []) list) tables ≡ false
  named_with_pattern e = none_after (is_without patterns list) (is_without patterns list) (is_without (patterns ++ e ∷ []) list)
      (λ table is_named _. let parts = or_parts (is_any_missing patterns table.patterns) (is_any_missing list table.actions) is_named in
      or_false (is_any_missing (patterns ++ e ∷ []) table.patterns) (is_any_missing list table.actions) (missing_pushed patterns e table.patterns parts.0) parts.1)
      tables named named

  pub named_with_actions : (e : ℕ × ActionsTemplate) → list_any (is_without patterns (list ++ e ∷ [])) tables ≡ false
  named_with_actions e = none_after (is_without patterns list) (is_without patterns list) (is_without patterns (list ++ e ∷ []))
      (λ table is_named _. let parts = or_parts (is_any_missing patterns table.patterns) (is_any_missing list table.actions) is_named in
      or_false (is_any_missing patterns table.patterns) (is_any_missing (list ++ e ∷ []) table.actions) parts.0 (missing_pushed list e table.actions parts.1))
      tables named named

  -- the end of a template that no table names
  pub named_without_pattern : (id : ℕ) → list_any (names_pattern id) tables ≡ false → list_any (is_without (remove_entry (nat_eq id) patterns) list) tables ≡ false
  named_without_pattern id free = none_after (is_without patterns list) (names_pattern id) (is_without (remove_entry (nat_eq id) patterns) list)
      (λ table is_named other. let parts = or_parts (is_any_missing patterns table.patterns) (is_any_missing list table.actions) is_named in
      or_false (is_any_missing (remove_entry (nat_eq id) patterns) table.patterns) (is_any_missing list table.actions)
      (missing_removed patterns id table.patterns other parts.0) parts.1)
      tables named free

  pub named_without_actions : (id : ℕ) → list_any (names_actions id) tables ≡ false → list_any (is_without patterns (remove_entry (nat_eq id) list)) tables ≡ false
  named_without_actions id free = none_after (is_without patterns list) (names_actions id) (is_without patterns (remove_entry (nat_eq id) list))
      (λ table is_named other. let parts = or_parts (is_any_missing patterns table.patterns) (is_any_missing list table.actions) is_named in
      or_false (is_any_missing patterns table.patterns) (is_any_missing (remove_entry (nat_eq id) list) table.actions)
      parts.0 (missing_removed list id table.actions other parts.1))
      tables named free

-- the second of two faults doesn't stand where none does
pub no_second : (a b : Bool) (first_cause second_cause : Cause) → first (fault_if a first_cause 0 ++ fault_if b second_cause 0) ≡ None → b ≡ false
no_second true b first_cause second_cause none = cc
no_second false true first_cause second_cause none = cc
no_second false false first_cause second_cause none = refl

-- one more object, where there may be
pub few_pushed : {X : Type 0} (objects : List X) (x : X) (more : List X) → more ≡ objects ++ x ∷ [] → length objects < 64 → length more ≤ 64
few_pushed objects x more is few = omega (arith, ap length is, length-append objects (x ∷ []), few)

-- a table with other slots and the same templates
pub named_written : (patterns : List (ℕ × PatternTemplate)) (list : List (ℕ × ActionsTemplate)) (tables more : List (ℕ × TableView)) (id : ℕ) (old new : TableView)
    → list_any (is_without patterns list) (values_of tables) ≡ false → Some old ≡ lookup (nat_eq id) tables → is_without patterns list new ≡ is_without patterns list old
    → more ≡ set_value (nat_eq id) tables new → list_any (is_without patterns list) (values_of more) ≡ false
named_written patterns list tables more id old new named found same is =
    ap (λ l. list_any (is_without patterns list) (values_of l)) is
    ∙ none_written (is_without patterns list) (nat_eq id) tables new named (same ∙ none_found (is_without patterns list) (nat_eq id) tables old named (sym found))

pub freed_keeps : (patterns : List (ℕ × PatternTemplate)) (list : List (ℕ × ActionsTemplate)) (id : ℕ) (table : TableView)
    → is_without patterns list (freed id table) ≡ is_without patterns list table
freed_keeps patterns list id table = by (is_some (settled_in id table))
  where
    by : (b : Bool) → is_without patterns list (if b then record table { slots = remove_entry (nat_eq id) table.slots } else table) ≡ is_without patterns list table
    by true = refl
    by false = refl
