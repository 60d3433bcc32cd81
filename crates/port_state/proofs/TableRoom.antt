-- For how many rules tables are: those that stand in them, and those whose creation is held for them.
use Rattle.std.proofs.Common.{◌≡◌, ℕ, nat_eq, ◌<◌, ◌≤◌, ◌+◌, Bool, true, false, cond, not, is_some, List, [], ◌∷◌, ◌++◌, length, map, filter, Option, None, Some, IsSome, ⊎_elim, refl, sym, ap, ◌∙◌, subst, arith}
use Rattle.std.specs.List.{count_by, filter_map, cons_option, sum_by}
use Rattle.std.specs.Map.{lookup, remove_entry, values_of}
use Rattle.std.specs.Option.{is_none}
use Rattle.std.proofs.lemmas.Bool.{ltb-false, eqb-true, eqb-false, eq-eqb, cases_lt}
use Rattle.std.proofs.lemmas.List.{length-append, length-map}
use Rattle.std.proofs.lemmas.List.Sums.{sum_by-append, sum_by-cons, length-filter}
use Rattle.flow_rules.specs.declared.fault.Cause.TheVariants as causes
use Rattle.flow_rules.specs.Faults.{fault_if, first}
use Rattle.template_tables.specs.Refusals.{rules_of, is_busy}
use Rattle.template_tables.specs.Slots.{slot_refusals}
use Rattle.template_tables.specs.TableView.{TableView}
use Rattle.port_state.specs.declared.held.Held.{Held}
use Rattle.port_state.specs.declared.held.Held.TheVariants as held
use Rattle.port_state.specs.Kept.{is_held_in}
use Rattle.port_state.specs.State.{Placed, is_table, stands_in, slot_of, held_slot, table_in, is_plain}
use Rattle.port_state.specs.Tables.{Table}
use Rattle.port_state.proofs.ApartKept.{count_by-filter, one_if}
use Rattle.port_state.proofs.Waiting.{count_by-first}

-- a rule that stands in a table, or will
abbrev pub is_in_table : Placed → Bool
is_in_table r = not (is_plain r)

abbrev pub is_creation : Held → Bool
is_creation (held.RuleCreated rule table) = true
is_creation _ = false

-- for how many rules a table of an id is, and all tables are
abbrev pub room_at : ℕ → List (ℕ × Table) → ℕ
room_at id [] = 0
room_at id (e ∷ tables) = cond (nat_eq id e.0) e.1.rules_number (room_at id tables)

abbrev pub room_of : List (ℕ × Table) → ℕ
room_of tables = sum_by (λ (e : ℕ × Table). e.1.rules_number) tables

-- rules that stand in a table, and those whose creation is held for it, are at most as many as it is for
abbrev pub HaveRoom : List Placed → List Held → List (ℕ × Table) → Type 0
HaveRoom rules list tables = (id : ℕ) → count_by (stands_in id) rules + count_by (is_held_in id) list ≤ room_at id tables

-- tables are for all that stand in them, or will: by the ids of their tables
abbrev table_key : Placed → Option ℕ
table_key r = r.table

abbrev held_key : Held → Option ℕ
held_key (held.RuleCreated rule table) = Some table
held_key (held.RuleDestroyed id) = None
held_key (held.SharedCreated id value) = None
held_key (held.SharedUpdated id value) = None
held_key (held.SharedDestroyed id) = None

count-same : {A : Type 0} (one other : A → Bool) → ((x : A) → one x ≡ other x) → (xs : List A) → count_by one xs ≡ count_by other xs
count-same one other same [] = refl
count-same one other same (x ∷ xs) = omega (arith, count_by-first one x xs, count_by-first other x xs, ap one_if (same x), count-same one other same xs)

count-keys : {A : Type 0} (key : A → Option ℕ) (id : ℕ) (xs : List A) → count_by (nat_eq id) (filter_map key xs) ≡ count_by (λ x. is_table id (key x)) xs
count-keys key id [] = refl
count-keys key id (x ∷ xs) = by (key x) refl (count-keys key id xs) where
  by : (o : Option ℕ) → key x ≡ o → count_by (nat_eq id) (filter_map key xs) ≡ count_by (λ y. is_table id (key y)) xs
      → count_by (nat_eq id) (cons_option o (filter_map key xs)) ≡ count_by (λ y. is_table id (key y)) (x ∷ xs)
  by None is same = omega (arith, same, count_by-first (λ y. is_table id (key y)) x xs, ap (λ (k : Option ℕ). one_if (is_table id k)) is)
  by (Some table) is same =
      omega (arith, same, count_by-first (nat_eq id) table (filter_map key xs), count_by-first (λ y. is_table id (key y)) x xs, ap (λ (k : Option ℕ). one_if (is_table id k)) is)

length-keys : {A : Type 0} (key : A → Option ℕ) (xs : List A) → length (filter_map key xs) ≡ count_by (λ x. is_some (key x)) xs
length-keys key [] = refl
length-keys key (x ∷ xs) = by (key x) refl (length-keys key xs) where
  by : (o : Option ℕ) → key x ≡ o → length (filter_map key xs) ≡ count_by (λ y. is_some (key y)) xs
      → length (cons_option o (filter_map key xs)) ≡ count_by (λ y. is_some (key y)) (x ∷ xs)
  by None is same = omega (arith, same, count_by-first (λ y. is_some (key y)) x xs, ap (λ (k : Option ℕ). one_if (is_some k)) is)
  by (Some table) is same = omega (arith, same, count_by-first (λ y. is_some (key y)) x xs, ap (λ (k : Option ℕ). one_if (is_some k)) is)

-- ids of tables, each at most so often as the table is for rules
parts-of : (id : ℕ) (xs : List ℕ) → length xs ≡ count_by (nat_eq id) xs + length (filter (λ k. not (nat_eq id k)) xs)
parts-of id [] = refl
parts-of id (k ∷ xs) = by (nat_eq id k) (parts-of id xs) (count_by-first (nat_eq id) k xs) where
  by : (b : Bool) → length xs ≡ count_by (nat_eq id) xs + length (filter (λ j. not (nat_eq id j)) xs) → count_by (nat_eq id) (k ∷ xs) ≡ cond b 1 0 + count_by (nat_eq id) xs
      → length (k ∷ xs) ≡ count_by (nat_eq id) (k ∷ xs) + length (cond (not b) (k ∷ filter (λ j. not (nat_eq id j)) xs) (filter (λ j. not (nat_eq id j)) xs))
  by true behind first = omega (arith, behind, first)
  by false behind first = omega (arith, behind, first)

none-left : (id : ℕ) (xs : List ℕ) → count_by (nat_eq id) (filter (λ k. not (nat_eq id k)) xs) ≡ 0
none-left id [] = refl
none-left id (k ∷ xs) = by (nat_eq id k) refl (none-left id xs) where
  by : (b : Bool) → nat_eq id k ≡ b → count_by (nat_eq id) (filter (λ j. not (nat_eq id j)) xs) ≡ 0
      → count_by (nat_eq id) (cond (not b) (k ∷ filter (λ j. not (nat_eq id j)) xs) (filter (λ j. not (nat_eq id j)) xs)) ≡ 0
  by true is behind = behind
  by false is behind = omega (arith, behind, count_by-first (nat_eq id) k (filter (λ j. not (nat_eq id j)) xs), ap one_if is)

few-keys : (tables : List (ℕ × Table)) (xs : List ℕ) → ((id : ℕ) → count_by (nat_eq id) xs ≤ room_at id tables) → length xs ≤ room_of tables
few-keys [] [] within = omega arith
few-keys [] (k ∷ xs) within = absurd (omega (arith, within k, count_by-first (nat_eq k) k xs, ap one_if (eq-eqb k k refl)))
few-keys (e ∷ tables) xs within =
    let others = filter (λ k. not (nat_eq e.0 k)) xs in
    omega (arith, parts-of e.0 xs, few-keys tables others (λ id. by id (nat_eq id e.0) refl (within id)), here e.0 refl (within e.0), sum_by-cons (λ (x : ℕ × Table). x.1.rules_number) e tables) where
      here : (id : ℕ) → id ≡ e.0 → count_by (nat_eq id) xs ≤ cond (nat_eq id e.0) e.1.rules_number (room_at id tables) → count_by (nat_eq id) xs ≤ e.1.rules_number
      here id is most = subst (λ b. count_by (nat_eq id) xs ≤ cond b e.1.rules_number (room_at id tables)) (eq-eqb id e.0 is) most

      by : (id : ℕ) (b : Bool) → nat_eq id e.0 ≡ b → count_by (nat_eq id) xs ≤ cond b e.1.rules_number (room_at id tables)
          → count_by (nat_eq id) (filter (λ k. not (nat_eq e.0 k)) xs) ≤ room_at id tables
      by id true is most = omega (arith, subst (λ k. count_by (nat_eq k) (filter (λ j. not (nat_eq e.0 j)) xs) ≡ 0) (sym (eqb-true id e.0 is)) (none-left e.0 xs))
      by id false is most = omega (arith, most, count_by-filter (nat_eq id) (λ k. not (nat_eq e.0 k)) xs)

held-in : (id : ℕ) (op : Held) → is_table id (held_key op) ≡ is_held_in id op
held-in id (held.RuleCreated rule table) = refl
held-in id (held.RuleDestroyed rule) = refl
held-in id (held.SharedCreated new value) = refl
held-in id (held.SharedUpdated new value) = refl
held-in id (held.SharedDestroyed new) = refl

held-creation : (op : Held) → is_some (held_key op) ≡ is_creation op
held-creation (held.RuleCreated rule table) = refl
held-creation (held.RuleDestroyed rule) = refl
held-creation (held.SharedCreated new value) = refl
held-creation (held.SharedUpdated new value) = refl
held-creation (held.SharedDestroyed new) = refl

some-table : (r : Placed) → is_some (table_key r) ≡ is_in_table r
some-table r = by r.table where
  by : (o : Option ℕ) → is_some o ≡ not (is_none o)
  by None = refl
  by (Some table) = refl

-- rules that stand in tables, and those that will, are at most as many as all tables are for
pub few-in-tables : (tables : List (ℕ × Table)) (rules : List Placed) (list : List Held) → HaveRoom rules list tables
    → count_by is_in_table rules + count_by is_creation list ≤ room_of tables
few-in-tables tables rules list within =
    let placed = filter_map table_key rules in
    let waits = filter_map held_key list in
    let most = few-keys tables (placed ++ waits) (λ id.
    omega (
      arith,
      within id,
      sum_by-append (λ k. cond (nat_eq id k) 1 0) placed waits,
      count-keys table_key id rules,
      count-keys held_key id list,
      count-same (λ (op : Held). is_table id (held_key op)) (is_held_in id) (held-in id) list,
    )) in
    omega (
      arith,
      most,
      length-append placed waits,
      length-keys table_key rules,
      length-keys held_key list,
      count-same (λ (r : Placed). is_some (table_key r)) is_in_table some-table rules,
      count-same (λ (op : Held). is_some (held_key op)) is_creation held-creation list,
    )

-- the slots of a table as it is judged are those of its rules, and those of the creations that are held for it
length-slots : (id : ℕ) (list : List Held) → length (filter_map (held_slot id) list) ≡ count_by (is_held_in id) list
length-slots id [] = refl
length-slots id (held.RuleCreated rule table ∷ list) = by (nat_eq id table) (length-slots id list) (count_by-first (is_held_in id) (held.RuleCreated rule table) list) where
  by : (b : Bool) → length (filter_map (held_slot id) list) ≡ count_by (is_held_in id) list → count_by (is_held_in id) (held.RuleCreated rule table ∷ list) ≡ cond b 1 0 + count_by (is_held_in id) list
      → length (cons_option (cond b (Some (rule.id, None)) None) (filter_map (held_slot id) list)) ≡ count_by (is_held_in id) (held.RuleCreated rule table ∷ list)
  by true behind first = omega (arith, behind, first)
  by false behind first = omega (arith, behind, first)
length-slots id (held.RuleDestroyed rule ∷ list) = omega (arith, length-slots id list, count_by-first (is_held_in id) (held.RuleDestroyed rule) list)
length-slots id (held.SharedCreated new value ∷ list) = omega (arith, length-slots id list, count_by-first (is_held_in id) (held.SharedCreated new value) list)
length-slots id (held.SharedUpdated new value ∷ list) = omega (arith, length-slots id list, count_by-first (is_held_in id) (held.SharedUpdated new value) list)
length-slots id (held.SharedDestroyed new ∷ list) = omega (arith, length-slots id list, count_by-first (is_held_in id) (held.SharedDestroyed new) list)

slots-in : (rules : List Placed) (list : List Held) (e : ℕ × Table) → length (table_in rules list e).1.slots ≡ count_by (stands_in e.0) rules + count_by (is_held_in e.0) list
slots-in rules list e =
    omega (
      arith,
      length-append (map slot_of (filter (stands_in e.0) rules)) (filter_map (held_slot e.0) list),
      length-map (filter (stands_in e.0) rules) slot_of,
      length-filter (stands_in e.0) rules,
      length-slots e.0 list,
    )

-- what is judged of the table of an id
abbrev pub found : List Placed → List Held → ℕ → List (ℕ × Table) → Option TableView
found rules list id tables = lookup (nat_eq id) (map (table_in rules list) tables)

-- a table that isn't full has room for one more
pub slot-free : (rules : List Placed) (list : List Held) (id : ℕ) (tables : List (ℕ × Table)) → IsSome (found rules list id tables)
    → first (slot_refusals (found rules list id tables)) ≡ None → count_by (stands_in id) rules + count_by (is_held_in id) list ≤ room_at id tables
    → count_by (stands_in id) rules + count_by (is_held_in id) list < room_at id tables
slot-free rules list id [] there none most = cc
slot-free rules list id (e ∷ tables) there none most = by (nat_eq id e.0) refl there none most (slot-free rules list id tables) where
  not-full : (b : Bool) → nat_eq (length (table_in rules list e).1.slots) e.1.rules_number ≡ b → first (fault_if b causes.TableFull 0) ≡ None → b ≡ false
  not-full true is none = cc
  not-full false is none = refl

  by : (b : Bool) → nat_eq id e.0 ≡ b → IsSome (cond b (Some (table_in rules list e).1) (found rules list id tables))
      → first (slot_refusals (cond b (Some (table_in rules list e).1) (found rules list id tables))) ≡ None
      → count_by (stands_in id) rules + count_by (is_held_in id) list ≤ cond b e.1.rules_number (room_at id tables)
      → (IsSome (found rules list id tables) → first (slot_refusals (found rules list id tables)) ≡ None
      → count_by (stands_in id) rules + count_by (is_held_in id) list ≤ room_at id tables → count_by (stands_in id) rules + count_by (is_held_in id) list < room_at id tables)
      → count_by (stands_in id) rules + count_by (is_held_in id) list < cond b e.1.rules_number (room_at id tables)
  by true is there none most others =
      let full = not-full (nat_eq (length (table_in rules list e).1.slots) e.1.rules_number) refl none in
      let slots = subst (λ k. length (table_in rules list e).1.slots ≡ count_by (stands_in k) rules + count_by (is_held_in k) list) (sym (eqb-true id e.0 is)) (slots-in rules list e) in
      less (count_by (stands_in id) rules + count_by (is_held_in id) list) e.1.rules_number most (λ same. eqb-false (length (table_in rules list e).1.slots) e.1.rules_number full (slots ∙ same)) where
        less : (n m : ℕ) → n ≤ m → (n ≡ m → ⊥) → n < m
        less n m most apart = ⊎_elim (λ (below : n < m). below) (λ (above : m ≤ n). absurd (apart (omega (arith, most, above)))) (cases_lt n m)
  by false is there none most others = others there none most

-- a table that isn't busy has no rule, and no creation waits for it
pub not-busy : (rules : List Placed) (list : List Held) (id : ℕ) (tables : List (ℕ × Table)) → is_busy (found rules list id tables) ≡ false
    → count_by (stands_in id) rules + count_by (is_held_in id) list ≤ room_at id tables → count_by (stands_in id) rules + count_by (is_held_in id) list ≡ 0
not-busy rules list id [] busy most = omega (arith, most)
not-busy rules list id (e ∷ tables) busy most = by (nat_eq id e.0) refl busy most (not-busy rules list id tables) where
  by : (b : Bool) → nat_eq id e.0 ≡ b → is_busy (cond b (Some (table_in rules list e).1) (found rules list id tables)) ≡ false
      → count_by (stands_in id) rules + count_by (is_held_in id) list ≤ cond b e.1.rules_number (room_at id tables)
      → (is_busy (found rules list id tables) ≡ false → count_by (stands_in id) rules + count_by (is_held_in id) list ≤ room_at id tables
      → count_by (stands_in id) rules + count_by (is_held_in id) list ≡ 0) → count_by (stands_in id) rules + count_by (is_held_in id) list ≡ 0
  by true is busy most others =
      let slots = subst (λ k. length (table_in rules list e).1.slots ≡ count_by (stands_in k) rules + count_by (is_held_in k) list) (sym (eqb-true id e.0 is)) (slots-in rules list e) in
      omega (arith, slots, ltb-false 0 (length (table_in rules list e).1.slots) busy)
  by false is busy most others = others busy most

-- a table goes, or comes
pub room_at-without : (id q : ℕ) (tables : List (ℕ × Table)) → nat_eq q id ≡ false → room_at q (remove_entry (nat_eq id) tables) ≡ room_at q tables
room_at-without id q [] other = refl
room_at-without id q (e ∷ tables) other = by (nat_eq id e.0) refl (room_at-without id q tables other) where
  by : (b : Bool) → nat_eq id e.0 ≡ b → room_at q (remove_entry (nat_eq id) tables) ≡ room_at q tables
      → room_at q (cond b tables (e ∷ remove_entry (nat_eq id) tables)) ≡ cond (nat_eq q e.0) e.1.rules_number (room_at q tables)
  by true is behind = ap (λ b. cond b e.1.rules_number (room_at q tables)) (sym (ap (nat_eq q) (sym (eqb-true id e.0 is)) ∙ other))
  by false is behind = ap (cond (nat_eq q e.0) e.1.rules_number) behind

pub room_of-without : (id : ℕ) (tables : List (ℕ × Table)) → room_of (remove_entry (nat_eq id) tables) ≤ room_of tables
room_of-without id [] = omega arith
room_of-without id (e ∷ tables) = by (nat_eq id e.0) (room_of-without id tables) (sum_by-cons (λ (x : ℕ × Table). x.1.rules_number) e tables) where
  by : (b : Bool) → room_of (remove_entry (nat_eq id) tables) ≤ room_of tables → room_of (e ∷ tables) ≡ e.1.rules_number + room_of tables
      → room_of (cond b tables (e ∷ remove_entry (nat_eq id) tables)) ≤ room_of (e ∷ tables)
  by true behind first = omega (arith, first)
  by false behind first = omega (arith, behind, first, sum_by-cons (λ (x : ℕ × Table). x.1.rules_number) e (remove_entry (nat_eq id) tables))

pub room_at-more : (q : ℕ) (tables : List (ℕ × Table)) (e : ℕ × Table) → room_at q tables ≤ room_at q (tables ++ e ∷ [])
room_at-more q [] e = omega arith
room_at-more q (x ∷ tables) e = by (nat_eq q x.0) (room_at-more q tables e) where
  by : (b : Bool) → room_at q tables ≤ room_at q (tables ++ e ∷ []) → cond b x.1.rules_number (room_at q tables) ≤ cond b x.1.rules_number (room_at q (tables ++ e ∷ []))
  by true behind = omega arith
  by false behind = behind

pub rules_of-found : (rules : List Placed) (list : List Held) (tables : List (ℕ × Table)) → rules_of (values_of (map (table_in rules list) tables)) ≡ room_of tables
rules_of-found rules list [] = refl
rules_of-found rules list (e ∷ tables) =
    omega (
      arith,
      rules_of-found rules list tables,
      sum_by-cons (λ (x : ℕ × Table). x.1.rules_number) e tables,
      sum_by-cons (λ (t : TableView). t.rules_number) (table_in rules list e).1 (values_of (map (table_in rules list) tables)),
    )
