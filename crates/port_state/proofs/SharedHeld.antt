-- What the code keeps for held operations, as shared actions come and go.
use Rattle.std.proofs.Common.{◌≡◌, ℕ, suc, ◌+◌, ◌++◌, ◌||◌, Bool, true, false, cond, nat_eq, nat_lt, length, is_some, List, [], ◌∷◌, Option, None, Some, IsSome, refl, sym, ap, ◌∙◌, subst, arith, true≢false}
use Rattle.std.specs.List.{All, IsDistinct, count_by}
use Rattle.std.specs.Map.{keys_of}
use Rattle.std.specs.Option.{option_map}
use Rattle.std.proofs.lemmas.Bool.{eqb-true, eq-eqb, lt-ltb, ltb-false}
use Rattle.std.proofs.lemmas.List.{length-append}
use Rattle.std.proofs.lemmas.List.Elements.{All-nil, All-cons, All-head, All-tail}
use Rattle.std.proofs.lemmas.Option.{same_Some}
use Rattle.flow_actions.specs.declared.action.Action.{Action}
use Rattle.flow_rules.specs.Shared.{shared_at}
use Rattle.template_tables.specs.TemplatesView.{TemplatesView, table_of}
use Rattle.template_tables.specs.TableView.{TableView}
use Rattle.object_ids.specs.Ids.{is_used}
use Rattle.indirect_counters.specs.declared.shared_action.SharedAction.{SharedAction}
use Rattle.indirect_counters.specs.Entries.{Entries, created, entry_at, if_in_effect, in_effect_at, values_in_effect}
use Rattle.indirect_counters.specs.Effects.{activated, added, behind_others, updated, without}
use Rattle.indirect_counters.proofs.Effects.{seen-at, values-append, values-held, entry_at-changed_at, entry_at-pushed, entry_at-without, entry_at-activated}
use Rattle.indirect_counters.proofs.Lawful.{length-activated, length-changed_at, length-taken}
use Rattle.port_state.specs.declared.held.Held.{Held}
use Rattle.port_state.specs.declared.held.Held.TheVariants as held
use Rattle.port_state.specs.Apart.{is_held_shared, is_shared_creation}
use Rattle.port_state.specs.Kept.{is_held_in, HasReserved, IsHeldIn, AreKeptFor}
use Rattle.port_state.proofs.Settling.{none-first}
use Rattle.port_state.proofs.Waiting.{count_by-first}

-- an id is in use where an action stands there in effect, or its creation is held
abbrev IsInUse : Option SharedAction → Bool → Type 0
IsInUse o waits = is_some o ≡ (is_some (if_in_effect o) || waits)

is_some-map : {A B : Type 0} (f : A → B) (o : Option A) → is_some (option_map f o) ≡ is_some o
is_some-map f None = refl
is_some-map f (Some x) = refl

some-values : (q : ℕ) (entries : Entries) → IsDistinct nat_eq (keys_of entries) → is_some (shared_at q (values_in_effect entries)) ≡ is_some (in_effect_at q entries)
some-values q entries ids = ap (λ (o : Option Action). is_some o) (seen-at q entries ids) ∙ is_some-map (λ (e : SharedAction). e.value) (in_effect_at q entries)

in-use : (q : ℕ) (entries : Entries) (waits : Bool) → IsDistinct nat_eq (keys_of entries) → is_used q entries ≡ (is_some (shared_at q (values_in_effect entries)) || waits)
    → IsInUse (entry_at q entries) waits
in-use q entries waits ids used = used ∙ ap (λ b. b || waits) (some-values q entries ids)

used-is : (q : ℕ) (entries : Entries) (waits : Bool) (o : Option SharedAction) → IsDistinct nat_eq (keys_of entries) → entry_at q entries ≡ o → IsInUse o waits
    → is_used q entries ≡ (is_some (shared_at q (values_in_effect entries)) || waits)
used-is q entries waits o ids is busy =
    ap (λ (x : Option SharedAction). is_some x) is ∙ busy
    ∙ sym (ap (λ b. b || waits) (some-values q entries ids ∙ ap (λ x. is_some (if_in_effect x)) is))

-- whether an operation of a queue waits for an id
abbrev waits_for : ℕ → List Held → Bool
waits_for q ops = nat_lt 0 (count_by (is_held_shared q) ops)

-- nothing is held for an id that is free
none-free : (id : ℕ) (entries : Entries) (ops : List Held) → IsDistinct nat_eq (keys_of entries)
    → is_used id entries ≡ (is_some (shared_at id (values_in_effect entries)) || waits_for id ops) → entry_at id entries ≡ None → count_by (is_held_shared id) ops ≡ 0
none-free id entries ops ids used free =
    let waits : waits_for id ops ≡ false = sym (subst (λ o. IsInUse o (waits_for id ops)) free (in-use id entries (waits_for id ops) ids used)) in
    omega (arith, ltb-false 0 (count_by (is_held_shared id) ops) waits)

-- what is held for other ids stands as it did
module _ (id : ℕ) (t : TemplatesView) (shared shared' : Entries)
    (same : (q : ℕ) (value : Action) → nat_eq id q ≡ false → entry_at q shared ≡ Some (created value true) → entry_at q shared' ≡ Some (created value true)) where
  held-at : (op : Held) → is_held_shared id op ≡ false → IsHeldIn t shared op → IsHeldIn t shared' op
  held-at (held.RuleCreated rule k) other is = is
  held-at (held.RuleDestroyed q) other is = tt
  held-at (held.SharedCreated q value) other is = same q value other is
  held-at (held.SharedUpdated q value) other is = tt
  held-at (held.SharedDestroyed q) other is = tt

  pub each-shared : (ops : List Held) → count_by (is_held_shared id) ops ≡ 0 → All (IsHeldIn t shared) ops → All (IsHeldIn t shared') ops
  each-shared [] none all = All-nil (IsHeldIn t shared')
  each-shared (op ∷ ops) none all =
      let parts = none-first (is_held_shared id) op ops none in
      All-cons (IsHeldIn t shared') op ops (held-at op parts.0 (All-head (IsHeldIn t shared) op ops all)) (each-shared ops parts.1 (All-tail (IsHeldIn t shared) op ops all))

-- ids that differ, the other way round
turned : (a b : ℕ) → nat_eq a b ≡ false → nat_eq b a ≡ false
turned a b other = by (nat_eq b a) refl where
  by : (c : Bool) → nat_eq b a ≡ c → nat_eq b a ≡ false
  by true same = absurd (true≢false (sym (eq-eqb a b (sym (eqb-true b a same))) ∙ other))
  by false is = is

-- an action takes effect at a free id
pub shared-kept : (ids id : ℕ) (value : Action) (t : TemplatesView) (shared : Entries) (ops : List Held)
    → IsDistinct nat_eq (keys_of shared) → IsDistinct nat_eq (keys_of (added id value false shared)) → entry_at id shared ≡ None
    → AreKeptFor ids t shared ops → AreKeptFor ids t (added id value false shared) ops
shared-kept ids id value t shared ops distinct distinct' free kept = record {
  tables = kept.tables;
  each = each-shared id t shared (added id value false shared) (λ q v other is. at q ∙ ap (λ b. cond b (Some (created value false)) (entry_at q shared)) (turned id q other) ∙ is)
      ops (none-free id shared ops distinct (kept.used id) free) kept.each;
  used = λ q. used-is q (added id value false shared) (waits_for q ops) _ distinct' (at q) (by q (nat_eq q id));
  number = omega (
    arith,
    kept.number,
    length-append shared ((id, created value false) ∷ []),
    ap length (values-append shared ((id, created value false) ∷ [])) ∙ length-append (values_in_effect shared) ((id, value) ∷ []),
  );
} where
  at : (q : ℕ) → entry_at q (added id value false shared) ≡ cond (nat_eq q id) (Some (created value false)) (entry_at q shared)
  at q = entry_at-pushed id (created value false) q shared free

  by : (q : ℕ) (b : Bool) → IsInUse (cond b (Some (created value false)) (entry_at q shared)) (waits_for q ops)
  by q true = refl
  by q false = in-use q shared (waits_for q ops) distinct (kept.used q)

-- an action gets another value
updated-value : Action → SharedAction → SharedAction
updated-value value entry = record entry { value = value }

values-kept : (id : ℕ) (value : Action) (entries : Entries) → length (values_in_effect (updated id value entries)) ≡ length (values_in_effect entries)
values-kept id value [] = refl
values-kept id value (e ∷ entries) = by (nat_eq id e.0) (values-kept id value entries) where
  keep : (h : Bool) (a b : ℕ × Action) (more more' : List (ℕ × Action)) → length more ≡ length more' → length (cond h more (a ∷ more)) ≡ length (cond h more' (b ∷ more'))
  keep true a b more more' same = same
  keep false a b more more' same = ap suc same

  by : (b : Bool) → length (values_in_effect (updated id value entries)) ≡ length (values_in_effect entries)
      → length (values_in_effect (cond b ((e.0, record e.1 { value = value }) ∷ entries) (e ∷ updated id value entries))) ≡ length (values_in_effect (e ∷ entries))
  by true more = keep e.1.held (e.0, value) (e.0, e.1.value) (values_in_effect entries) (values_in_effect entries) refl
  by false more = keep e.1.held (e.0, e.1.value) (e.0, e.1.value) (values_in_effect (updated id value entries)) (values_in_effect entries) more

pub updated-kept : (ids id : ℕ) (value : Action) (t : TemplatesView) (shared : Entries) (ops : List Held)
    → IsDistinct nat_eq (keys_of shared) → IsDistinct nat_eq (keys_of (updated id value shared)) → count_by (is_held_shared id) ops ≡ 0
    → AreKeptFor ids t shared ops → AreKeptFor ids t (updated id value shared) ops
updated-kept ids id value t shared ops distinct distinct' alone kept = record {
  tables = kept.tables;
  each = each-shared id t shared (updated id value shared)
      (λ q v other is. at q ∙ ap (λ b. cond b (option_map (λ (e : SharedAction). record e { value = value }) (entry_at q shared)) (entry_at q shared)) (turned id q other) ∙ is)
      ops alone kept.each;
  used = λ q. used-is q (updated id value shared) (waits_for q ops) _ distinct' (at q) (by q (nat_eq q id) (entry_at q shared) (in-use q shared (waits_for q ops) distinct (kept.used q)));
  number = omega (arith, kept.number, length-changed_at id (λ (e : SharedAction). record e { value = value }) shared, values-kept id value shared);
} where
  at : (q : ℕ) → entry_at q (updated id value shared) ≡ cond (nat_eq q id) (option_map (λ (e : SharedAction). record e { value = value }) (entry_at q shared)) (entry_at q shared)
  at q = entry_at-changed_at id (λ (e : SharedAction). record e { value = value }) q shared

  changed : (waits h : Bool) (e : SharedAction) → true ≡ (is_some (cond h None (Some e)) || waits) → true ≡ (is_some (cond h None (Some (record e { value = value }))) || waits)
  changed waits true e is = is
  changed waits false e is = refl

  by : (q : ℕ) (b : Bool) (o : Option SharedAction) → IsInUse o (waits_for q ops)
      → IsInUse (cond b (option_map (λ (e : SharedAction). record e { value = value }) o) o) (waits_for q ops)
  by q true None is = is
  by q true (Some e) is = changed (waits_for q ops) e.held e is
  by q false o is = is

-- an action in effect goes
values-gone : (id : ℕ) (entries : Entries) → IsSome (in_effect_at id entries) → length (values_in_effect (without id entries)) + 1 ≡ length (values_in_effect entries)
values-gone id [] there = absurd (true≢false (sym there))
values-gone id (e ∷ entries) there = by (nat_eq id e.0) there (values-gone id entries) where
  here : (h : Bool) → IsSome (cond h None (Some e.1)) → length (values_in_effect entries) + 1 ≡ length (cond h (values_in_effect entries) ((e.0, e.1.value) ∷ values_in_effect entries))
  here true none = absurd (true≢false (sym none))
  here false some = omega arith

  keep : (h : Bool) (more more' : List (ℕ × Action)) → length more + 1 ≡ length more' → length (cond h more ((e.0, e.1.value) ∷ more)) + 1 ≡ length (cond h more' ((e.0, e.1.value) ∷ more'))
  keep true more more' same = same
  keep false more more' same = omega (arith, same)

  by : (b : Bool) → IsSome (if_in_effect (cond b (Some e.1) (entry_at id entries)))
      → (IsSome (in_effect_at id entries) → length (values_in_effect (without id entries)) + 1 ≡ length (values_in_effect entries))
      → length (values_in_effect (cond b entries (e ∷ without id entries))) + 1 ≡ length (values_in_effect (e ∷ entries))
  by true found more = here e.1.held found
  by false found more = keep e.1.held (values_in_effect (without id entries)) (values_in_effect entries) (more found)

some-entry : (o : Option SharedAction) → IsSome (if_in_effect o) → (e : SharedAction) × (o ≡ Some e)
some-entry None there = absurd (true≢false (sym there))
some-entry (Some e) there = (e, refl)

pub gone-kept : (ids id : ℕ) (t : TemplatesView) (shared : Entries) (ops : List Held)
    → IsDistinct nat_eq (keys_of shared) → IsDistinct nat_eq (keys_of (without id shared)) → IsSome (in_effect_at id shared) → count_by (is_held_shared id) ops ≡ 0
    → AreKeptFor ids t shared ops → AreKeptFor ids t (without id shared) ops
gone-kept ids id t shared ops distinct distinct' there alone kept = record {
  tables = kept.tables;
  each = each-shared id t shared (without id shared) (λ q v other is. at q ∙ ap (λ b. cond b None (entry_at q shared)) other ∙ is) ops alone kept.each;
  used = λ q. used-is q (without id shared) (waits_for q ops) _ distinct' (at q) (by q (nat_eq id q) refl);
  number = let e = some-entry (entry_at id shared) there in omega (arith, kept.number, length-taken id shared e.0 e.1, values-gone id shared there);
} where
  at : (q : ℕ) → entry_at q (without id shared) ≡ cond (nat_eq id q) None (entry_at q shared)
  at q = entry_at-without id q shared distinct

  by : (q : ℕ) (b : Bool) → nat_eq id q ≡ b → IsInUse (cond b None (entry_at q shared)) (waits_for q ops)
  by q true same = sym (ap (nat_lt 0) (subst (λ k. count_by (is_held_shared k) ops ≡ 0) (eqb-true id q same) alone))
  by q false other = in-use q shared (waits_for q ops) distinct (kept.used q)

-- a held action takes effect
values-behind : (id : ℕ) (entries : Entries) (e : SharedAction) → entry_at id entries ≡ Some e → e.held ≡ true → values_in_effect (without id entries) ≡ values_in_effect entries
values-behind id [] e found held' = refl
values-behind id (x ∷ entries) e found held' = by (nat_eq id x.0) found (λ at. values-behind id entries e at held') where
  by : (b : Bool) → cond b (Some x.1) (entry_at id entries) ≡ Some e → (entry_at id entries ≡ Some e → values_in_effect (without id entries) ≡ values_in_effect entries)
      → values_in_effect (cond b entries (x ∷ without id entries)) ≡ values_in_effect (x ∷ entries)
  by true at more = sym (ap (λ h. cond h (values_in_effect entries) ((x.0, x.1.value) ∷ values_in_effect entries)) (ap (λ (y : SharedAction). y.held) (same_Some _ _ at) ∙ held'))
  by false at more = ap (λ vs. cond x.1.held vs ((x.0, x.1.value) ∷ vs)) (more at)

activated-is : (id : ℕ) (value : Action) (entries : Entries) → entry_at id entries ≡ Some (created value true)
    → activated id entries ≡ without id entries ++ (id, created value false) ∷ []
activated-is id value entries here = ap (λ o. behind_others id o entries) here

pub activated-kept : (ids id : ℕ) (value : Action) (t : TemplatesView) (shared : Entries) (ops : List Held)
    → IsDistinct nat_eq (keys_of shared) → IsDistinct nat_eq (keys_of (activated id shared)) → entry_at id shared ≡ Some (created value true) → count_by (is_held_shared id) ops ≡ 0
    → AreKeptFor ids t shared (held.SharedCreated id value ∷ ops) → AreKeptFor ids t (activated id shared) ops
activated-kept ids id value t shared ops distinct distinct' here alone kept = record {
  tables = tables;
  each = each-shared id t shared (activated id shared) (λ q v other is. at q ∙ ap (λ b. cond b (Some (created value false)) (entry_at q shared)) (turned id q other) ∙ is)
      ops alone (All-tail (IsHeldIn t shared) (held.SharedCreated id value) ops kept.each);
  used = λ q. used-is q (activated id shared) (waits_for q ops) _ distinct' (at q) (by q (nat_eq q id) refl);
  number = omega (arith, kept.number, length-activated id shared, count_by-first is_shared_creation (held.SharedCreated id value) ops, values);
} where
  at : (q : ℕ) → entry_at q (activated id shared) ≡ cond (nat_eq q id) (Some (created value false)) (entry_at q shared)
  at q = entry_at-activated id (created value true) q shared distinct here

  values : length (values_in_effect (activated id shared)) ≡ length (values_in_effect shared) + 1
  values = ap (λ es. length (values_in_effect es)) (activated-is id value shared here)
      ∙ ap length (values-append (without id shared) ((id, created value false) ∷ []))
      ∙ length-append (values_in_effect (without id shared)) ((id, value) ∷ [])
      ∙ ap (λ vs. length vs + 1) (values-behind id shared (created value true) here refl)

  fewer : (q : ℕ) → nat_eq q id ≡ false → count_by (is_held_shared q) (held.SharedCreated id value ∷ ops) ≡ count_by (is_held_shared q) ops
  fewer q other = omega (arith, count_by-first (is_held_shared q) (held.SharedCreated id value) ops, ap {B = ℕ} (λ b. cond b 1 0) other)

  tables : (q : ℕ) → HasReserved ids ops q (table_of q t)
  tables q = of (table_of q t) (kept.tables q) where
    none : count_by (is_held_in q) (held.SharedCreated id value ∷ ops) ≡ count_by (is_held_in q) ops
    none = omega (arith, count_by-first (is_held_in q) (held.SharedCreated id value) ops)

    of : (o : Option TableView) → HasReserved ids (held.SharedCreated id value ∷ ops) q o → HasReserved ids ops q o
    of None is = sym none ∙ is
    of (Some view) r = record { number = r.number ∙ none; given = r.given; above = r.above }

  by : (q : ℕ) (b : Bool) → nat_eq q id ≡ b → IsInUse (cond b (Some (created value false)) (entry_at q shared)) (waits_for q ops)
  by q true same = refl
  by q false other = subst (λ n. IsInUse (entry_at q shared) (nat_lt 0 n)) (fewer q other) (in-use q shared (waits_for q (held.SharedCreated id value ∷ ops)) distinct (kept.used q))

-- the creation of a shared action is held
pub held-kept : (ids id : ℕ) (value : Action) (t : TemplatesView) (shared : Entries) (ops : List Held)
    → IsDistinct nat_eq (keys_of shared) → IsDistinct nat_eq (keys_of (added id value true shared)) → entry_at id shared ≡ None
    → AreKeptFor ids t shared ops → AreKeptFor ids t (added id value true shared) (held.SharedCreated id value ∷ ops)
held-kept ids id value t shared ops distinct distinct' free kept = record {
  tables = tables;
  each = All-cons (IsHeldIn t (added id value true shared)) (held.SharedCreated id value) ops (at id ∙ ap (λ b. cond b (Some (created value true)) (entry_at id shared)) (eq-eqb id id refl))
      (each-shared id t shared (added id value true shared) (λ q v other is. at q ∙ ap (λ b. cond b (Some (created value true)) (entry_at q shared)) (turned id q other) ∙ is)
      ops (none-free id shared ops distinct (kept.used id) free) kept.each);
  used = λ q. used-is q (added id value true shared) (waits_for q (held.SharedCreated id value ∷ ops)) _ distinct' (at q) (by q (nat_eq q id) refl);
  number = omega (arith, kept.number, length-append shared ((id, created value true) ∷ []), ap length (values-held id value shared), count_by-first is_shared_creation (held.SharedCreated id value) ops);
} where
  at : (q : ℕ) → entry_at q (added id value true shared) ≡ cond (nat_eq q id) (Some (created value true)) (entry_at q shared)
  at q = entry_at-pushed id (created value true) q shared free

  more : (q : ℕ) → count_by (is_held_shared q) (held.SharedCreated id value ∷ ops) ≡ cond (nat_eq q id) 1 0 + count_by (is_held_shared q) ops
  more q = count_by-first (is_held_shared q) (held.SharedCreated id value) ops

  tables : (q : ℕ) → HasReserved ids (held.SharedCreated id value ∷ ops) q (table_of q t)
  tables q = of (table_of q t) (kept.tables q) where
    none : count_by (is_held_in q) (held.SharedCreated id value ∷ ops) ≡ count_by (is_held_in q) ops
    none = omega (arith, count_by-first (is_held_in q) (held.SharedCreated id value) ops)

    of : (o : Option TableView) → HasReserved ids ops q o → HasReserved ids (held.SharedCreated id value ∷ ops) q o
    of None is = none ∙ is
    of (Some view) r = record { number = r.number ∙ sym none; given = r.given; above = r.above }

  by : (q : ℕ) (b : Bool) → nat_eq q id ≡ b → IsInUse (cond b (Some (created value true)) (entry_at q shared)) (waits_for q (held.SharedCreated id value ∷ ops))
  by q true same = sym (lt-ltb 0 (count_by (is_held_shared q) (held.SharedCreated id value ∷ ops)) (omega (arith, more q, ap {B = ℕ} (λ b. cond b 1 0) same)))
  by q false other = subst (λ n. IsInUse (entry_at q shared) (nat_lt 0 n)) (sym (omega (arith, more q, ap {B = ℕ} (λ b. cond b 1 0) other))) (in-use q shared (waits_for q ops) distinct (kept.used q))
