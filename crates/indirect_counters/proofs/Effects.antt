-- What the calls do, read at each id, and what rules see of it.
use Rattle.std.proofs.Common.{◌≡◌, ◌∙◌, ℕ, Bool, true, false, cond, nat_eq, List, [], ◌∷◌, ◌++◌, Option, None, Some, is_some, IsSome, if◌then◌else◌, refl, sym, ap, subst, eq-eqb, true≢false}
use Rattle.std.specs.List.{IsDistinct}
use Rattle.std.specs.Option.{option_map}
use Rattle.std.specs.Map.{keys_of, set_value}
use Rattle.std.proofs.lemmas.Bool.{eqb-true}
use Rattle.std.proofs.lemmas.Cmp.{nat_eq_equiv}
use Rattle.std.proofs.lemmas.Map.{lookup-none, lookup-remove_entry}
use Rattle.std.proofs.lemmas.Map.Entries.{none_past_head}
use Rattle.std.proofs.lemmas.Map.Keys.{IsDistinct-tail}
use Rattle.std.proofs.lemmas.List.Elements.{All-cons, All-nil, All-head, All-tail}
use Rattle.flow_actions.specs.declared.action.Action.{Action}
use Rattle.flow_actions.specs.Kinds.{kind_of}
use Rattle.flow_rules.specs.Shared.{shared_at, with_shared, without_shared, IsSharedOn, AreSharedOn}
use Rattle.indirect_counters.specs.declared.shared_action.SharedAction.{SharedAction}
use Rattle.indirect_counters.specs.Counts.{no_count}
use Rattle.indirect_counters.specs.Entries.{Entries, entry_at, if_in_effect, in_effect_at, value_at, kind_at, values_in_effect, created}
use Rattle.indirect_counters.specs.Effects.{added, without, changed_at, behind_others, activated, updated}
use Rattle.indirect_counters.specs.Refusals.{is_of_other_kind, update_fault}
use Rattle.indirect_counters.specs.Sound.{AreOn}
use Rattle.indirect_counters.proofs.Creating.{update-clear, kind-kept}

-- ---- at each id

self : (id : ℕ) → nat_eq id id ≡ true
self id = eq-eqb id id refl

pub entry_at-changed_at : (id : ℕ) (change : SharedAction → SharedAction) (q : ℕ) (entries : Entries)
    → entry_at q (changed_at id change entries) ≡ (if nat_eq q id then option_map change (entry_at q entries) else entry_at q entries)
entry_at-changed_at id change q [] = by (nat_eq q id) where
  by : (b : Bool) → None ≡ (if b then option_map change None else None)
  by true = refl
  by false = refl
entry_at-changed_at id change q (e ∷ entries) = by (nat_eq id e.0) refl (entry_at-changed_at id change q entries) where
  -- the change is here
  here : (a : Bool) → cond a (Some (change e.1)) (entry_at q entries) ≡ (if a then option_map change (cond a (Some e.1) (entry_at q entries)) else cond a (Some e.1) (entry_at q entries))
  here true = refl
  here false = refl

  -- or at one of those behind
  there : (a b : Bool) → nat_eq q e.0 ≡ a → nat_eq q id ≡ b → nat_eq id e.0 ≡ false → entry_at q (changed_at id change entries) ≡ (if b then option_map change (entry_at q entries) else entry_at q entries)
      → cond a (Some e.1) (entry_at q (changed_at id change entries)) ≡ (if b then option_map change (cond a (Some e.1) (entry_at q entries)) else cond a (Some e.1) (entry_at q entries))
  there true true at same other behind =
      let both : id ≡ e.0 = sym (eqb-true q id same) ∙ eqb-true q e.0 at in
      absurd (true≢false (sym (eq-eqb id e.0 both) ∙ other))
  there true false at same other behind = refl
  there false true at same other behind = behind
  there false false at same other behind = behind

  by : (b : Bool) → nat_eq id e.0 ≡ b → entry_at q (changed_at id change entries) ≡ (if nat_eq q id then option_map change (entry_at q entries) else entry_at q entries)
      → entry_at q (cond b ((e.0, change e.1) ∷ entries) (e ∷ changed_at id change entries)) ≡ (if nat_eq q id then option_map change (entry_at q (e ∷ entries)) else entry_at q (e ∷ entries))
  by true same behind =
      subst (λ k. entry_at q ((e.0, change e.1) ∷ entries) ≡ (if nat_eq q k then option_map change (entry_at q (e ∷ entries)) else entry_at q (e ∷ entries)))
      (sym (eqb-true id e.0 same)) (here (nat_eq q e.0))
  by false other behind = there (nat_eq q e.0) (nat_eq q id) refl refl other behind

-- one more behind the others, with an id that is free
pub entry_at-pushed : (id : ℕ) (entry : SharedAction) (q : ℕ) (entries : Entries) → entry_at id entries ≡ None
    → entry_at q (entries ++ (id, entry) ∷ []) ≡ (if nat_eq q id then Some entry else entry_at q entries)
entry_at-pushed id entry q [] free = refl
entry_at-pushed id entry q (e ∷ entries) free = by (nat_eq id e.0) refl free (entry_at-pushed id entry q entries) where
  at : (a b : Bool) → nat_eq q e.0 ≡ a → nat_eq q id ≡ b → nat_eq id e.0 ≡ false → entry_at q (entries ++ (id, entry) ∷ []) ≡ (if b then Some entry else entry_at q entries)
      → cond a (Some e.1) (entry_at q (entries ++ (id, entry) ∷ [])) ≡ (if b then Some entry else cond a (Some e.1) (entry_at q entries))
  at true true here same other behind =
      let both : id ≡ e.0 = sym (eqb-true q id same) ∙ eqb-true q e.0 here in
      absurd (true≢false (sym (eq-eqb id e.0 both) ∙ other))
  at true false here same other behind = refl
  at false true here same other behind = behind
  at false false here same other behind = behind

  by : (b : Bool) → nat_eq id e.0 ≡ b → cond b (Some e.1) (entry_at id entries) ≡ None
      → (entry_at id entries ≡ None → entry_at q (entries ++ (id, entry) ∷ []) ≡ (if nat_eq q id then Some entry else entry_at q entries))
      → entry_at q (e ∷ (entries ++ (id, entry) ∷ [])) ≡ (if nat_eq q id then Some entry else entry_at q (e ∷ entries))
  by true same here behind = cc
  by false other here behind = at (nat_eq q e.0) (nat_eq q id) refl refl other (behind here)

pub entry_at-without : (id q : ℕ) (entries : Entries) → IsDistinct nat_eq (keys_of entries) → entry_at q (without id entries) ≡ (if nat_eq id q then None else entry_at q entries)
entry_at-without id q entries ids =
    lookup-remove_entry nat_eq_equiv (nat_eq id) (λ x y same. ap (λ k. nat_eq k y) (eqb-true id x same)) q entries ids

pub entry_at-activated : (id : ℕ) (entry : SharedAction) (q : ℕ) (entries : Entries) → IsDistinct nat_eq (keys_of entries) → entry_at id entries ≡ Some entry
    → entry_at q (activated id entries) ≡ (if nat_eq q id then Some (record entry { held = false; count = no_count }) else entry_at q entries)
entry_at-activated id entry q entries ids found =
    let now = record entry { held = false; count = no_count } in
    let free = entry_at-without id id entries ids ∙ ap (λ b. if b then None else entry_at id entries) (self id) in
    ap (λ o. entry_at q (behind_others id o entries)) found
    ∙ entry_at-pushed id now q (without id entries) free
    ∙ by (nat_eq q id) refl (entry_at-without id q entries ids) where
      by : (b : Bool) → nat_eq q id ≡ b → entry_at q (without id entries) ≡ (if nat_eq id q then None else entry_at q entries)
          → (if b then Some (record entry { held = false; count = no_count }) else entry_at q (without id entries)) ≡ (if b then Some (record entry { held = false; count = no_count }) else entry_at q entries)
      by true same rest = refl
      by false other rest = rest ∙ ap (λ b. if b then None else entry_at q entries) (flipped (nat_eq id q) refl) where
        flipped : (b : Bool) → nat_eq id q ≡ b → nat_eq id q ≡ false
        flipped true e = absurd (true≢false (sym (eq-eqb q id (sym (eqb-true id q e))) ∙ other))
        flipped false e = e

-- ---- what rules see

-- one behind the others is seen behind the others
pub values-append : (entries more : Entries) → values_in_effect (entries ++ more) ≡ values_in_effect entries ++ values_in_effect more
values-append [] more = refl
values-append (e ∷ entries) more = by e.1.held (values-append entries more) where
  by : (b : Bool) → values_in_effect (entries ++ more) ≡ values_in_effect entries ++ values_in_effect more
      → cond b (values_in_effect (entries ++ more)) ((e.0, e.1.value) ∷ values_in_effect (entries ++ more)) ≡ cond b (values_in_effect entries) ((e.0, e.1.value) ∷ values_in_effect entries) ++ values_in_effect more
  by true behind = behind
  by false behind = ap (λ l. (e.0, e.1.value) ∷ l) behind

-- what is not in use is not seen
pub unseen : (id : ℕ) (entries : Entries) → entry_at id entries ≡ None → shared_at id (values_in_effect entries) ≡ None
unseen id [] free = refl
unseen id (e ∷ entries) free = by (nat_eq id e.0) refl free (unseen id entries) where
  seen : (held : Bool) → nat_eq id e.0 ≡ false → shared_at id (values_in_effect entries) ≡ None
      → shared_at id (cond held (values_in_effect entries) ((e.0, e.1.value) ∷ values_in_effect entries)) ≡ None
  seen true other behind = behind
  seen false other behind = ap (λ b. cond b (Some e.1.value) (shared_at id (values_in_effect entries))) other ∙ behind

  by : (b : Bool) → nat_eq id e.0 ≡ b → cond b (Some e.1) (entry_at id entries) ≡ None → (entry_at id entries ≡ None → shared_at id (values_in_effect entries) ≡ None)
      → shared_at id (values_in_effect (e ∷ entries)) ≡ None
  by true same here behind = cc
  by false other here behind = seen e.1.held other (behind here)

-- the value that is seen at an id is that of the action in effect
pub seen-at : (id : ℕ) (entries : Entries) → IsDistinct nat_eq (keys_of entries) → shared_at id (values_in_effect entries) ≡ value_at id entries
seen-at id [] ids = refl
seen-at id (e ∷ entries) ids = by (nat_eq id e.0) refl (seen-at id entries (IsDistinct-tail nat_eq e.0 (keys_of entries) ids)) where
  here : (held : Bool) → nat_eq id e.0 ≡ true → shared_at id (values_in_effect entries) ≡ value_at id entries
      → shared_at id (cond held (values_in_effect entries) ((e.0, e.1.value) ∷ values_in_effect entries)) ≡ option_map (λ (entry : SharedAction). entry.value) (cond held None (Some e.1))
  here true same behind =
      behind ∙ ap (λ o. option_map (λ (entry : SharedAction). entry.value) (if_in_effect o)) (lookup-none (nat_eq id) entries (none_past_head nat_eq_equiv id e entries ids same))
  here false same behind = ap (λ b. cond b (Some e.1.value) (shared_at id (values_in_effect entries))) same

  there : (held : Bool) → nat_eq id e.0 ≡ false → shared_at id (values_in_effect entries) ≡ value_at id entries
      → shared_at id (cond held (values_in_effect entries) ((e.0, e.1.value) ∷ values_in_effect entries)) ≡ value_at id entries
  there true other behind = behind
  there false other behind = ap (λ b. cond b (Some e.1.value) (shared_at id (values_in_effect entries))) other ∙ behind

  by : (b : Bool) → nat_eq id e.0 ≡ b → shared_at id (values_in_effect entries) ≡ value_at id entries
      → shared_at id (values_in_effect (e ∷ entries)) ≡ option_map (λ (entry : SharedAction). entry.value) (if_in_effect (cond b (Some e.1) (entry_at id entries)))
  by true same behind = here e.1.held same behind
  by false other behind = there e.1.held other behind

-- a change of users or of the count is not seen
pub values-changed_at : (id : ℕ) (change : SharedAction → SharedAction) → ((e : SharedAction) → (change e).value ≡ e.value) → ((e : SharedAction) → (change e).held ≡ e.held) → (entries : Entries)
    → values_in_effect (changed_at id change entries) ≡ values_in_effect entries
values-changed_at id change value held [] = refl
values-changed_at id change value held (e ∷ entries) = by (nat_eq id e.0) (values-changed_at id change value held entries) where
  by : (b : Bool) → values_in_effect (changed_at id change entries) ≡ values_in_effect entries
      → values_in_effect (cond b ((e.0, change e.1) ∷ entries) (e ∷ changed_at id change entries)) ≡ values_in_effect (e ∷ entries)
  by true behind =
      ap (λ h. cond h (values_in_effect entries) ((e.0, (change e.1).value) ∷ values_in_effect entries)) (held e.1)
      ∙ ap (λ v. cond e.1.held (values_in_effect entries) ((e.0, v) ∷ values_in_effect entries)) (value e.1)
  by false behind = ap (λ l. cond e.1.held l ((e.0, e.1.value) ∷ l)) behind

-- an action that is created is seen behind the others, and one that is held isn't seen
pub values-added : (id : ℕ) (value : Action) (entries : Entries) → entry_at id entries ≡ None → values_in_effect (added id value false entries) ≡ with_shared id value (values_in_effect entries)
values-added id value entries free =
    values-append entries ((id, created value false) ∷ [])
    ∙ ap (λ o. if is_some o then set_value (nat_eq id) (values_in_effect entries) value else values_in_effect entries ++ (id, value) ∷ []) (sym (unseen id entries free))

append-nothing : {A : Type 0} (xs : List A) → xs ++ [] ≡ xs
append-nothing [] = refl
append-nothing (x ∷ xs) = ap (λ l. x ∷ l) (append-nothing xs)

pub values-held : (id : ℕ) (value : Action) (entries : Entries) → values_in_effect (added id value true entries) ≡ values_in_effect entries
values-held id value entries = values-append entries ((id, created value true) ∷ []) ∙ append-nothing (values_in_effect entries)

-- the value that is seen there is replaced
pub values-updated : (id : ℕ) (value : Action) (entries : Entries) → IsSome (in_effect_at id entries)
    → (values_in_effect (updated id value entries) ≡ set_value (nat_eq id) (values_in_effect entries) value) × IsSome (shared_at id (values_in_effect entries))
values-updated id value [] there = cc
values-updated id value (e ∷ entries) there = by (nat_eq id e.0) refl there (values-updated id value entries) where
  here : (held : Bool) → nat_eq id e.0 ≡ true → is_some (if held then None else Some e.1) ≡ true
      → (cond held (values_in_effect entries) ((e.0, value) ∷ values_in_effect entries) ≡ set_value (nat_eq id) (cond held (values_in_effect entries) ((e.0, e.1.value) ∷ values_in_effect entries)) value)
      × IsSome (shared_at id (cond held (values_in_effect entries) ((e.0, e.1.value) ∷ values_in_effect entries)))
  here true same effect = cc
  here false same effect = (
    ap (λ b. cond b ((e.0, value) ∷ values_in_effect entries) ((e.0, e.1.value) ∷ set_value (nat_eq id) (values_in_effect entries) value)) (sym same),
    ap (λ b. is_some (cond b (Some e.1.value) (shared_at id (values_in_effect entries)))) same,
  )

  behind_it : (held : Bool) → nat_eq id e.0 ≡ false
      → (values_in_effect (updated id value entries) ≡ set_value (nat_eq id) (values_in_effect entries) value) × IsSome (shared_at id (values_in_effect entries))
      → (cond held (values_in_effect (updated id value entries)) ((e.0, e.1.value) ∷ values_in_effect (updated id value entries)) ≡ set_value (nat_eq id) (cond held (values_in_effect entries) ((e.0, e.1.value) ∷ values_in_effect entries)) value)
      × IsSome (shared_at id (cond held (values_in_effect entries) ((e.0, e.1.value) ∷ values_in_effect entries)))
  behind_it true other rest = rest
  behind_it false other rest = (
    ap (λ l. (e.0, e.1.value) ∷ l) rest.0 ∙ ap (λ b. cond b ((e.0, value) ∷ values_in_effect entries) ((e.0, e.1.value) ∷ set_value (nat_eq id) (values_in_effect entries) value)) (sym other),
    ap (λ b. is_some (cond b (Some e.1.value) (shared_at id (values_in_effect entries)))) other ∙ rest.1,
  )

  by : (b : Bool) → nat_eq id e.0 ≡ b → is_some (if_in_effect (cond b (Some e.1) (entry_at id entries))) ≡ true
      → (IsSome (in_effect_at id entries) → (values_in_effect (updated id value entries) ≡ set_value (nat_eq id) (values_in_effect entries) value) × IsSome (shared_at id (values_in_effect entries)))
      → (values_in_effect (cond b ((e.0, record e.1 { value = value }) ∷ entries) (e ∷ updated id value entries)) ≡ set_value (nat_eq id) (values_in_effect (e ∷ entries)) value)
      × IsSome (shared_at id (values_in_effect (e ∷ entries)))
  by true same effect rest = here e.1.held same effect
  by false other effect rest = behind_it e.1.held other (rest effect)

pub seen-updated : (id : ℕ) (value : Action) (entries : Entries) → IsSome (in_effect_at id entries) → values_in_effect (updated id value entries) ≡ with_shared id value (values_in_effect entries)
seen-updated id value entries there =
    let both = values-updated id value entries there in
    both.0 ∙ ap (λ b. if b then set_value (nat_eq id) (values_in_effect entries) value else values_in_effect entries ++ (id, value) ∷ []) (sym both.1)

-- the one that is taken out of effect isn't seen any more
pub values-without : (id : ℕ) (entries : Entries) → IsSome (in_effect_at id entries) → values_in_effect (without id entries) ≡ without_shared id (values_in_effect entries)
values-without id [] there = refl
values-without id (e ∷ entries) there = by (nat_eq id e.0) refl there (values-without id entries) where
  here : (held : Bool) → nat_eq id e.0 ≡ true → is_some (if held then None else Some e.1) ≡ true
      → values_in_effect entries ≡ without_shared id (cond held (values_in_effect entries) ((e.0, e.1.value) ∷ values_in_effect entries))
  here true same effect = cc
  here false same effect = ap (λ b. cond b (values_in_effect entries) ((e.0, e.1.value) ∷ without_shared id (values_in_effect entries))) (sym same)

  behind_it : (held : Bool) → nat_eq id e.0 ≡ false → values_in_effect (without id entries) ≡ without_shared id (values_in_effect entries)
      → cond held (values_in_effect (without id entries)) ((e.0, e.1.value) ∷ values_in_effect (without id entries)) ≡ without_shared id (cond held (values_in_effect entries) ((e.0, e.1.value) ∷ values_in_effect entries))
  behind_it true other rest = rest
  behind_it false other rest =
      ap (λ l. (e.0, e.1.value) ∷ l) rest ∙ ap (λ b. cond b (values_in_effect entries) ((e.0, e.1.value) ∷ without_shared id (values_in_effect entries))) (sym other)

  by : (b : Bool) → nat_eq id e.0 ≡ b → is_some (if_in_effect (cond b (Some e.1) (entry_at id entries))) ≡ true
      → (IsSome (in_effect_at id entries) → values_in_effect (without id entries) ≡ without_shared id (values_in_effect entries))
      → values_in_effect (cond b entries (e ∷ without id entries)) ≡ without_shared id (values_in_effect (e ∷ entries))
  by true same effect rest = here e.1.held same effect
  by false other effect rest = behind_it e.1.held other (rest effect)

-- a held action isn't seen, so nothing is seen of its going
values-moving : (id : ℕ) (entries : Entries) (entry : SharedAction) → entry_at id entries ≡ Some entry → entry.held ≡ true → values_in_effect (without id entries) ≡ values_in_effect entries
values-moving id [] entry found held = refl
values-moving id (e ∷ entries) entry found held = by (nat_eq id e.0) found (values-moving id entries entry) where
  by : (b : Bool) → cond b (Some e.1) (entry_at id entries) ≡ Some entry → (entry_at id entries ≡ Some entry → entry.held ≡ true → values_in_effect (without id entries) ≡ values_in_effect entries)
      → values_in_effect (cond b entries (e ∷ without id entries)) ≡ values_in_effect (e ∷ entries)
  by true here rest =
      let same : e.1 ≡ entry = cc in
      ap (λ h. cond h (values_in_effect entries) ((e.0, e.1.value) ∷ values_in_effect entries)) (sym (ap (λ (x : SharedAction). x.held) same ∙ held))
  by false here rest = ap (λ l. cond e.1.held l ((e.0, e.1.value) ∷ l)) (rest here held)

-- and it is seen behind the others once it takes effect
pub values-activated : (id : ℕ) (entries : Entries) (entry : SharedAction) → IsDistinct nat_eq (keys_of entries) → entry_at id entries ≡ Some entry → entry.held ≡ true
    → values_in_effect (activated id entries) ≡ with_shared id entry.value (values_in_effect entries)
values-activated id entries entry ids found held =
    let now = record entry { held = false; count = no_count } in
    let nothing : shared_at id (values_in_effect entries) ≡ None =
    seen-at id entries ids ∙ ap (λ o. option_map (λ (e : SharedAction). e.value) (if_in_effect o)) found ∙ ap (λ h. option_map (λ (e : SharedAction). e.value) (if h then None else Some entry)) held in
    ap (λ o. values_in_effect (behind_others id o entries)) found
    ∙ values-append (without id entries) ((id, now) ∷ [])
    ∙ ap (λ l. l ++ (id, entry.value) ∷ []) (values-moving id entries entry found held)
    ∙ ap (λ o. if is_some o then set_value (nat_eq id) (values_in_effect entries) entry.value else values_in_effect entries ++ (id, entry.value) ∷ []) (sym nothing)

-- what is seen are values of the port
pub AreSharedOn-seen : (rxq : ℕ) (entries : Entries) → AreOn rxq entries → AreSharedOn rxq (values_in_effect entries)
AreSharedOn-seen rxq [] all = All-nil (λ (entry : ℕ × Action). IsSharedOn rxq entry.1)
AreSharedOn-seen rxq (e ∷ entries) all =
    by e.1.held (All-head (λ (x : ℕ × SharedAction). IsSharedOn rxq x.1.value) e entries all)
    (AreSharedOn-seen rxq entries (All-tail (λ (x : ℕ × SharedAction). IsSharedOn rxq x.1.value) e entries all)) where
      by : (held : Bool) → IsSharedOn rxq e.1.value → AreSharedOn rxq (values_in_effect entries)
          → AreSharedOn rxq (cond held (values_in_effect entries) ((e.0, e.1.value) ∷ values_in_effect entries))
      by true on behind = behind
      by false on behind = All-cons (λ (entry : ℕ × Action). IsSharedOn rxq entry.1) (e.0, e.1.value) (values_in_effect entries) on behind

abbrev renewed : Action → SharedAction → SharedAction
renewed value entry = record entry { value = value }

-- a new value leaves all kinds as they are
pub kinds-updated : (rxq : ℕ) (entries : Entries) (id : ℕ) (value : Action) → update_fault rxq entries id value ≡ None → (q : ℕ) → kind_at q (updated id value entries) ≡ kind_at q entries
kinds-updated rxq entries id value none q =
    ap (λ o. option_map kind_of (option_map (λ (e : SharedAction). e.value) (if_in_effect o))) (entry_at-changed_at id (renewed value) q entries)
    ∙ by (nat_eq q id) refl where
      in_place : (held : Bool) (e : SharedAction) → is_of_other_kind value (if held then None else Some e) ≡ false
          → option_map kind_of (option_map (λ (x : SharedAction). x.value) (if held then None else Some (renewed value e))) ≡ option_map kind_of (option_map (λ (x : SharedAction). x.value) (if held then None else Some e))
      in_place true e same = refl
      in_place false e same = ap (λ k. Some k) (sym (kind-kept value e same))

      at : (o : Option SharedAction) → is_of_other_kind value (if_in_effect o) ≡ false
          → option_map kind_of (option_map (λ (x : SharedAction). x.value) (if_in_effect (option_map (renewed value) o))) ≡ option_map kind_of (option_map (λ (x : SharedAction). x.value) (if_in_effect o))
      at None same = refl
      at (Some e) same = in_place e.held e same

      by : (b : Bool) → nat_eq q id ≡ b
          → option_map kind_of (option_map (λ (x : SharedAction). x.value) (if_in_effect (if b then option_map (renewed value) (entry_at q entries) else entry_at q entries))) ≡ kind_at q entries
      by true here = at (entry_at q entries) (subst (λ k. is_of_other_kind value (in_effect_at k entries) ≡ false) (sym (eqb-true q id here)) (update-clear rxq entries id value none).same_kind)
      by false other = refl
