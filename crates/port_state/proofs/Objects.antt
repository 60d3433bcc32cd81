-- The shared actions that the code keeps are judged as those of the state are: the same ids are in use, and the same values in effect.
use Rattle.std.proofs.Common.{◌≡◌, ℕ, zero, suc, ◌+◌, ◌++◌, ◌||◌, nat_lt, zero-add, arith, Bool, true, false, cond, nat_eq, map, length, is_some, flat_map, List, [], ◌∷◌, Option, None, Some, IsSome, refl, sym, ap, ◌∙◌}
use Rattle.std.specs.List.{list_any, count_by, filter_map, cons_option, IsDistinct}
use Rattle.std.specs.Map.{keys_of}
use Rattle.std.specs.Option.{option_map, is_none}
use Rattle.std.proofs.lemmas.Bool.{lt-ltb}
use Rattle.std.proofs.lemmas.Bool.{eqb-true}
use Rattle.std.proofs.lemmas.List.{length-append, length-map}
use Rattle.std.proofs.lemmas.List.Folds.{list_any-append}
use Rattle.std.proofs.lemmas.List.Sums.{sum_by-cons}
use Rattle.flow_actions.specs.declared.action.Action.{Action}
use Rattle.flow_rules.specs.declared.fault.Cause.TheVariants as causes
use Rattle.flow_rules.specs.declared.fault.Fault.{Fault}
use Rattle.flow_rules.specs.declared.spec.Attr.{Attr}
use Rattle.flow_rules.specs.Faults.{fault_if, first}
use Rattle.flow_rules.specs.Shared.{Shared, shared_at}
use Rattle.rules_in_effect.specs.declared.in_effect.InEffect.{InEffect}
use Rattle.rules_in_effect.specs.Entries as rules
use Rattle.object_ids.specs.Ids.{id_for, is_used}
use Rattle.op_queues.specs.OpQueue.{Queue}
use Rattle.indirect_counters.specs.declared.shared_action.SharedAction.{SharedAction}
use Rattle.indirect_counters.specs.Counts.{no_count}
use Rattle.indirect_counters.specs.Entries.{Entries, entry_at, if_in_effect, in_effect_at, value_at}
use Rattle.indirect_counters.specs.Sound.{CanAdd}
use Rattle.indirect_counters.specs.Refusals.{create_fault, update_fault, has_users, destroy_fault}
use Rattle.indirect_counters.proofs.Effects.{seen-at}
use Rattle.port_state.specs.declared.held.Held.{Held}
use Rattle.port_state.specs.declared.held.Held.TheVariants as held
use Rattle.port_state.specs.Apart.{is_held_shared, is_shared_creation}
use Rattle.port_state.specs.Kept.{AreKept}
use Rattle.port_state.specs.KeptState.{KeptState, placed, state_in}
use Rattle.port_state.specs.Queue.{FlowQueue}
use Rattle.port_state.specs.State.{all_held, held_object, is_held_user, is_user, objects}
use Rattle.port_state.specs.StateInside.{queue_of}
use Rattle.object_ids.proofs.Alike.{id_for-alike}
use Rattle.indirect_counters.proofs.Alike.{create_faults-alike, update_faults-alike}

-- a shared action as it is judged, by the number of rules that use each id
abbrev pub object : (ℕ → ℕ) → ℕ × Action → ℕ × SharedAction
object users entry = (entry.0, record { value = entry.1; users = users entry.0; held = false; count = no_count })

abbrev pub object_of : ℕ → Action → SharedAction
object_of users value = record { value = value; users = users; held = false; count = no_count }

-- those in effect, and those whose creation is held
abbrev pub judged : (ℕ → ℕ) → Shared → List Held → Entries
judged users values ops = map (object users) values ++ filter_map held_object ops

-- ---- counts of tests

-- as many are given as pass the test
pub length-filter_map : {X Y : Type 0} (h : X → Option Y) (p : X → Bool) → ((x : X) → is_some (h x) ≡ p x) → (xs : List X) → length (filter_map h xs) ≡ count_by p xs
length-filter_map h p same [] = refl
length-filter_map {X} {Y} h p same (x ∷ xs) =
    long (h x) (length-filter_map h p same xs) ∙ ap (λ b. cond b 1 0 + count_by p xs) (same x) ∙ sym (sum_by-cons (λ a. cond (p a) 1 0) x xs) where
      long : (o : Option Y) → length (filter_map h xs) ≡ count_by p xs → length (cons_option o (filter_map h xs)) ≡ cond (is_some o) 1 0 + count_by p xs
      long None behind = behind ∙ sym (zero-add (count_by p xs))
      long (Some y) behind = omega (arith, behind)

-- one of a list passes a test where they are counted to more than 0
pub any-count : {A : Type 0} (p : A → Bool) (xs : List A) → nat_lt 0 (count_by p xs) ≡ list_any p xs
any-count p [] = refl
any-count p (x ∷ xs) = ap (nat_lt 0) (sum_by-cons (λ a. cond (p a) 1 0) x xs) ∙ by (p x) (any-count p xs) where
  by : (b : Bool) → nat_lt 0 (count_by p xs) ≡ list_any p xs → nat_lt 0 (cond b 1 0 + count_by p xs) ≡ (b || list_any p xs)
  by true behind = lt-ltb 0 (1 + count_by p xs) (omega arith)
  by false behind = ap (nat_lt 0) (zero-add (count_by p xs)) ∙ behind

-- the sum of two is more than 0 where one of them is
some-sum : (m n : ℕ) → nat_lt 0 (m + n) ≡ (nat_lt 0 m || nat_lt 0 n)
some-sum zero n = ap (nat_lt 0) (zero-add n)
some-sum (suc m) n = lt-ltb 0 (suc m + n) (omega arith) ∙ sym (ap (λ b. b || nat_lt 0 n) (lt-ltb 0 (suc m) (omega arith)))

-- an operation that one of the queues holds
pub any-queue : (p : Held → Bool) (queues : List (Queue Held))
    → list_any (λ (queue : Queue Held). list_any p queue.held) queues ≡ list_any p (flat_map (λ (queue : FlowQueue). queue.held) (map queue_of queues))
any-queue p [] = refl
any-queue p (q ∷ queues) =
    ap (λ b. list_any p q.held || b) (any-queue p queues) ∙ sym (list_any-append p q.held (flat_map (λ (queue : FlowQueue). queue.held) (map queue_of queues)))

-- ---- what is judged

-- at the id of a creation that is held nothing is in effect, and the id is in use
held-at : (q : ℕ) (ops : List Held) → (in_effect_at q (filter_map held_object ops) ≡ None) × (is_used q (filter_map held_object ops) ≡ list_any (is_held_shared q) ops)
held-at q [] = (refl, refl)
held-at q (held.RuleCreated rule table ∷ ops) = held-at q ops
held-at q (held.RuleDestroyed id ∷ ops) = held-at q ops
held-at q (held.SharedUpdated id value ∷ ops) = held-at q ops
held-at q (held.SharedDestroyed id ∷ ops) = held-at q ops
held-at q (held.SharedCreated id value ∷ ops) = by (nat_eq q id) (held-at q ops) where
  entry : Option SharedAction
  entry = Some (record { value = value; users = 0; held = true; count = no_count })

  by : (b : Bool) → (in_effect_at q (filter_map held_object ops) ≡ None) × (is_used q (filter_map held_object ops) ≡ list_any (is_held_shared q) ops)
      → (if_in_effect (cond b entry (entry_at q (filter_map held_object ops))) ≡ None)
      × (is_some (cond b entry (entry_at q (filter_map held_object ops))) ≡ (b || list_any (is_held_shared q) ops))
  by true behind = (refl, refl)
  by false behind = behind

-- what is judged at an id is what is in effect there
pub judged-at : (users : ℕ → ℕ) (values : Shared) (ops : List Held) (q : ℕ) → in_effect_at q (judged users values ops) ≡ option_map (object_of (users q)) (shared_at q values)
judged-at users [] ops q = (held-at q ops).0
judged-at users (v ∷ values) ops q = by (nat_eq q v.0) refl (judged-at users values ops q) where
  by : (b : Bool) → nat_eq q v.0 ≡ b → in_effect_at q (judged users values ops) ≡ option_map (object_of (users q)) (shared_at q values)
      → if_in_effect (cond b (Some (object_of (users v.0) v.1)) (entry_at q (judged users values ops))) ≡ option_map (object_of (users q)) (cond b (Some v.1) (shared_at q values))
  by true same behind = ap (λ k. Some (object_of (users k) v.1)) (sym (eqb-true q v.0 same))
  by false other behind = behind

value-object : (n : ℕ) (o : Option Action) → option_map (λ (e : SharedAction). e.value) (option_map (object_of n) o) ≡ o
value-object n None = refl
value-object n (Some x) = refl

pub judged-value : (users : ℕ → ℕ) (values : Shared) (ops : List Held) (q : ℕ) → value_at q (judged users values ops) ≡ shared_at q values
judged-value users values ops q = ap (option_map (λ (e : SharedAction). e.value)) (judged-at users values ops q) ∙ value-object (users q) (shared_at q values)

-- its id is in use
pub judged-used : (users : ℕ → ℕ) (values : Shared) (ops : List Held) (q : ℕ) → is_used q (judged users values ops) ≡ (is_some (shared_at q values) || list_any (is_held_shared q) ops)
judged-used users [] ops q = (held-at q ops).1
judged-used users (v ∷ values) ops q = by (nat_eq q v.0) (judged-used users values ops q) where
  by : (b : Bool) → is_used q (judged users values ops) ≡ (is_some (shared_at q values) || list_any (is_held_shared q) ops)
      → is_some (cond b (Some (object_of (users v.0) v.1)) (entry_at q (judged users values ops))) ≡ (is_some (cond b (Some v.1) (shared_at q values)) || list_any (is_held_shared q) ops)
  by true behind = refl
  by false behind = behind

is-creation : (op : Held) → is_some (held_object op) ≡ is_shared_creation op
is-creation (held.RuleCreated rule table) = refl
is-creation (held.RuleDestroyed id) = refl
is-creation (held.SharedCreated id value) = refl
is-creation (held.SharedUpdated id value) = refl
is-creation (held.SharedDestroyed id) = refl

judged-length : (users : ℕ → ℕ) (values : Shared) (ops : List Held) → length (judged users values ops) ≡ length values + count_by is_shared_creation ops
judged-length users values ops =
    length-append (map (object users) values) (filter_map held_object ops)
    ∙ ap (λ n. n + length (filter_map held_object ops)) (length-map values (object users))
    ∙ ap (λ n. length values + n) (length-filter_map held_object is_shared_creation is-creation ops)

-- ---- what is kept, and what is judged

-- the same ids are in use, as many of them
pub objects-used : (k : KeptState) → AreKept k → (q : ℕ) → is_used q k.shared ≡ is_used q (objects (state_in k))
objects-used k kept q =
    let s = state_in k in
    kept.used q
    ∙ ap (λ b. is_some (shared_at q s.shared) || b) (any-count (is_held_shared q) (all_held s))
    ∙ sym (judged-used (λ id. count_by (is_user id) s.rules + count_by (is_held_user id) (all_held s)) s.shared (all_held s) q)

pub objects-length : (k : KeptState) → AreKept k → length k.shared ≡ length (objects (state_in k))
objects-length k kept =
    let s = state_in k in
    kept.number ∙ sym (judged-length (λ id. count_by (is_user id) s.rules + count_by (is_held_user id) (all_held s)) s.shared (all_held s))

pub objects-id : (k : KeptState) → AreKept k → (id : Option ℕ) → id_for id k.shared ≡ id_for id (objects (state_in k))
objects-id k kept id = id_for-alike k.shared (objects (state_in k)) (objects-used k kept) id (objects-length k kept)

pub objects-create : (k : KeptState) → AreKept k → (rxq : ℕ) (id : Option ℕ) (attr : Attr) (value : Action)
    → create_fault rxq k.shared id attr value ≡ create_fault rxq (objects (state_in k)) id attr value
objects-create k kept rxq id attr value = ap first (create_faults-alike k.shared (objects (state_in k)) (objects-used k kept) (objects-length k kept) rxq id attr value)

-- there is a place for one more in both lists, or in none
CanAdd-alike : (xs ys : Entries) → ((q : ℕ) → is_used q xs ≡ is_used q ys) → length xs ≡ length ys → (id : ℕ) (value : Action) → CanAdd id value xs → CanAdd id value ys
CanAdd-alike xs ys used long id value can = record {
  shareable = can.shareable;
  free = none-of (entry_at id ys) (sym (used id) ∙ ap (λ (o : Option SharedAction). is_some o) can.free);
  place = omega (arith, can.place, long);
} where
  none-of : (o : Option SharedAction) → is_some o ≡ false → o ≡ None
  none-of None none = refl
  none-of (Some x) none = cc

pub CanAdd-objects : (k : KeptState) → AreKept k → (id : ℕ) (value : Action) → CanAdd id value k.shared → CanAdd id value (objects (state_in k))
CanAdd-objects k kept id value can = CanAdd-alike k.shared (objects (state_in k)) (objects-used k kept) (objects-length k kept) id value can

pub CanAdd-entries : (k : KeptState) → AreKept k → (id : ℕ) (value : Action) → CanAdd id value (objects (state_in k)) → CanAdd id value k.shared
CanAdd-entries k kept id value can =
    CanAdd-alike (objects (state_in k)) k.shared (λ q. sym (objects-used k kept q)) (sym (objects-length k kept)) id value can

-- the same values are in effect
pub objects-value : (k : KeptState) → IsDistinct nat_eq (keys_of k.shared) → (q : ℕ) → value_at q k.shared ≡ value_at q (objects (state_in k))
objects-value k ids q =
    let s = state_in k in
    sym (seen-at q k.shared ids)
    ∙ sym (judged-value (λ id. count_by (is_user id) s.rules + count_by (is_held_user id) (all_held s)) s.shared (all_held s) q)

pub objects-update : (k : KeptState) → IsDistinct nat_eq (keys_of k.shared) → (rxq id : ℕ) (value : Action)
    → update_fault rxq k.shared id value ≡ update_fault rxq (objects (state_in k)) id value
objects-update k ids rxq id value = ap first (update_faults-alike k.shared (objects (state_in k)) id (objects-value k ids id) rxq value)

-- a rule in effect uses an id, or one whose creation is held
any-placed : (id : ℕ) (xs : List InEffect) → list_any (is_user id) (map placed xs) ≡ list_any (rules.is_user id) xs
any-placed id [] = refl
any-placed id (x ∷ xs) = ap (λ b. rules.is_user id x || b) (any-placed id xs)

any-users : (k : KeptState) (id : ℕ) → nat_lt 0 (count_by (is_user id) (state_in k).rules + count_by (is_held_user id) (all_held (state_in k)))
    ≡ (list_any (rules.is_user id) k.rules || list_any (is_held_user id) (all_held (state_in k)))
any-users k id =
    let s = state_in k in
    some-sum (count_by (is_user id) s.rules) (count_by (is_held_user id) (all_held s))
    ∙ ap (λ b. b || nat_lt 0 (count_by (is_held_user id) (all_held s))) (any-count (is_user id) s.rules ∙ any-placed id k.rules)
    ∙ ap (λ b. list_any (rules.is_user id) k.rules || b) (any-count (is_held_user id) (all_held s))

-- none is there, or rules use it
abbrev pub end_fault : Option Action → Bool → Option Fault
end_fault o used = first (fault_if (is_none o) causes.NoObject 0 ++ fault_if used causes.Busy 0)

pub objects-destroy : (k : KeptState) → IsDistinct nat_eq (keys_of k.shared) → (id : ℕ)
    → end_fault (value_at id k.shared) (list_any (rules.is_user id) k.rules || list_any (is_held_user id) (all_held (state_in k))) ≡ destroy_fault (objects (state_in k)) id
objects-destroy k ids id =
    let s = state_in k in
    let users : ℕ → ℕ = λ q. count_by (is_user q) s.rules + count_by (is_held_user q) (all_held s) in
    ap (λ o. end_fault o (list_any (rules.is_user id) k.rules || list_any (is_held_user id) (all_held s))) (sym (seen-at id k.shared ids))
    ∙ ap (end_fault (shared_at id s.shared)) (sym (any-users k id))
    ∙ by (users id) (shared_at id s.shared)
    ∙ sym (ap faults (judged-at users s.shared (all_held s) id)) where
      faults : Option SharedAction → Option Fault
      faults o = first (fault_if (is_none o) causes.NoObject 0 ++ fault_if (has_users o) causes.Busy 0)

      by : (n : ℕ) (o : Option Action) → end_fault o (nat_lt 0 n) ≡ faults (option_map (object_of n) o)
      by n None = refl
      by n (Some x) = refl

-- what may go is there
pub destroy-there : (k : KeptState) → IsDistinct nat_eq (keys_of k.shared) → (id : ℕ) → destroy_fault (objects (state_in k)) id ≡ None → IsSome (in_effect_at id k.shared)
destroy-there k ids id none =
    by (in_effect_at id k.shared) (list_any (rules.is_user id) k.rules || list_any (is_held_user id) (all_held (state_in k))) (objects-destroy k ids id ∙ none) where
      by : (o : Option SharedAction) (used : Bool) → end_fault (option_map (λ (e : SharedAction). e.value) o) used ≡ None → IsSome o
      by None used e = cc
      by (Some x) used e = refl
