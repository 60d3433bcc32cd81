-- The oldest operation of a queue, as it takes effect or fails.
use Rattle.std.proofs.Common.{◌≡◌, ℕ, ◌∷◌, [], ◌++◌, Bool, true, false, cond, nat_eq, drop, List, refl, sym, ap, ◌∙◌, subst, arith, true≢false}
use Rattle.std.specs.List.{All, IsDistinct, count_by}
use Rattle.std.specs.Map.{keys_of}
use Rattle.std.proofs.lemmas.Bool.{eq-eqb}
use Rattle.flow_rules.specs.declared.counter.Counter.{Counter}
use Rattle.flow_rules.specs.declared.counter.Count.{Count}
use Rattle.indirect_counters.specs.Refusals.{update_fault, destroy_fault}
use Rattle.indirect_counters.specs.Entries.{Entries}
use Rattle.template_tables.specs.TemplatesView.{TemplatesView}
use Rattle.port_state.specs.declared.held.Held.{Held}
use Rattle.port_state.specs.declared.held.Held.TheVariants as held
use Rattle.port_state.specs.Apart.{AreApart, IsFit, is_rule, is_held_rule}
use Rattle.port_state.specs.Changes.{change_of, changes_first, step_first}
use Rattle.port_state.specs.Counters.{carried, is_there, while_there}
use Rattle.port_state.specs.Kept.{AreKeptFor, IsHeldIn}
use Rattle.port_state.specs.KeptState.{KeptState, state_in}
use Rattle.port_state.specs.Queue.{FlowQueue}
use Rattle.port_state.specs.Ready.{IsReady}
use Rattle.port_state.specs.State.{State, all_held, flows_of, objects, queue_at, succeeds, taken, with_queue}
use Rattle.port_state.proofs.Alone.{no-rule}
use Rattle.port_state.proofs.FlowsBehind.{flows-taken}
use Rattle.port_state.proofs.Holding.{kept-same, kept-without}
use Rattle.port_state.proofs.ApartKept.{none-is}
use Rattle.port_state.proofs.Objects.{destroy-there, objects-update}
use Rattle.port_state.proofs.Succeeds.{update-succeeds}
use Rattle.port_state.proofs.Waiting.{all-at, all-with_queue, AreBehind, behind-with_queue, count_by-first}
use Rattle.std.proofs.lemmas.List.Elements.{All-cons, All-head, All-tail}

-- the queue behind its first operation, which succeeded or not
abbrev pub popped : ℕ → State → Bool → FlowQueue
popped q s ok = record { held = drop 1 (queue_at q s).held; results = (queue_at q s).results ++ ok ∷ [] }

-- what the first operation needs is there where it succeeds
pub ready-first : (k : KeptState) (op : Held) → IsDistinct nat_eq (keys_of k.shared) → IsHeldIn k.templates k.shared op → ((id : ℕ) → is_held_rule id op ≡ true → count_by (is_rule id) (state_in k).rules ≡ 0)
    → IsFit k.rxq op → succeeds (state_in k) op ≡ true → IsReady k op
ready-first k (held.RuleCreated rule table) ids here count fit ok = (no-rule rule.id (state_in k).rules (count rule.id (eq-eqb rule.id rule.id refl)), here)
ready-first k (held.RuleDestroyed id) ids here count fit ok = tt
ready-first k (held.SharedCreated id value) ids here count fit ok = here
ready-first k (held.SharedUpdated id value) ids here count fit ok =
    objects-update k ids k.rxq id value ∙ none-is (update_fault k.rxq (objects (state_in k)) id value) (update-succeeds (state_in k) k.rxq id value fit ∙ ok)
ready-first k (held.SharedDestroyed id) ids here count fit ok = destroy-there k ids id (none-is (destroy_fault (objects (state_in k)) id) ok)

-- queues don't matter for that
pub ready-with : (k : KeptState) (queues : List FlowQueue) (op : Held) → IsReady k op → IsReady (record k { queues = queues }) op
ready-with k queues (held.RuleCreated rule table) ready = ready
ready-with k queues (held.RuleDestroyed id) ready = ready
ready-with k queues (held.SharedCreated id value) ready = ready
ready-with k queues (held.SharedUpdated id value) ready = ready
ready-with k queues (held.SharedDestroyed id) ready = ready

-- no rule in effect has the id of a rule whose creation is the first operation
pub none-counted : (s : State) (op : Held) (others : List Held) → AreBehind op others (all_held s) → AreApart s → (id : ℕ) → is_held_rule id op ≡ true → count_by (is_rule id) s.rules ≡ 0
none-counted s op others behind apart id is = omega (arith, apart.rules id, behind (is_held_rule id), ap {B = ℕ} (λ b. cond b 1 0) is)

-- with another queue it takes effect as well
pub taken-with : (q : ℕ) (queue : FlowQueue) (s : State) (op : Held) → taken (with_queue q queue s) op ≡ with_queue q queue (taken s op)
taken-with q queue s (held.RuleCreated rule table) = refl
taken-with q queue s (held.RuleDestroyed id) = refl
taken-with q queue s (held.SharedCreated id value) = refl
taken-with q queue s (held.SharedUpdated id value) = refl
taken-with q queue s (held.SharedDestroyed id) = refl

pub step-taken : (q : ℕ) (s : State) (op : Held) (ops : List Held) → (queue_at q s).held ≡ op ∷ ops → succeeds s op ≡ true
    → taken (with_queue q (popped q s true) s) op ≡ step_first q s (queue_at q s).held
step-taken q s op ops is ok =
    taken-with q (popped q s true) s op
    ∙ sym (ap (λ (list : List Held). step_first q s list) is ∙ ap (λ b. with_queue q (popped q s b) (cond b (taken s op) s)) ok)

pub step-failed : (q : ℕ) (s : State) (op : Held) (ops : List Held) → (queue_at q s).held ≡ op ∷ ops → succeeds s op ≡ false
    → with_queue q (popped q s false) s ≡ step_first q s (queue_at q s).held
step-failed q s op ops is ok =
    sym (ap (λ (list : List Held). step_first q s list) is ∙ ap (λ b. with_queue q (popped q s b) (cond b (taken s op) s)) ok)

-- the change that is told, and what counters come to
pub first-changes : (s : State) (op : Held) (ops list : List Held) → list ≡ op ∷ ops → (ok : Bool) → succeeds s op ≡ ok → changes_first s list ≡ cond ok (change_of op ∷ []) []
first-changes s op ops list is ok same = ap (λ (l : List Held). changes_first s l) is ∙ ap (λ b. cond b (change_of op ∷ []) []) same

pub first-behind : (q : ℕ) (s : State) (ok : Bool) (op : Held) (ops : List Held) → (queue_at q s).held ≡ op ∷ ops → AreBehind op (all_held (with_queue q (popped q s ok) s)) (all_held s)
first-behind q s ok op ops is =
    behind-with_queue q (popped q s ok) s op (is ∙ ap (λ (list : List Held). op ∷ list) (sym (ap (λ (list : List Held). drop 1 list) is)))

-- the others are held as they were
pub kept-popped : (ids : ℕ) (t : TemplatesView) (shared : Entries) (q : ℕ) (s : State) (ok : Bool) (op : Held) (ops : List Held) → (queue_at q s).held ≡ op ∷ ops
    → AreKeptFor ids t shared (all_held s) → AreKeptFor ids t shared (op ∷ all_held (with_queue q (popped q s ok) s))
kept-popped ids t shared q s ok op ops is kept =
    kept-same ids t shared (all_held s) (op ∷ all_held (with_queue q (popped q s ok) s))
    (λ test. omega (arith, count_by-first test op (all_held (with_queue q (popped q s ok) s)), first-behind q s ok op ops is test))
    (λ P all.
    let here = subst (All P) is (all-at P q s all) in
    All-cons P op (all_held (with_queue q (popped q s ok) s)) (All-head P op ops here)
    (all-with_queue P q (popped q s ok) s all (subst (λ (list : List Held). All P (drop 1 list)) (sym is) (All-tail P op ops here))))
    kept

-- what fails was no creation
pub failed-kept : (ids : ℕ) (t : TemplatesView) (shared : Entries) (s : State) (op : Held) (others : List Held) → succeeds s op ≡ false → AreKeptFor ids t shared (op ∷ others) → AreKeptFor ids t shared others
failed-kept ids t shared s (held.RuleCreated rule table) others fails kept = absurd (true≢false fails)
failed-kept ids t shared s (held.RuleDestroyed id) others fails kept = kept-without (held.RuleDestroyed id) (λ test q. (refl, refl, refl)) ids t shared others kept
failed-kept ids t shared s (held.SharedCreated id value) others fails kept = absurd (true≢false fails)
failed-kept ids t shared s (held.SharedUpdated id value) others fails kept = kept-without (held.SharedUpdated id value) (λ test q. (refl, refl, refl)) ids t shared others kept
failed-kept ids t shared s (held.SharedDestroyed id) others fails kept = kept-without (held.SharedDestroyed id) (λ test q. (refl, refl, refl)) ids t shared others kept

-- counters behind the first operation
pub first-counts : (s : State) (op : Held) (ops list : List Held) → list ≡ op ∷ ops → succeeds s op ≡ true → (c : Counter) (n : Count)
    → carried c (flows_of s) (changes_first s list) n ≡ while_there (is_there c (flows_of (taken s op))) n
first-counts s op ops list is ok c n =
    ap (λ cs. carried c (flows_of s) cs n) (first-changes s op ops list is true ok)
    ∙ ap (λ f. while_there (is_there c f) n) (sym (flows-taken s op))

pub failed-counts : (s : State) (op : Held) (ops list : List Held) → list ≡ op ∷ ops → succeeds s op ≡ false → (c : Counter) (n : Count)
    → carried c (flows_of s) (changes_first s list) n ≡ n
failed-counts s op ops list is ok c n = ap (λ cs. carried c (flows_of s) cs n) (first-changes s op ops list is false ok)
