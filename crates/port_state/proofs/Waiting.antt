-- The operations that flow queues hold, as one comes to wait behind the others, and as the first of a queue takes effect.
use Rattle.std.proofs.Common.{◌≡◌, ℕ, zero, suc, nat_eq, nat_le, ◌+◌, ◌<◌, ◌≤◌, Bool, true, false, cond, List, [], ◌∷◌, ◌++◌, length, get_or, slice_set, flat_map, fold, drop, replicate, Option, None, Some, ⊎_elim, refl, sym, ap, ◌∙◌, subst, arith, zero-add}
use Rattle.std.specs.List.{All, count_by, sum_by}
use Rattle.std.proofs.lemmas.Bool.{cases_lt, leb-false}
use Rattle.std.proofs.lemmas.List.{length-set, get_or-set_same, get_or_past}
use Rattle.std.proofs.lemmas.List.Sums.{sum_by-append, sum_by-cons, sum_by-set}
use Rattle.std.proofs.lemmas.List.Elements.{All-append, All-cons, All-nil, All-head, All-tail, All-push, All-set, All-get_or}
use Rattle.flow_rules.specs.declared.fault.Fault.{Fault}
use Rattle.flow_rules.specs.declared.fault.Cause.TheVariants as causes
use Rattle.flow_rules.specs.Faults.{fault_if, first}
use Rattle.port_state.specs.declared.held.Held.{Held}
use Rattle.port_state.specs.declared.held.Held.TheVariants as held
use Rattle.port_state.specs.Queue.{FlowQueue, empty_queue, in_flight}
use Rattle.port_state.specs.State.{State, all_held, queue_at, queue_fault, full_fault, with_queue, succeeds, taken, stepped, pushed, waiting, admitted, first_of}

-- of two lists that are joined, what holds of all holds in each
pub all-front : {A : Type 0} (P : A → Type 0) (xs ys : List A) → All P (xs ++ ys) → All P xs
all-front P [] ys all = All-nil P
all-front P (x ∷ xs) ys all = All-cons P x xs (All-head P x (xs ++ ys) all) (all-front P xs ys (All-tail P x (xs ++ ys) all))

pub all-behind : {A : Type 0} (P : A → Type 0) (xs ys : List A) → All P (xs ++ ys) → All P ys
all-behind P [] ys all = all
all-behind P (x ∷ xs) ys all = all-behind P xs ys (All-tail P x (xs ++ ys) all)

-- counted with one more
pub count_by-first : {A : Type 0} (test : A → Bool) (x : A) (xs : List A) → count_by test (x ∷ xs) ≡ cond (test x) 1 0 + count_by test xs
count_by-first test x xs = sum_by-cons (λ y. cond (test y) 1 0) x xs

pub count_by-last : {A : Type 0} (test : A → Bool) (xs : List A) (x : A) → count_by test (xs ++ x ∷ []) ≡ count_by test xs + cond (test x) 1 0
count_by-last test xs x = sum_by-append (λ y. cond (test y) 1 0) xs (x ∷ []) ∙ ap (λ n. count_by test xs + n) (zero-add (cond (test x) 1 0))

-- the operations of a queue
abbrev pub ops_of : FlowQueue → List Held
ops_of queue = queue.held

-- those of all of these queues
abbrev pub ops_in : List FlowQueue → List Held
ops_in queues = flat_map ops_of queues

count-in : (test : Held → Bool) (queues : List FlowQueue) → count_by test (ops_in queues) ≡ sum_by (λ (queue : FlowQueue). count_by test queue.held) queues
count-in test [] = refl
count-in test (queue ∷ queues) =
    sum_by-append (λ y. cond (test y) 1 0) queue.held (ops_in queues)
    ∙ ap (λ n. count_by test queue.held + n) (count-in test queues)
    ∙ sym (sum_by-cons (λ (x : FlowQueue). count_by test x.held) queue queues)

all-in : (P : Held → Type 0) (queues : List FlowQueue) → All P (ops_in queues) → All (λ (queue : FlowQueue). All P queue.held) queues
all-in P [] all = All-nil (λ (queue : FlowQueue). All P queue.held)
all-in P (queue ∷ queues) all =
    All-cons (λ (x : FlowQueue). All P x.held) queue queues (all-front P queue.held (ops_in queues) all) (all-in P queues (all-behind P queue.held (ops_in queues) all))

all-of : (P : Held → Type 0) (queues : List FlowQueue) → All (λ (queue : FlowQueue). All P queue.held) queues → All P (ops_in queues)
all-of P [] all = All-nil P
all-of P (queue ∷ queues) all =
    All-append P queue.held (ops_in queues) (All-head (λ (x : FlowQueue). All P x.held) queue queues all) (all-of P queues (All-tail (λ (x : FlowQueue). All P x.held) queue queues all))

-- with another queue in the place of one
count-set : (test : Held → Bool) (queues : List FlowQueue) (q : ℕ) (queue : FlowQueue) → q < length queues
    → count_by test (ops_in (slice_set queues q queue)) + count_by test (get_or queues q empty_queue).held ≡ count_by test (ops_in queues) + count_by test queue.held
count-set test queues q queue there =
    ap (λ n. n + count_by test (get_or queues q empty_queue).held) (count-in test (slice_set queues q queue))
    ∙ sum_by-set (λ (x : FlowQueue). count_by test x.held) queues q queue empty_queue there
    ∙ ap (λ n. n + count_by test queue.held) (sym (count-in test queues))

all-set : (P : Held → Type 0) (queues : List FlowQueue) (q : ℕ) (queue : FlowQueue) → All P (ops_in queues) → All P queue.held → All P (ops_in (slice_set queues q queue))
all-set P queues q queue all here = all-of P (slice_set queues q queue) (All-set (λ (x : FlowQueue). All P x.held) queues q queue here (all-in P queues all))

pub count-with_queue : (test : Held → Bool) (q : ℕ) (queue : FlowQueue) (s : State) → q < length s.queues
    → count_by test (all_held (with_queue q queue s)) + count_by test (queue_at q s).held ≡ count_by test (all_held s) + count_by test queue.held
count-with_queue test q queue s there = count-set test s.queues q queue there

pub all-with_queue : (P : Held → Type 0) (q : ℕ) (queue : FlowQueue) (s : State) → All P (all_held s) → All P queue.held → All P (all_held (with_queue q queue s))
all-with_queue P q queue s all here = all-set P s.queues q queue all here

pub all-at : (P : Held → Type 0) (q : ℕ) (s : State) → All P (all_held s) → All P (queue_at q s).held
all-at P q s all = ⊎_elim
    (λ (there : q < length s.queues). All-get_or (λ (x : FlowQueue). All P x.held) s.queues q empty_queue there (all-in P s.queues all))
    (λ (past : length s.queues ≤ q). subst (λ (x : FlowQueue). All P x.held) (sym (get_or_past s.queues q empty_queue past)) (All-nil P))
    (cases_lt q (length s.queues))

pub queue_at-with : (q : ℕ) (queue : FlowQueue) (s : State) → q < length s.queues → queue_at q (with_queue q queue s) ≡ queue
queue_at-with q queue s there = get_or-set_same s.queues q queue empty_queue there

pub many-with : (q : ℕ) (queue : FlowQueue) (s : State) → length (with_queue q queue s).queues ≡ length s.queues
many-with q queue s = length-set s.queues q queue

-- a queue that holds something is there, and so is one that is named without a fault
nothing-held : (op : Held) (ops : List Held) → [] ≡ op ∷ ops → ⊥
nothing-held op ops is = cc

pub there-held : (q : ℕ) (s : State) (op : Held) (ops : List Held) → (queue_at q s).held ≡ op ∷ ops → q < length s.queues
there-held q s op ops is = ⊎_elim
    (λ (there : q < length s.queues). there)
    (λ (past : length s.queues ≤ q). absurd (nothing-held op ops (sym (ap ops_of (get_or_past s.queues q empty_queue past)) ∙ is)))
    (cases_lt q (length s.queues))

pub there-queue : (s : State) (q : ℕ) → queue_fault s q ≡ None → q < length s.queues
there-queue s q none = by (nat_le (length s.queues) q) refl none where
  by : (b : Bool) → nat_le (length s.queues) q ≡ b → first (fault_if b causes.NoQueue 0) ≡ None → q < length s.queues
  by true is none = cc
  by false is none = leb-false (length s.queues) q is

-- the first of two faults is none where neither is one
pub first_of-none : (a b : Option Fault) → first_of a b ≡ None → (a ≡ None) × (b ≡ None)
first_of-none None b e = (refl, e)
first_of-none (Some fault) b e = cc

pub there-full : (s : State) (q : ℕ) → full_fault s q ≡ None → q < length s.queues
there-full s q none = there-queue s q (first_of-none (queue_fault s q) (first (fault_if (nat_eq (in_flight (queue_at q s)) s.queue_size) causes.QueueFull 0)) none).0

-- an operation leaves all but rules and shared actions
pub others-taken : (s : State) (op : Held) → taken s op ≡ record s { rules = (taken s op).rules; shared = (taken s op).shared }
others-taken s (held.RuleCreated rule table) = refl
others-taken s (held.RuleDestroyed id) = refl
others-taken s (held.SharedCreated id value) = refl
others-taken s (held.SharedUpdated id value) = refl
others-taken s (held.SharedDestroyed id) = refl

-- what an operation comes to: it takes effect, or fails and changes nothing
abbrev pub tried : State → Held → State
tried s op = cond (succeeds s op) (taken s op) s

pub others-tried : (s : State) (op : Held) → tried s op ≡ record s { rules = (tried s op).rules; shared = (tried s op).shared }
others-tried s op = by (succeeds s op) where
  by : (b : Bool) → cond b (taken s op) s ≡ record s { rules = (cond b (taken s op) s).rules; shared = (cond b (taken s op) s).shared }
  by true = others-taken s op
  by false = refl

queues-tried : (s : State) (op : Held) → (tried s op).queues ≡ s.queues
queues-tried s op = ap (λ (t : State). t.queues) (others-tried s op)

-- a queue behind its first operation
abbrev pub queue_behind : ℕ → State → Held → FlowQueue
queue_behind q s op = record { held = drop 1 (queue_at q s).held; results = (queue_at q s).results ++ succeeds s op ∷ [] }

held-stepped : (q : ℕ) (s : State) (op : Held) → all_held (stepped q s op) ≡ ops_in (slice_set s.queues q (queue_behind q s op))
held-stepped q s op = ap (λ (queues : List FlowQueue). ops_in (slice_set queues q (queue_behind q s op))) (queues-tried s op)

-- the others and the first are counted as all were
abbrev pub AreBehind : Held → List Held → List Held → Type 0
AreBehind op others all = (test : Held → Bool) → count_by test others + cond (test op) 1 0 ≡ count_by test all

pub behind-with_queue : (q : ℕ) (queue : FlowQueue) (s : State) (op : Held) → (queue_at q s).held ≡ op ∷ queue.held → AreBehind op (all_held (with_queue q queue s)) (all_held s)
behind-with_queue q queue s op is test =
    omega (arith, count-with_queue test q queue s (there-held q s op queue.held is), ap (λ (ops : List Held). count_by test ops) is, count_by-first test op queue.held)

pub behind-stepped : (q : ℕ) (s : State) (op : Held) (ops : List Held) → (queue_at q s).held ≡ op ∷ ops → AreBehind op (all_held (stepped q s op)) (all_held s)
behind-stepped q s op ops is test =
    omega (
      arith,
      ap (λ (all : List Held). count_by test all) (held-stepped q s op),
      count-set test s.queues q (queue_behind q s op) (there-held q s op ops is),
      ap (λ (list : List Held). count_by test list) is,
      ap (λ (list : List Held). count_by test (drop 1 list)) is,
      count_by-first test op ops,
    )

pub all-stepped : (P : Held → Type 0) (q : ℕ) (s : State) (op : Held) (ops : List Held) → (queue_at q s).held ≡ op ∷ ops → All P (all_held s)
    → P op × All P (all_held (stepped q s op))
all-stepped P q s op ops is all =
    let here = subst (All P) is (all-at P q s all) in (
      All-head P op ops here,
      subst (All P) (sym (held-stepped q s op))
          (all-set P s.queues q (queue_behind q s op) all (subst (λ (list : List Held). All P (drop 1 list)) (sym is) (All-tail P op ops here))),
    )

-- the queue holds the operations behind the first
pub rest-stepped : (q : ℕ) (s : State) (op : Held) (ops : List Held) → (queue_at q s).held ≡ op ∷ ops → (queue_at q (stepped q s op)).held ≡ ops
rest-stepped q s op ops is =
    ap (λ (queues : List FlowQueue). (get_or (slice_set queues q (queue_behind q s op)) q empty_queue).held) (queues-tried s op)
    ∙ ap ops_of (get_or-set_same s.queues q (queue_behind q s op) empty_queue (there-held q s op ops is))
    ∙ ap (λ (list : List Held). drop 1 list) is

pub many-stepped : (q : ℕ) (s : State) (op : Held) → length (stepped q s op).queues ≡ length s.queues
many-stepped q s op = length-set (tried s op).queues q (queue_behind q s op) ∙ ap (λ (queues : List FlowQueue). length queues) (queues-tried s op)

-- what each step keeps, a push keeps
steps-keep : (P : State → Type 0) (q : ℕ) → ((s : State) (op : Held) (ops : List Held) → (queue_at q s).held ≡ op ∷ ops → P s → P (stepped q s op))
    → (ops : List Held) (s : State) → (queue_at q s).held ≡ ops → P s → P (fold (stepped q) s ops)
steps-keep P q each [] s is p = p
steps-keep P q each (op ∷ ops) s is p = steps-keep P q each ops (stepped q s op) (rest-stepped q s op ops is) (each s op ops is p)

pub pushed-keeps : (P : State → Type 0) (q : ℕ) → ((s : State) (op : Held) (ops : List Held) → (queue_at q s).held ≡ op ∷ ops → P s → P (stepped q s op))
    → (s : State) → P s → P (pushed q s)
pushed-keeps P q each s p = steps-keep P q each (queue_at q s).held s refl p

-- an operation that comes to wait
pub others-admitted : (op : Held) (s : State) → admitted op s ≡ record s { ids = (admitted op s).ids }
others-admitted (held.RuleCreated rule table) s = refl
others-admitted (held.RuleDestroyed id) s = refl
others-admitted (held.SharedCreated id value) s = refl
others-admitted (held.SharedUpdated id value) s = refl
others-admitted (held.SharedDestroyed id) s = refl

pub queues-admitted : (op : Held) (s : State) → (admitted op s).queues ≡ s.queues
queues-admitted op s = ap (λ (t : State). t.queues) (others-admitted op s)

abbrev pub queue_with : ℕ → State → Held → FlowQueue
queue_with q s op = record { held = (queue_at q s).held ++ op ∷ []; results = (queue_at q s).results }

held-waiting : (q : ℕ) (op : Held) (s : State) → all_held (waiting q op s) ≡ ops_in (slice_set s.queues q (queue_with q s op))
held-waiting q op s = ap (λ (queues : List FlowQueue). ops_in (slice_set queues q (queue_with q s op))) (queues-admitted op s)

pub count-waiting : (test : Held → Bool) (q : ℕ) (op : Held) (s : State) → q < length s.queues → count_by test (all_held (waiting q op s)) ≡ count_by test (all_held s) + cond (test op) 1 0
count-waiting test q op s there =
    omega (arith, ap (λ (all : List Held). count_by test all) (held-waiting q op s), count-set test s.queues q (queue_with q s op) there, count_by-last test (queue_at q s).held op)

pub all-waiting : (P : Held → Type 0) (q : ℕ) (op : Held) (s : State) → All P (all_held s) → P op → All P (all_held (waiting q op s))
all-waiting P q op s all here =
    subst (All P) (sym (held-waiting q op s)) (all-set P s.queues q (queue_with q s op) all (All-push P (queue_at q s).held op (all-at P q s all) here))

pub queue_at-waiting : (q : ℕ) (op : Held) (s : State) → q < length s.queues → queue_at q (waiting q op s) ≡ queue_with q s op
queue_at-waiting q op s there =
    ap (λ (queues : List FlowQueue). get_or (slice_set queues q (queue_with q s op)) q empty_queue) (queues-admitted op s)
    ∙ get_or-set_same s.queues q (queue_with q s op) empty_queue there

-- queues that are empty hold nothing
pub none-held : (n : ℕ) → ops_in (replicate n empty_queue) ≡ []
none-held zero = refl
none-held (suc n) = none-held n
