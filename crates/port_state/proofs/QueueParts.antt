-- One queue of a state among the others.
use Rattle.std.proofs.Common.{◌≡◌, ℕ, ◌<◌, ◌∷◌, nat_eq, Bool, true, false, true≢false, None, map, length, List, slice_set, get_or, refl, sym, ap, ◌∙◌, subst, arith}
use Rattle.std.specs.Prelude.{Result, Ok, Err, OnOk, IsErr}
use Rattle.std.specs.List.{All, count_by}
use Rattle.std.proofs.lemmas.Bool.{eq-eqb}
use Rattle.flow_rules.specs.declared.fault.Cause.TheVariants as causes
use Rattle.flow_rules.specs.Faults.{fault_if, first}
use Rattle.std.proofs.lemmas.List.{map-set, length-map}
use Rattle.std.proofs.lemmas.List.Elements.{All-set, All-head, All-tail, All-get_or}
use Rattle.op_queues.specs.OpQueue.{Queue}
use Rattle.op_queues.specs.OpQueue as op_queues
use Rattle.indirect_counters.specs.Entries.{Entries}
use Rattle.template_tables.specs.TemplatesView.{TemplatesView}
use Rattle.port_state.specs.declared.held.Held.{Held}
use Rattle.port_state.specs.declared.state.State.TheInside.{Inside}
use Rattle.port_state.specs.Kept.{AreKeptFor}
use Rattle.port_state.specs.KeptState.{state_in}
use Rattle.port_state.specs.Queue.{FlowQueue, empty_queue, in_flight}
use Rattle.port_state.specs.State.{State, admitted, all_held, full_fault, queue_at, queue_fault, waiting, with_queue}
use Rattle.port_state.specs.StateInside.{state_kept, IsQueue, queue_of}
use Rattle.port_state.proofs.Holding.{kept-same}
use Rattle.port_state.proofs.QueuesRead.{flight-is, queue-at}
use Rattle.port_state.proofs.Waiting.{all-at, all-waiting, all-with_queue, count-waiting, count-with_queue, first_of-none, others-admitted, queues-admitted, count_by-first}

-- one queue is written
pub queues-set : (items : List (Queue Held)) (q : ℕ) (queue : Queue Held) → map queue_of (slice_set items q queue) ≡ slice_set (map queue_of items) q (queue_of queue)
queues-set items q queue = map-set queue_of items q queue

pub sound-set : (size : ℕ) (items : List (Queue Held)) (q : ℕ) (queue : Queue Held) → IsQueue size queue → All (IsQueue size) items → All (IsQueue size) (slice_set items q queue)
sound-set size items q queue here all = All-set (IsQueue size) items q queue here all

-- the queue that stands there
pub here-is : (items : List (Queue Held)) (q : ℕ) (d : Queue Held) → q < length items → d ≡ get_or items q d → get_or (map queue_of items) q empty_queue ≡ queue_of d
here-is items q d below is = queue-at items q d below ∙ ap queue_of (sym is)

pub here-sound : (size : ℕ) (items : List (Queue Held)) (q : ℕ) (d : Queue Held) → q < length items → d ≡ get_or items q d → All (IsQueue size) items → IsQueue size d
here-sound size items q d below is all = subst (IsQueue size) (sym is) (All-get_or (IsQueue size) items q d below all)

pub many-kept : (items : List (Queue Held)) (q : ℕ) → q < length (map queue_of items) → q < length items
many-kept items q below = subst (λ n. q < n) (length-map items queue_of) below

-- a state with another queue
pub state-set : (s : Inside) (q : ℕ) (new : Queue Held) (queue : FlowQueue) → queue_of new ≡ queue
    → record (state_in (state_kept s)) { queues = map queue_of (slice_set s.queues.items q new) } ≡ with_queue q queue (state_in (state_kept s))
state-set s q new queue is = ap (λ (qs : List FlowQueue). record (state_in (state_kept s)) { queues = qs }) (queues-set s.queues.items q new ∙ ap (slice_set (map queue_of s.queues.items) q) is)

-- what is kept for held operations is kept where a queue holds the same
pub kept-queue : (ids : ℕ) (t : TemplatesView) (shared : Entries) (q : ℕ) (queue : FlowQueue) (s : State) → q < length s.queues → queue.held ≡ (queue_at q s).held
    → AreKeptFor ids t shared (all_held s) → AreKeptFor ids t shared (all_held (with_queue q queue s))
kept-queue ids t shared q queue s there same kept =
    kept-same ids t shared (all_held s) (all_held (with_queue q queue s))
    (λ test. omega (arith, count-with_queue test q queue s there, ap (λ (ops : List Held). count_by test ops) same))
    (λ P all. all-with_queue P q queue s all (subst (All P) (sym same) (all-at P q s all))) kept

-- and where one more is held
pub kept-waiting : (ids : ℕ) (t : TemplatesView) (shared : Entries) (q : ℕ) (op : Held) (s : State) → q < length s.queues
    → AreKeptFor ids t shared (op ∷ all_held s) → AreKeptFor ids t shared (all_held (waiting q op s))
kept-waiting ids t shared q op s there kept =
    kept-same ids t shared (op ∷ all_held s) (all_held (waiting q op s))
    (λ test. omega (arith, count-waiting test q op s there, count_by-first test op (all_held s)))
    (λ P all. all-waiting P q op s (All-tail P op (all_held s) all) (All-head P op (all_held s) all)) kept

-- a queue that isn't full takes one more
not-full : (s : State) (q : ℕ) → full_fault s q ≡ None → in_flight (queue_at q s) ≡ s.queue_size → ⊥
not-full s q none full = clear (nat_eq (in_flight (queue_at q s)) s.queue_size) (eq-eqb (in_flight (queue_at q s)) s.queue_size full)
    (first_of-none (queue_fault s q) (first (fault_if (nat_eq (in_flight (queue_at q s)) s.queue_size) causes.QueueFull 0)) none).1 where
      clear : (b : Bool) → b ≡ true → first (fault_if b causes.QueueFull 0) ≡ None → ⊥
      clear true is none' = cc
      clear false is none' = true≢false (sym is)

pub takes-more : (s : State) (q size : ℕ) (d : Queue Held) → full_fault s q ≡ None → queue_at q s ≡ queue_of d → IsQueue size d → size ≡ s.queue_size → op_queues.in_flight d ≡ d.size → ⊥
takes-more s q size d none is sound same full =
    not-full s q none (ap in_flight is ∙ sym (flight-is d sound.none_owed) ∙ full ∙ sound.size_is ∙ same)

pub size-admitted : (op : Held) (s : State) → (admitted op s).queue_size ≡ s.queue_size
size-admitted op s = ap (λ (t : State). t.queue_size) (others-admitted op s)

pub at-admitted : (op : Held) (s : State) (q : ℕ) → queue_at q (admitted op s) ≡ queue_at q s
at-admitted op s q = ap (λ (qs : List FlowQueue). get_or qs q empty_queue) (queues-admitted op s)

-- an answer that is no fault
pub ok-unless : {E : Type 0} {full : Type 0} (r : Result (Unit {0}) E) (P : Type 0) → (IsErr r → full) → (full → ⊥) → OnOk r P → P
ok-unless (Ok x) P why apart p = p
ok-unless (Err e) P why apart p = absurd (apart (why refl))
