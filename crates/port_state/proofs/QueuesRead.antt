-- The flow queues that the code keeps, and those of the state.
use Rattle.std.proofs.Common.{◌≡◌, ◌<◌, ◌≤◌, ℕ, nat_eq, map, length, get_or, List, None, Some, sym, ap, ◌∙◌, arith}
use Rattle.std.specs.List.{All}
use Rattle.std.proofs.lemmas.Bool.{le-leb, lt-leb, eq-eqb, ne_eqb}
use Rattle.std.proofs.lemmas.List.{get_or-map, length-map}
use Rattle.std.proofs.lemmas.List.Elements.{All-get_or}
use Rattle.flow_rules.specs.declared.fault.Cause.TheVariants as causes
use Rattle.flow_rules.specs.Faults.{fault_if, first}
use Rattle.op_queues.specs.OpQueue.{Queue}
use Rattle.op_queues.specs.OpQueue as op_queues
use Rattle.port_state.specs.declared.held.Held.{Held}
use Rattle.port_state.specs.Queue.{FlowQueue, empty_queue, in_flight}
use Rattle.port_state.specs.State.{State, first_of, full_fault, plain, queue_at, queue_fault}
use Rattle.port_state.specs.declared.state.State.TheInside.{Inside}
use Rattle.port_state.specs.KeptState.{KeptState, state_in}
use Rattle.port_state.specs.StateInside.{IsQueue, queue_of, state_kept}
use Rattle.port_state.proofs.Waiting.{there-queue}

-- there is no queue of a number, or there is one
pub no-queue : (s : State) (q : ℕ) → length s.queues ≤ q → queue_fault s q ≡ Some (plain causes.NoQueue)
no-queue s q most = ap (λ b. first (fault_if b causes.NoQueue 0)) (le-leb (length s.queues) q most)

pub a-queue : (s : State) (q : ℕ) → q < length s.queues → queue_fault s q ≡ None
a-queue s q below = ap (λ b. first (fault_if b causes.NoQueue 0)) (lt-leb (length s.queues) q below)

-- a queue of the state is the one that is kept
pub queue-at : (queues : List (Queue Held)) (q : ℕ) (d : Queue Held) → q < length queues → get_or (map queue_of queues) q empty_queue ≡ queue_of (get_or queues q d)
queue-at queues q d below = get_or-map queue_of queues q d empty_queue below

pub queues-length : (queues : List (Queue Held)) → length (map queue_of queues) ≡ length queues
queues-length queues = length-map queues queue_of

-- no queue owes a result, so as many operations are in flight
pub flight-is : (d : Queue Held) → d.owed ≡ 0 → op_queues.in_flight d ≡ in_flight (queue_of d)
flight-is d none = omega (arith, none)

pub same-flight : (queues : List (Queue Held)) (size q : ℕ) (d : Queue Held) → All (IsQueue size) queues → q < length queues
    → in_flight (get_or (map queue_of queues) q empty_queue) ≡ op_queues.in_flight (get_or queues q d)
same-flight queues size q d sound below =
    ap in_flight (queue-at queues q d below) ∙ sym (flight-is (get_or queues q d) (All-get_or (IsQueue size) queues q d below sound).none_owed)

-- the faults of holding one more
pub full-none : (s : State) (q n : ℕ) → queue_fault s q ≡ None → in_flight (queue_at q s) ≡ n → (n ≡ s.queue_size → ⊥) → full_fault s q ≡ None
full-none s q n there is less =
    ap (λ o. first_of o (first (fault_if (nat_eq (in_flight (queue_at q s)) s.queue_size) causes.QueueFull 0))) there
    ∙ ap (λ b. first (fault_if b causes.QueueFull 0)) (ap (λ k. nat_eq k s.queue_size) is ∙ ne_eqb n s.queue_size less)

pub full-some : (s : State) (q n : ℕ) → queue_fault s q ≡ None → in_flight (queue_at q s) ≡ n → n ≡ s.queue_size → full_fault s q ≡ Some (plain causes.QueueFull)
full-some s q n there is most =
    ap (λ o. first_of o (first (fault_if (nat_eq (in_flight (queue_at q s)) s.queue_size) causes.QueueFull 0))) there
    ∙ ap (λ b. first (fault_if b causes.QueueFull 0)) (ap (λ k. nat_eq k s.queue_size) is ∙ eq-eqb n s.queue_size most)

-- a queue that is there is kept
pub kept-there : (s : Inside) (now : KeptState) → state_kept s ≡ now → (q : ℕ) → q < length now.queues → q < length s.queues.items
kept-there s now same q below = omega (arith, below, ap (λ (k : KeptState). length k.queues) same, queues-length s.queues.items)

pub kept-below : (s : Inside) (now : KeptState) → state_kept s ≡ now → (q : ℕ) → queue_fault (state_in now) q ≡ None → q < length s.queues.items
kept-below s now same q none = kept-there s now same q (there-queue (state_in now) q none)

-- what is read of a queue that is kept is read of the state
pub read-queue : {A : Type 0} (s : Inside) (now : KeptState) → state_kept s ≡ now → (q : ℕ) (d : Queue Held) → q < length s.queues.items → (read : FlowQueue → A)
    → read (queue_of (get_or s.queues.items q d)) ≡ read (queue_at q (state_in now))
read-queue s now same q d below read = sym (ap read (queue-at s.queues.items q d below)) ∙ ap (λ (k : KeptState). read (queue_at q (state_in k))) same
