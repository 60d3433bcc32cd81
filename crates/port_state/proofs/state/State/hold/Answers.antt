use Rattle.std.proofs.Common.{◌≡◌, ℕ, ◌<◌, ◌++◌, ◌∷◌, [], length, sym, subst, ap, ◌∙◌}
use Rattle.op_queues.specs.OpQueue.{Queue}
use Rattle.port_state.specs.declared.held.Held.{Held}
use Rattle.port_state.specs.Kept.{AreKeptFor}
use Rattle.port_state.specs.KeptState.{KeptState, state_in}
use Rattle.port_state.specs.Queue.{FlowQueue}
use Rattle.port_state.specs.State.{State, admitted, all_held, queue_at, with_queue}
use Rattle.port_state.specs.StateInside.{state_kept, queue_of}
use Rattle.port_state.proofs.QueueParts.{at-admitted, here-is, here-sound, kept-waiting, many-kept, ok-unless, size-admitted, state-set, takes-more}
use Rattle.port_state.proofs.Waiting.{queue_with, queues-admitted, there-full}
use Rattle.port_state.proofs.state.State.hold.Goals as goal

-- the queue with one more
held-is : (now new : Queue Held) (q : ℕ) (s : State) (op : Held) → queue_at q s ≡ queue_of now → new ≡ record now { held = now.held ++ op ∷ [] } → queue_of new ≡ queue_with q s op
held-is now new q s op is same = ap queue_of same ∙ ap (λ (queue : FlowQueue). record { held = queue.held ++ op ∷ []; results = queue.results }) (sym is)

below-of : (k : KeptState) (s : State) (op : Held) (q : ℕ) → state_in k ≡ admitted op s → q < length s.queues → q < length (state_in k).queues
below-of k s op q is below = subst (λ n. q < n) (sym (ap (λ (x : State). length x.queues) is ∙ ap (λ (qs : _). length qs) (queues-admitted op s))) below

pub returns-clause-state : goal.returns-clause-state
returns-clause-state c =
    let s = c.self.inside in
    let q = c.args.queue in
    let op = c.args.op in
    let s0 = state_in c.args.self.now in
    let behind : state_in (state_kept s) ≡ admitted op s0 = ap state_in c.self.view_is ∙ c.admit.ensures.state in
    let below = many-kept s.queues.items q (below-of (state_kept s) s0 op q behind (there-full s0 q c.requires.room)) in
    let at : queue_at q s0 ≡ queue_of c.index_mut.result.now
    = sym (at-admitted op s0 q) ∙ ap (queue_at q) (sym behind) ∙ here-is s.queues.items q c.index_mut.result.now below c.index_mut.ensures.value in
    let sound = here-sound s.queue_size s.queues.items q c.index_mut.result.now below c.index_mut.ensures.value c.self.invariant.queues in
    let size : s.queue_size ≡ s0.queue_size = ap (λ (x : State). x.queue_size) behind ∙ size-admitted op s0 in
    let is = ok-unless c.hold.result _ (λ full. c.hold.ensures.full.0 full) (takes-more s0 q s.queue_size c.index_mut.result.now c.requires.room at sound size) c.hold.ensures.ok in
    state-set s q c.hold.new.self (queue_with q s0 op) (held-is c.index_mut.result.now c.hold.new.self q s0 op at is)
    ∙ ap (with_queue q (queue_with q s0 op)) behind

pub returns-clause-kept : goal.returns-clause-kept
returns-clause-kept c =
    let s = c.self.inside in
    let q = c.args.queue in
    let op = c.args.op in
    let s0 = state_in c.args.self.now in
    let kept : AreKeptFor s.ids s.templates s.shared.entries (op ∷ all_held s0)
    = subst (λ (k : KeptState). AreKeptFor k.ids k.templates k.shared (op ∷ all_held s0)) (sym c.self.view_is) c.admit.ensures.kept in
    subst (λ (x : State). AreKeptFor s.ids s.templates s.shared.entries (all_held x)) (sym (returns-clause-state c))
    (kept-waiting s.ids s.templates s.shared.entries q op s0 (there-full s0 q c.requires.room) kept)
