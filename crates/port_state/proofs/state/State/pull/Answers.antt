use Rattle.std.proofs.Common.{◌≡◌, ℕ, ◌<◌, [], length, refl, sym, subst, ap, ◌∙◌, None}
use Rattle.op_queues.specs.OpQueue.{Queue}
use Rattle.port_state.specs.declared.held.Held.{Held}
use Rattle.port_state.specs.Kept.{AreKept, AreKeptFor}
use Rattle.port_state.specs.KeptState.{KeptState, state_in}
use Rattle.port_state.specs.Queue.{FlowQueue}
use Rattle.port_state.specs.State.{State, all_held, pulled, queue_at, queue_fault}
use Rattle.port_state.specs.StateInside.{state_kept, queue_of}
use Rattle.port_state.proofs.QueueParts.{here-is, kept-queue, many-kept, state-set}
use Rattle.port_state.proofs.Waiting.{there-queue}
use Rattle.port_state.proofs.state.State.pull.Goals as goal

-- the queue is there
there : (k old : KeptState) → k ≡ old → (q : ℕ) → queue_fault (state_in old) q ≡ None → q < length (state_in k).queues
there k old same q none = there-queue (state_in k) q (subst (λ (x : KeptState). queue_fault (state_in x) q ≡ None) (sym same) none)

-- what it is behind the pull
pulled-is : (now new : Queue Held) (q : ℕ) (s : State) → queue_at q s ≡ queue_of now → new.held ≡ now.held → new.results ≡ [] → queue_of new ≡ record { held = (queue_at q s).held; results = [] }
pulled-is now new q s is held none =
    ap (λ h. record { held = h; results = new.results }) (held ∙ ap (λ (queue : FlowQueue). queue.held) (sym is))
    ∙ ap (λ r. record { held = (queue_at q s).held; results = r }) none

pub returns-clause-state : goal.returns-clause-state
returns-clause-state c =
    let s = c.self.inside in
    let q = c.args.queue in
    let below = there (state_kept s) _ c.self.view_is q c.requires.there in
    let is = here-is s.queues.items q c.index_mut.result.now (many-kept s.queues.items q below) c.index_mut.ensures.value in
    state-set s q c.pull.new.self _ (pulled-is c.index_mut.result.now c.pull.new.self q (state_in (state_kept s)) is (ap (λ (x : Queue Held). x.held) c.pull.ensures.left) (c.pull.ensures.all c.pull.ensures.within).1)
    ∙ ap (λ (k : KeptState). pulled q (state_in k)) c.self.view_is

pub returns-clause-kept : goal.returns-clause-kept
returns-clause-kept c = λ kept.
    let s = c.self.inside in
    let q = c.args.queue in
    let below = there (state_kept s) _ c.self.view_is q c.requires.there in
    let is = here-is s.queues.items q c.index_mut.result.now (many-kept s.queues.items q below) c.index_mut.ensures.value in
    subst (λ (x : State). AreKeptFor s.ids s.templates s.shared.entries (all_held x))
    (sym (state-set s q c.pull.new.self _ (pulled-is c.index_mut.result.now c.pull.new.self q (state_in (state_kept s)) is (ap (λ (x : Queue Held). x.held) c.pull.ensures.left) (c.pull.ensures.all c.pull.ensures.within).1)))
    (kept-queue s.ids s.templates s.shared.entries q _ (state_in (state_kept s)) below refl (subst AreKept (sym c.self.view_is) kept))
