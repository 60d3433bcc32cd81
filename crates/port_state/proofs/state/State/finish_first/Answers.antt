use Rattle.std.proofs.Common.{◌≡◌, ℕ, ◌<◌, ◌∷◌, [], ◌++◌, Bool, List, Option, Some, drop, map, length, slice_set, sym, subst, ap, ◌∙◌}
use Rattle.std.specs.Prelude.{OnSome}
use Rattle.std.proofs.lemmas.List.{get_or-set_same, set-set}
use Rattle.op_queues.specs.OpQueue.{Queue}
use Rattle.port_state.specs.declared.held.Held.{Held}
use Rattle.port_state.specs.KeptState.{KeptState, state_in}
use Rattle.port_state.specs.Queue.{FlowQueue}
use Rattle.port_state.specs.State.{queue_at}
use Rattle.port_state.specs.StateInside.{state_kept, queue_of}
use Rattle.port_state.proofs.QueueParts.{here-is, many-kept, queues-set}
use Rattle.port_state.proofs.Stepping.{popped}
use Rattle.port_state.proofs.state.State.finish_first.Goals as goal

-- the queue behind both calls
popped-is : (now behind : Queue Held) (q : ℕ) (k : KeptState) (ok : Bool) → queue_at q (state_in k) ≡ queue_of now → behind.held ≡ drop 1 now.held → behind.results ≡ now.results ++ ok ∷ []
    → queue_of behind ≡ popped q (state_in k) ok
popped-is now behind q k ok is held results =
    ap (λ h. record { held = h; results = behind.results }) (held ∙ ap (λ (queue : FlowQueue). drop 1 queue.held) (sym is))
    ∙ ap (λ r. record { held = drop 1 (queue_at q (state_in k)).held; results = r }) (results ∙ ap (λ (queue : FlowQueue). queue.results ++ ok ∷ []) (sym is))

some-on : {A : Type 0} (o : Option A) (x : A) (P : Type 0) → o ≡ Some x → OnSome o P → P
some-on {A} o x P is on = subst (λ (o : Option A). OnSome o P) is on

pub returns-clause-others : goal.returns-clause-others
returns-clause-others c =
    let s = c.self.inside in
    let q = c.args.queue in
    let now = c.index_mut.result.now in
    let below = many-kept s.queues.items q (subst (λ (k : KeptState). q < length k.queues) (sym c.self.view_is) c.requires.there) in
    let at = here-is s.queues.items q now below c.index_mut.ensures.value in
    let without = some-on c.pop_held.result _ _ c.unwrap-op.ensures c.pop_held.ensures.owed in
    let second : c.index_mut-2.result.now ≡ c.pop_held.new.self = c.index_mut-2.ensures.value ∙ get_or-set_same s.queues.items q c.pop_held.new.self _ below in
    let behind : queue_of c.finish.new.self ≡ popped q (state_in (state_kept s)) c.args.ok
    = popped-is now c.finish.new.self q (state_kept s) c.args.ok at
    (ap (λ (x : Queue Held). x.held) c.finish.ensures ∙ ap (λ (x : Queue Held). x.held) (second ∙ without))
    (ap (λ (x : Queue Held). x.results) c.finish.ensures ∙ ap (λ (x : Queue Held). x.results ++ c.args.ok ∷ []) (second ∙ without)) in
    ap (λ (items : List (Queue Held)). record (state_kept s) { queues = map queue_of items }) (set-set s.queues.items q c.pop_held.new.self c.finish.new.self)
    ∙ ap (λ (queues : List FlowQueue). record (state_kept s) { queues = queues })
    (queues-set s.queues.items q c.finish.new.self ∙ ap (slice_set (map queue_of s.queues.items) q) behind)
    ∙ ap (λ (k : KeptState). record k { queues = slice_set k.queues q (popped q (state_in k) c.args.ok) }) c.self.view_is
