use Rattle.std.proofs.Common.{◌≡◌, ℕ, ◌∷◌, Bool, true, false, nat_eq, drop, slice_set, sym, subst, ap, ◌∙◌, List}
use Rattle.std.specs.List.{All, IsDistinct}
use Rattle.std.specs.Map.{keys_of}
use Rattle.port_state.specs.declared.held.Held.{Held}
use Rattle.port_state.specs.Apart.{IsFit}
use Rattle.port_state.specs.Counters.{is_there, while_there}
use Rattle.port_state.specs.Kept.{AreKept, AreKeptFor, IsHeldIn}
use Rattle.port_state.specs.KeptState.{KeptState, count_in, state_in}
use Rattle.port_state.specs.Ready.{IsReady}
use Rattle.port_state.specs.State.{State, all_held, flows_of, queue_at, succeeds, taken, with_queue}
use Rattle.port_state.proofs.ApartKept.{IsAlone-first}
use Rattle.std.proofs.lemmas.List.Elements.{All-head}
use Rattle.port_state.proofs.Stepping.{failed-kept, first-behind, first-counts, kept-popped, none-counted, popped, ready-first, ready-with, step-taken, taken-with}
use Rattle.port_state.proofs.Waiting.{all-at, others-taken}
use Rattle.port_state.proofs.state.State.step_queue.Goals as goal

-- the first operation of a queue meets what all that are held meet
first-of : (P : Held → Type 0) (q : ℕ) (s : State) (op : Held) (ops : List Held) → (queue_at q s).held ≡ op ∷ ops → All P (all_held s) → P op
first-of P q s op ops is all = All-head P op ops (subst (All P) is (all-at P q s all))

pub take-requires-clause-ready : goal.take-requires-clause-ready
take-requires-clause-ready c =
    let k = c.args.self.now in
    let q = c.args.queue in
    let op = c.finish_first-op.result in
    let ops = drop 1 (queue_at q (state_in k)).held in
    let is = c.finish_first-op.ensures.first in
    let ok : succeeds (state_in k) op ≡ true = sym (c.first_succeeds-ok.ensures op ops is) ∙ c.if-ok.true in
    subst (λ (x : KeptState). IsReady x op) (sym c.finish_first-op.ensures.others)
    (ready-with k (slice_set k.queues q (popped q (state_in k) c.first_succeeds-ok.result)) op
    (ready-first k op
    (subst (λ (x : KeptState). IsDistinct nat_eq (keys_of x.shared)) c.self.view_is c.len-number.ensures.sound.ids)
    (first-of (IsHeldIn k.templates k.shared) q (state_in k) op ops is c.requires.kept.each)
    (none-counted (state_in k) op (all_held (with_queue q (popped q (state_in k) true) (state_in k))) (first-behind q (state_in k) true op ops is) c.requires.apart)
    (first-of (IsFit k.rxq) q (state_in k) op ops is c.requires.apart.fit)
    ok))

pub first_succeeds-ok-requires-clause-fit : goal.first_succeeds-ok-requires-clause-fit
first_succeeds-ok-requires-clause-fit c = all-at (IsFit c.args.self.now.rxq) c.args.queue (state_in c.args.self.now) c.requires.apart.fit

-- the state with the queue behind its first operation
behind-is : (k new : KeptState) (q : ℕ) (ok b : Bool) → new ≡ record k { queues = slice_set k.queues q (popped q (state_in k) ok) } → ok ≡ b
    → new ≡ record k { queues = slice_set k.queues q (popped q (state_in k) b) }
behind-is k new q ok b is same = is ∙ ap (λ o. record k { queues = slice_set k.queues q (popped q (state_in k) o) }) same

pub returns-then-ok-clause-state : goal.returns-then-ok-clause-state
returns-then-ok-clause-state c =
    let k = c.args.self.now in
    let q = c.args.queue in
    let op = c.finish_first-op.result in
    let ops = drop 1 (queue_at q (state_in k)).held in
    let is = c.finish_first-op.ensures.first in
    let ok : succeeds (state_in k) op ≡ true = sym (c.first_succeeds-ok.ensures op ops is) ∙ c.if-ok.true in
    c.take.ensures.state
    ∙ ap (λ (x : KeptState). taken (state_in x) op) (behind-is k c.finish_first-op.new.self q c.first_succeeds-ok.result true c.finish_first-op.ensures.others c.if-ok.true)
    ∙ step-taken q (state_in k) op ops is ok

pub returns-then-ok-clause-counts : goal.returns-then-ok-clause-counts
returns-then-ok-clause-counts c = λ counter.
    let k = c.args.self.now in
    let q = c.args.queue in
    let op = c.finish_first-op.result in
    let ops = drop 1 (queue_at q (state_in k)).held in
    let is = c.finish_first-op.ensures.first in
    let ok : succeeds (state_in k) op ≡ true = sym (c.first_succeeds-ok.ensures op ops is) ∙ c.if-ok.true in
    let others = behind-is k c.finish_first-op.new.self q c.first_succeeds-ok.result true c.finish_first-op.ensures.others c.if-ok.true in
    let behind : state_in c.take.new.self ≡ with_queue q (popped q (state_in k) true) (taken (state_in k) op)
    = c.take.ensures.state ∙ ap (λ (x : KeptState). taken (state_in x) op) others ∙ taken-with q (popped q (state_in k) true) (state_in k) op in
    c.take.ensures.counts counter
    ∙ ap (λ (s : State). while_there (is_there counter (flows_of s)) (count_in c.finish_first-op.new.self counter)) behind
    ∙ ap (λ (x : KeptState). while_there (is_there counter (flows_of (taken (state_in k) op))) (count_in x counter)) others
    ∙ sym (first-counts (state_in k) op ops (queue_at q (state_in k)).held is ok counter (count_in k counter))

pub returns-then-ok-clause-kept : goal.returns-then-ok-clause-kept
returns-then-ok-clause-kept c =
    let k = c.args.self.now in
    let s = state_in k in
    let q = c.args.queue in
    let op = c.finish_first-op.result in
    let ops = drop 1 (queue_at q s).held in
    let is = c.finish_first-op.ensures.first in
    let ok : succeeds s op ≡ true = sym (c.first_succeeds-ok.ensures op ops is) ∙ c.if-ok.true in
    let others = behind-is k c.finish_first-op.new.self q c.first_succeeds-ok.result true c.finish_first-op.ensures.others c.if-ok.true in
    let held : all_held (state_in c.take.new.self) ≡ all_held (with_queue q (popped q s true) s)
    = ap all_held (c.take.ensures.state ∙ ap (λ (x : KeptState). taken (state_in x) op) others ∙ others-taken (with_queue q (popped q s true) s) op) in
    subst (AreKeptFor c.take.new.self.ids c.take.new.self.templates c.take.new.self.shared) (sym held)
    (c.take.ensures.kept (all_held (with_queue q (popped q s true) s))
    (IsAlone-first s op _ (first-behind q s true op ops is) c.requires.apart ok)
    (subst (λ (x : KeptState). AreKeptFor x.ids x.templates x.shared (op ∷ all_held (with_queue q (popped q s true) s))) (sym others)
    (kept-popped k.ids k.templates k.shared q s true op ops is c.requires.kept)))

pub returns-else-ok-clause-kept : goal.returns-else-ok-clause-kept
returns-else-ok-clause-kept c =
    let k = c.args.self.now in
    let s = state_in k in
    let q = c.args.queue in
    let op = c.finish_first-op.result in
    let ops = drop 1 (queue_at q s).held in
    let is = c.finish_first-op.ensures.first in
    let fails : succeeds s op ≡ false = sym (c.first_succeeds-ok.ensures op ops is) ∙ c.if-ok.false in
    let others = behind-is k c.finish_first-op.new.self q c.first_succeeds-ok.result false c.finish_first-op.ensures.others c.if-ok.false in
    subst AreKept (sym others) (failed-kept k.ids k.templates k.shared s op _ fails (kept-popped k.ids k.templates k.shared q s false op ops is c.requires.kept))
