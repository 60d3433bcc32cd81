use Rattle.std.proofs.Common.{◌≡◌, ℕ, zero, suc, ◌++◌, Bool, true, false, arith, nat_lt, replicate, map, length, List, [], ◌∷◌, refl, sym, subst, ap, ◌∙◌, None}
use Rattle.std.proofs.lemmas.Bool.{ltb-false}
use Rattle.flow_rules.specs.declared.fault.Fault.{Fault}
use Rattle.flow_rules.specs.declared.fault.Cause.TheVariants as causes
use Rattle.flow_rules.specs.Faults.{fault_if, first}
use Rattle.op_queues.specs.OpQueue as op_queues
use Rattle.port_state.specs.declared.held.Held.{Held}
use Rattle.port_state.specs.Kept.{AreKept, AreKeptFor}
use Rattle.port_state.specs.KeptState.{KeptState, state_in}
use Rattle.port_state.specs.Queue.{FlowQueue, empty_queue}
use Rattle.port_state.specs.State.{State, all_held, configure_refusals, configured}
use Rattle.port_state.specs.StateInside.{state_kept, queue_of}
use Rattle.port_state.proofs.Waiting.{none-held}
use Rattle.port_state.proofs.state.State.configure.Goals as goal

-- queues that were made are empty
all-empty : (n size : ℕ) → map queue_of (replicate n (op_queues.empty_queue {T = Held} size)) ≡ replicate n empty_queue
all-empty zero size = refl
all-empty (suc n) size = ap (λ (qs : List FlowQueue). empty_queue ∷ qs) (all-empty n size)

-- and none was there before
none-yet : (s : State) (queues size : ℕ) → first (configure_refusals s queues size) ≡ None → s.queues ≡ []
none-yet s queues size due = nothing-in s.queues (omega (arith, ltb-false 0 (length s.queues) (clear (nat_lt 0 (length s.queues)) _ due))) where
  clear : (b : Bool) (others : List Fault) → first (fault_if b causes.AlreadyConfigured 0 ++ others) ≡ None → b ≡ false
  clear true others bad = cc
  clear false others bad = refl

  nothing-in : {A : Type 0} (xs : List A) → length xs ≡ 0 → xs ≡ []
  nothing-in [] is = refl
  nothing-in (x ∷ xs) is = absurd (omega (arith, is))

pub returns-clause-state : goal.returns-clause-state
returns-clause-state c =
    let s = c.self.inside in
    ap (λ (qs : List FlowQueue). record (state_in (state_kept s)) { queues = qs; queue_size = c.args.size }) (ap (map queue_of) c.in_ok-self-inside.ensures ∙ all-empty c.args.queues c.args.size)
    ∙ ap (λ (k : KeptState). configured c.args.queues c.args.size (state_in k)) c.self.view_is

pub returns-clause-kept : goal.returns-clause-kept
returns-clause-kept c =
    let s = c.self.inside in
    let k = state_kept s in
    let none : (state_in k).queues ≡ [] = none-yet (state_in k) c.args.queues c.args.size (ap (λ (x : KeptState). first (configure_refusals (state_in x) c.args.queues c.args.size)) c.self.view_is ∙ c.requires.due) in
    let before : AreKeptFor s.ids s.templates s.shared.entries []
    = subst (λ (qs : List FlowQueue). AreKeptFor s.ids s.templates s.shared.entries (all_held (record (state_in k) { queues = qs }))) none (subst AreKept (sym c.self.view_is) c.requires.kept) in
    subst (λ (qs : List FlowQueue). AreKeptFor s.ids s.templates s.shared.entries (all_held (record (state_in k) { queues = qs })))
    (sym (ap (map queue_of) c.in_ok-self-inside.ensures ∙ all-empty c.args.queues c.args.size))
    (subst (λ (ops : List Held). AreKeptFor s.ids s.templates s.shared.entries ops) (sym (none-held c.args.queues)) before)
