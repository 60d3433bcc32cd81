-- The entry that a call leaves, and that there is none behind want of memory.
use Rattle.std.proofs.Common.{◌≡◌, ℕ, List, [], ◌∷◌, ◌++◌, Result, Ok, Err, IfOk, OnErr, append-nil, sym, ◌∙◌}
use Rattle.flow_calls.specs.declared.caller.Caller.{Caller}
use Rattle.flow_calls.specs.declared.call.Call.{Call}
use Rattle.flow_calls.specs.declared.reply.Reply.{Reply}
use Rattle.flow_calls.specs.declared.entry.Entry.{Entry}
use Rattle.flow_calls.specs.declared.entry.Entry.TheVariants.{Asked}
use Rattle.turn_book.specs.Views.{Each, BeginsWith}
use Rattle.flow_port.specs.Calls.{entry_left}
use Rattle.flow_port.specs.Ports.{Grew}

module _ {E : Type 0} (who : Caller) (call : Call) where
  pub left_behind : (result : Result Reply E) (old new : List Entry) → IfOk result (λ reply. new ≡ old ++ Asked who call reply ∷ []) → OnErr result (new ≡ old)
      → new ≡ old ++ entry_left who call result
  left_behind (Ok reply) old new ok err = ok
  left_behind (Err error) old new ok err = err ∙ sym (append-nil old)

  pub left_is_own : (result : Result Reply E) (owner : Entry → ℕ) (number : ℕ) → ((reply : Reply) → owner (Asked who call reply) ≡ number)
      → Each (λ e. owner e ≡ number) (entry_left who call result)
  left_is_own (Ok reply) owner number own = (own reply, tt)
  left_is_own (Err error) owner number own = tt

  pub left_at_ok : (result : Result Reply E) (P : List Entry → Type 0) → P (entry_left who call result) → IfOk result (λ reply. P (Asked who call reply ∷ []))
  left_at_ok (Ok reply) P h = h
  left_at_ok (Err error) P h = tt

  pub left_at_err : (result : Result Reply E) (P : List Entry → Type 0) → P (entry_left who call result) → OnErr result (P [])
  left_at_err (Ok reply) P h = tt
  left_at_err (Err error) P h = h

pub begins-grown : (old new : List Entry) → Grew old new [] → BeginsWith new old
begins-grown old new grew = (grew.0, grew.1 ∙ append-nil (old ++ grew.0))
