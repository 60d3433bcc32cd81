-- Totals behind one more frame.
use Rattle.std.specs.Prelude.{ℕ, ◌+◌, ◌<◌, ◌^◌, slice_index, slice_set}
use Rattle.flow_calls.specs.declared.reply.Totals.{Totals}
use Rattle.flow_actions.specs.declared.verdict.Fate.{Fate}
use Rattle.flow_actions.specs.declared.verdict.Fate.TheVariants as fates

-- totals behind a frame of this fate
abbrev pub counted : Totals → Fate → Totals
counted t (fates.Queue q) = record t { received = t.received + 1; queues = slice_set t.queues q (slice_index t.queues q + 1) }
counted t fates.Drop = record t { received = t.received + 1; dropped = t.dropped + 1 }

-- each total can still rise
pub record HasRoom (t : Totals) : Type 0 where
  pub received : t.received + 1 < 2 ^ 64
  pub dropped : t.dropped + 1 < 2 ^ 64
  pub queues : (q : ℕ) → q < 16 → slice_index t.queues q + 1 < 2 ^ 64
