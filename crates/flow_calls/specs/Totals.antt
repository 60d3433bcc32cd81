-- The totals of a history: frames that passed, by their fates.
use Rattle.std.specs.Prelude.{ℕ, ◌==◌, Bool, true, false, List, map, count_by}
use Rattle.std.specs.List.{range_with_len}
use Rattle.flow_calls.specs.declared.reply.Totals.{Totals}
use Rattle.flow_actions.specs.declared.verdict.Fate.{Fate}
use Rattle.flow_actions.specs.declared.verdict.Fate.TheVariants as fates
use Rattle.flow_calls.specs.declared.entry.Entry.{Entry}
use Rattle.flow_calls.specs.declared.entry.Entry.TheVariants.{Asked, Passed}

abbrev pub passes_by : (Fate → Bool) → Entry → Bool
passes_by p (Asked caller call reply) = false
passes_by p (Passed caller parcel verdict) = p verdict.fate

abbrev pub is_any_fate : Fate → Bool
is_any_fate _ = true

abbrev pub is_drop : Fate → Bool
is_drop (fates.Queue _) = false
is_drop fates.Drop = true

abbrev pub is_queue : ℕ → Fate → Bool
is_queue q (fates.Queue n) = n == q
is_queue q fates.Drop = false

-- the frames delivered to each Rx queue, from 0 to 15
unfoldable pub queue_totals : List Entry → List ℕ
queue_totals history = map (λ q. count_by (passes_by (is_queue q)) history) (range_with_len 0 16)

-- the frames received, dropped, and delivered
abbrev pub totals_of : List Entry → Totals
totals_of history = record {
  received = count_by (passes_by is_any_fate) history;
  dropped = count_by (passes_by is_drop) history;
  queues = queue_totals history;
}
