-- A flow queue (rte_flow guide: template API).
use Rattle.std.specs.Prelude.{ℕ, ◌+◌, Bool, List, [], length}
use Rattle.port_state.specs.declared.held.Held.{Held}

-- the operations that it holds, and the results that wait, the oldest first
pub record FlowQueue : Type 0 where
  pub held : List Held
  pub results : List Bool

abbrev pub empty_queue : FlowQueue
empty_queue = record { held = []; results = [] }

-- the operations in flight: those that are held, and those whose results weren't pulled
abbrev pub in_flight : FlowQueue → ℕ
in_flight queue = length queue.held + length queue.results
