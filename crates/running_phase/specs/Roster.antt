-- The callers of a phase.
use Rattle.std.specs.Prelude.{ℕ, zero, suc, ◌+◌, ◌≤◌, ◌<◌, List, [], ◌∷◌, ◌++◌}
use Rattle.flow_calls.specs.declared.call.Call.{Call}
use Rattle.flow_calls.specs.declared.caller.Caller.{Caller}

abbrev pub caller_at : ℕ → Caller
caller_at number = record { 0 = number }

-- a caller that has calls takes part, and another doesn't
abbrev pub with_calls : ℕ → List Call → List Caller
with_calls number [] = []
with_calls number (call ∷ calls) = caller_at number ∷ []

-- the agents with calls, of which the first has that number
abbrev pub agents_from : ℕ → List (List Call) → List Caller
agents_from number [] = []
agents_from number (calls ∷ agents) = with_calls number calls ++ agents_from (number + 1) agents

-- so many workers, of which the first has that number
abbrev pub workers_from : ℕ → ℕ → List Caller
workers_from number zero = []
workers_from number (suc n) = caller_at number ∷ workers_from (number + 1) n

-- the shell, the agents with calls, and the workers
abbrev pub roster : List (List Call) → ℕ → List Caller
roster agents workers = caller_at 0 ∷ (agents_from 1 agents ++ workers_from 9 workers)

-- one of the workers
abbrev pub IsTaker : ℕ → ℕ → Type 0
IsTaker workers who = (9 ≤ who) × (who < 9 + workers)
