-- What one run saw of its words, its files and its sink.
use Rattle.std.specs.Prelude.{ℕ, ◌+◌, List, Option}
use Rattle.io_edges.specs.ShelfState.{ShelfState}

-- The shelf, and of the sink the bytes that it has taken, where it tells them, and the count of its failed writes.
pub record Edges : Type 0 where
  pub shelf : ShelfState
  pub taken : Option (List ℕ)
  pub faults : ℕ

abbrev pub edges_of : {S K : Type 0} → (S → ShelfState) → (K → Option (List ℕ)) → (K → ℕ) → S → K → Edges
edges_of state taken faults shelf sink = record { shelf = state shelf; taken = taken sink; faults = faults sink }

-- the words, and the shelf and the sink before the run and behind it
pub record Run : Type 0 where
  pub words : List (List ℕ)
  pub before : Edges
  pub after : Edges

abbrev pub run_of : List (List ℕ) → Edges → Edges → Run
run_of words before after = record { words = words; before = before; after = after }

-- failed openings to read, and failed reads of the script
abbrev pub early_faults : ShelfState → ℕ
early_faults s = s.open_faults + s.script.faults
