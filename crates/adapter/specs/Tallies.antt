-- What a frame's entry adds to counters and totals.
use Rattle.std.specs.Prelude.{◌≡◌}
use Rattle.flow_calls.specs.declared.entry.Entry.{Entry}
use Rattle.flow_calls.specs.declared.entry.Entry.TheVariants.{Asked, Passed}
use Rattle.adapter.specs.declared.kept.tallies.Tally.{Tally}

-- the entry is a frame
abbrev pub IsPassed : Entry → Type 0
IsPassed (Asked caller call reply) = ⊥
IsPassed (Passed caller parcel verdict) = Unit {0}

-- the entry is a frame that adds this
abbrev pub Tallies : Entry → Tally → Type 0
Tallies (Asked caller call reply) tally = ⊥
Tallies (Passed caller parcel verdict) tally = tally ≡ record { path = verdict.path; fate = verdict.fate; bytes = parcel.len }
