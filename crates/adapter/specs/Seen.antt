-- What contracts see of an adapter, and of an entry that it lends.
use Rattle.std.specs.Prelude.{◌≡◌, List, [], ◌∷◌, ◌++◌}
use Rattle.flow_rules.specs.declared.limits.Limits.{Limits}
use Rattle.flow_calls.specs.declared.entry.EntryView.{EntryView}
use Rattle.flow_calls.specs.declared.entry.EntryView.TheVariants as views
use Rattle.flow_calls.specs.declared.entry.Entry.{Entry}
use Rattle.flow_calls.specs.declared.entry.Entry.TheVariants.{Asked, Passed}
use Rattle.adapter.specs.declared.spare.Spare.{Spare}

-- its limits, its history, and for how many more entries room was taken ahead
pub record Seen : Type 0 where
  pub limits : Limits
  pub history : List Entry
  pub spare : Spare

-- the entry that a view shows
abbrev pub entry_of : EntryView → Entry
entry_of (views.Asked caller call reply) = Asked caller call.now reply.now
entry_of (views.Passed caller parcel verdict) = Passed caller parcel verdict

-- the history grew by these entries, under the same limits
pub record Grows (old new : Seen) (entries : List Entry) : Type 0 where
  pub limits : new.limits ≡ old.limits
  pub history : new.history ≡ old.history ++ entries

-- the history grew by just this entry
abbrev pub Enters : Seen → Seen → Entry → Type 0
Enters old new entry = Grows old new (entry ∷ [])

-- all is as it was
pub record Stays (old new : Seen) : Type 0 where
  pub limits : new.limits ≡ old.limits
  pub history : new.history ≡ old.history
  pub spare : new.spare ≡ old.spare
