-- What a line tells of an entry: a call with its reply is told whole, and of a frame all but its layers and its length.
use Rattle.std.specs.Prelude.{◌≡◌}
use Rattle.flow_calls.specs.declared.parcel.Parcel.{Parcel}
use Rattle.adapter.specs.declared.line.LineView.{LineView}
use Rattle.adapter.specs.declared.line.LineView.TheVariants as lines
use Rattle.flow_calls.specs.declared.entry.Entry.{Entry}
use Rattle.flow_calls.specs.declared.entry.Entry.TheVariants.{Asked, Passed}

abbrev pub IsLineOf : LineView → Entry → Type 0
IsLineOf (lines.Asked caller call reply) entry = entry ≡ Asked caller call.now reply.now
IsLineOf (lines.Passed caller number verdict) entry = (parcel : Parcel) × (parcel.number ≡ number) × (entry ≡ Passed caller parcel verdict)
