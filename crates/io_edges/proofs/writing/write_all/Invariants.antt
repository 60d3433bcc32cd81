-- The sink took the bytes that are sent, and no write has failed.
use Rattle.std.proofs.Common.{◌≡◌, ◌≤◌, ◌-◌, length, take}
use Rattle.std.specs.Option.{is_some}
use Rattle.std.specs.Io.KnownBytes.{Appends}
use Rattle.io_edges.proofs.writing.write_all.Given as goal

abbrev pub invariant-loop-sent : goal.invariant-loop-sent
invariant-loop-sent g l = record {
  took : Appends (g.K.Sink.taken l.initial.sink) (g.K.Sink.taken l.sink) (take l.sent l.bytes);
  told : is_some (g.K.Sink.taken l.sink) ≡ is_some (g.K.Sink.taken l.initial.sink);
  calm : g.K.Sink.faults l.sink ≡ g.K.Sink.faults l.initial.sink;
  within : l.sent ≤ length l.bytes;
  keeps : g.K.Sink.keeps l.initial.sink l.sink;
}

abbrev pub decreases-loop-sent : goal.decreases-loop-sent
decreases-loop-sent g l = length l.bytes - l.sent
