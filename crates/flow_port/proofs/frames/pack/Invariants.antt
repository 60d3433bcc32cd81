use Rattle.std.proofs.Common.{◌≡◌, length, take, vec_capacity}
use Rattle.flow_port.specs.Bursts.{passed_all}
use Rattle.flow_port.proofs.frames.pack.Given as goal

abbrev pub invariant-loop-place : goal.invariant-loop-place
invariant-loop-place l = record {
  packed : l.packed.items ≡ passed_all l.frames.caller l.frames.parcels.now (take l.place l.verdicts);
  count : length l.packed.items ≡ l.place;
  room : vec_capacity l.packed ≡ length l.verdicts;
}
