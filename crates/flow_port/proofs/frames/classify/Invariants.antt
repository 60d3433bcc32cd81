use Rattle.std.proofs.Common.{◌≡◌, take}
use Rattle.flow_port.specs.Bursts.{verdicts_by}
use Rattle.flow_port.proofs.frames.classify.Given as goal

abbrev pub invariant-loop-parcel : goal.invariant-loop-parcel
invariant-loop-parcel l = l.verdicts.items ≡ verdicts_by l.replica.flows (take l.parcel-index l.frames.parcels.now)
