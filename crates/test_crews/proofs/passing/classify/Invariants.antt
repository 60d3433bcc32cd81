use Rattle.std.proofs.Common.{◌≡◌, take}
use Rattle.flow_port.specs.Bursts.{verdicts_by}
use Rattle.test_crews.proofs.passing.classify.Given as goal

abbrev pub invariant-loop-parcel : goal.invariant-loop-parcel
invariant-loop-parcel l = l.verdicts.items ≡ verdicts_by l.replica.flows (take l.parcel-index l.parcels)
