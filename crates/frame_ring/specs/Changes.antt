-- What a call does to the account of its pass.
use Rattle.std.specs.Prelude.{◌≡◌, ◌+◌, List, [], ◌∷◌, ◌++◌}
use Rattle.crossbeam_queue.specs.Passes.{view}
use Rattle.frame_ring.specs.Frame.{Frame}
use Rattle.frame_ring.specs.declared.pass.RingPass.{RingPass}
use Rattle.frame_ring.specs.RingRule.{RingMoment}
use Rattle.frame_ring.specs.FreeRule.{FreeMoment}
use Rattle.frame_ring.specs.Passes.{number_of, offered, grabbed, taken, given}

abbrev pub IsUnchanged : RingPass → RingPass → Type 0
IsUnchanged old new = (number_of new ≡ number_of old) × (offered new ≡ offered old) × (grabbed new ≡ grabbed old) × (taken new ≡ taken old) × (given new ≡ given old)

abbrev pub HasOffered : Frame → RingPass → RingPass → Type 0
HasOffered f old new = (number_of new ≡ number_of old) × (offered new ≡ offered old ++ f ∷ []) × (grabbed new ≡ grabbed old) × (taken new ≡ taken old) × (given new ≡ given old)

abbrev pub HasGrabbed : Frame → RingPass → RingPass → Type 0
HasGrabbed f old new = (number_of new ≡ number_of old) × (offered new ≡ offered old) × (grabbed new ≡ grabbed old ++ f ∷ []) × (taken new ≡ taken old) × (given new ≡ given old)

abbrev pub TookFree : RingPass → RingPass → Type 0
TookFree old new = (number_of new ≡ number_of old) × (offered new ≡ offered old) × (grabbed new ≡ grabbed old) × (taken new ≡ taken old + 1) × (given new ≡ given old)

abbrev pub GaveBack : RingPass → RingPass → Type 0
GaveBack old new = (number_of new ≡ number_of old) × (offered new ≡ offered old) × (grabbed new ≡ grabbed old) × (taken new ≡ taken old) × (given new ≡ given old + 1)

-- At some moment, when the pass had this account, the frame was the oldest in the ring
abbrev pub WasOldest : RingPass → Frame → Type 0
WasOldest p f = (rest : List Frame) × RingMoment (view p.ring) (f ∷ rest)

-- At some moment, when the pass had this account, the buffer was free
abbrev pub WasFree : RingPass → Frame → Type 0
WasFree p f = (rest : List Frame) × FreeMoment (view p.free) (f ∷ rest)
