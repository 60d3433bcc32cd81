-- What each step on the two queues tells, and how a pass is cut in two and put together.
use Rattle.std.specs.Prelude.{◌≡◌, ◌+◌, ◌<◌, List, [], ◌∷◌, ◌++◌, length, map}
use Rattle.frame_ring.specs.Frame.{Frame}
use Rattle.frame_ring.specs.declared.view.RingView.{RingView}
use Rattle.frame_ring.specs.declared.view.FreeView.{FreeView}
use Rattle.frame_ring.specs.Views.{pass_frames, pass_counts, knows, counts}
use Rattle.frame_ring.specs.RingRule.{marked, begun, RingMoment}
use Rattle.frame_ring.specs.FreeRule.{filling, filled, FreeMoment}

-- what is known with this frame offered, by the one pass that v carries
abbrev pub with_offer : Frame → RingView → RingView
with_offer f v = knows v.floor v.passes v.capacity (map (λ p. pass_frames p.number (p.offered ++ f ∷ []) p.grabbed) v.own) v.drained

abbrev pub with_grab : Frame → RingView → RingView
with_grab f v = knows v.floor v.passes v.capacity (map (λ p. pass_frames p.number p.offered (p.grabbed ++ f ∷ [])) v.own) v.drained

abbrev pub with_drain : Frame → RingView → RingView
with_drain f v = knows v.floor v.passes v.capacity v.own (v.drained ++ f ∷ [])

-- The frame joined the ring, which had room
abbrev pub Offers : RingView → Frame → RingView → Type 0
Offers v f w = (w ≡ with_offer f v) × ((items : List Frame) × (length items < v.capacity) × RingMoment v items)

-- The frame was the oldest in the ring
abbrev pub Grabs : RingView → Frame → RingView → Type 0
Grabs v f w = (w ≡ with_grab f v) × ((rest : List Frame) × RingMoment v (f ∷ rest))

abbrev pub Drains : RingView → Frame → RingView → Type 0
Drains v f w = (w ≡ with_drain f v) × ((rest : List Frame) × RingMoment v (f ∷ rest))

abbrev pub Marks : RingView → Frame → RingView → Type 0
Marks v f w = w ≡ marked f

abbrev pub Unmarks : RingView → Frame → RingView → Type 0
Unmarks v f w = (v ≡ marked f) × (w ≡ begun f)

abbrev pub with_taken : FreeView → FreeView
with_taken v = counts v.passes v.made (map (λ p. pass_counts p.number (p.taken + 1) p.given) v.own)

abbrev pub with_given : FreeView → FreeView
with_given v = counts v.passes v.made (map (λ p. pass_counts p.number p.taken (p.given + 1)) v.own)

-- A buffer was free, and was taken
abbrev pub Takes : FreeView → Frame → FreeView → Type 0
Takes v f w = (w ≡ with_taken v) × ((rest : List Frame) × FreeMoment v (f ∷ rest))

-- The buffer is free again; there was room
abbrev pub Gives : FreeView → Frame → FreeView → Type 0
Gives v f w = (w ≡ with_given v) × ((items : List Frame) × (length items < v.made) × FreeMoment v items)

abbrev pub Fills : FreeView → Frame → FreeView → Type 0
Fills v f w = w ≡ filling (v.made + 1)

abbrev pub FillsLast : FreeView → Frame → FreeView → Type 0
FillsLast v f w = w ≡ filled (v.made + 1) f

abbrev pub first_of : {X : Type 0} → List X → List X
first_of [] = []
first_of (x ∷ xs) = x ∷ []

abbrev pub others_of : {X : Type 0} → List X → List X
others_of [] = []
others_of (x ∷ xs) = xs

abbrev pub one_pass : RingView → RingView
one_pass v = knows v.floor v.passes v.capacity (first_of v.own) []

abbrev pub other_passes : RingView → RingView
other_passes v = knows v.floor v.passes v.capacity (others_of v.own) []

-- the passes of both, the second one's first
abbrev pub joined : RingView → RingView → RingView
joined v w = knows v.floor v.passes v.capacity (w.own ++ v.own) []

abbrev pub spent : RingView
spent = knows 0 0 0 [] []

abbrev pub one_count : FreeView → FreeView
one_count v = counts v.passes v.made (first_of v.own)

abbrev pub other_counts : FreeView → FreeView
other_counts v = counts v.passes v.made (others_of v.own)

abbrev pub joined_counts : FreeView → FreeView → FreeView
joined_counts v w = counts v.passes v.made (w.own ++ v.own)

abbrev pub spent_count : FreeView
spent_count = counts 0 0 []
