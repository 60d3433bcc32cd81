-- The rule of the ring's queue: what it holds and what the passes know.
use Rattle.std.specs.Prelude.{◌≡◌, ◌≢◌, ◌⊎◌, ℕ, ◌<◌, ◌≤◌, List, [], ◌∷◌, ◌++◌, length}
use Rattle.std.specs.List.{sum_by}
use mathlib.Core.Option.{some}
use lib.ListN.{get_elem?}
use Rattle.frame_ring.specs.Frame.{Frame}
use Rattle.frame_ring.specs.declared.view.PassFrames.{PassFrames}
use Rattle.frame_ring.specs.declared.view.Stage.TheVariants as stage
use Rattle.frame_ring.specs.declared.view.RingView.{RingView}
use Rattle.frame_ring.specs.Views.{Each, EachView, total, knows, times, idle_frames, came_out}
use Rattle.frame_ring.specs.Rows.{IsRow, last_of}

-- what the first pass knows of a new queue
abbrev pub empty_ring : RingView
empty_ring = record { stage = stage.Empty; floor = 0; passes = 0; capacity = 0; own = []; drained = [] }

-- what it knows while the marker is in the queue
abbrev pub marked : Frame → RingView
marked f = record { stage = stage.Marked; floor = f.number; passes = f.seconds; capacity = f.wire_len; own = []; drained = [] }

-- what it knows once the marker has come out: it carries all passes
abbrev pub begun : Frame → RingView
begun f = knows f.number f.seconds f.wire_len (idle_frames 0 f.seconds) []

-- One pass, where these frames were popped, the ring holds these items, and these were drained behind what it grabbed
pub record Fits (floor : ℕ) (popped items drained : List Frame) (p : PassFrames) : Type 0 where
  pub offers : p.number ≡ 0 → p.offered ≡ popped ++ items
  pub offers_not : p.number ≢ 0 → p.offered ≡ []
  pub row : IsRow floor (p.grabbed ++ drained)
  pub behind : last_of floor (p.grabbed ++ drained) ≤ last_of floor popped

-- What is known fits the ring; a view without passes knows nothing
pub record FitsView (floor passes capacity : ℕ) (popped items : List Frame) (v : RingView) : Type 0 where
  pub running : v.stage ≡ stage.Running
  pub alive : 0 < length v.own → (v.floor ≡ floor) × (v.passes ≡ passes) × (v.capacity ≡ capacity)
  pub own : Each (Fits floor popped items v.drained) v.own
  pub idle : length v.own ≡ 0 → v.drained ≡ []

pub record Kept (items : List Frame) (views : List RingView) : Type 0 where
  pub floor : ℕ
  pub passes : ℕ
  pub capacity : ℕ
  -- the frames that came out, in the order in which they did
  pub popped : List Frame
  pub row : IsRow floor (popped ++ items)
  pub places : total (λ v. length v.own) views ≡ passes
  -- one pass has the number 0
  pub first : total (λ v. times 0 v.own) views ≡ 1
  -- what came out is what the passes grabbed and drained
  pub whole : (h : Frame → ℕ) → total (λ v. sum_by h (came_out v)) views ≡ sum_by h popped
  pub fits : EachView (FitsView floor passes capacity popped items) views

abbrev pub IsEmptyRing : List Frame → List RingView → Type 0
IsEmptyRing items views = (items ≡ []) × (views ≡ empty_ring ∷ [])

abbrev pub IsMarked : List Frame → List RingView → Type 0
IsMarked items views = (f : Frame) × (items ≡ f ∷ []) × (views ≡ marked f ∷ [])

abbrev pub RingRule : List Frame → List RingView → Type 0
RingRule items views = (IsEmptyRing items views ⊎ IsMarked items views) ⊎ Kept items views

-- At some moment, when a pass knew v, the ring held these frames
abbrev pub RingMoment : RingView → List Frame → Type 0
RingMoment v items = (views : List RingView) × ((pass : ℕ) × (get_elem? views pass ≡ some v)) × RingRule items views
