-- A ring and its passes: between two calls, new, and at the end.
use Rattle.std.specs.Prelude.{◌≡◌, ℕ, ◌+◌, ◌<◌, ◌==◌, List, [], ◌∷◌, ◌++◌, length, map, All, Contains, Some, None}
use Rattle.std.specs.List.{sum_by, count_by}
use Rattle.std.specs.List.Sorted.{IsPermutation}
use Rattle.crossbeam_queue.specs.Fifo.{Held}
use Rattle.crossbeam_queue.specs.Passes.{view, ruled_capacity}
use Rattle.crossbeam_queue.specs.Passes as queue
use Rattle.frame_ring.specs.Frame.{Frame}
use Rattle.frame_ring.specs.Rows.{IsRow}
use Rattle.frame_ring.specs.declared.pass.RingPass.{RingPass}
use Rattle.frame_ring.specs.declared.pass.Gathered.{Gathered}
use Rattle.frame_ring.specs.declared.pass.RingPasses.{RingPasses}
use Rattle.frame_ring.specs.declared.ring.FrameRing.{FrameRing}
use Rattle.frame_ring.specs.Views.{knows, counts}
use Rattle.frame_ring.specs.RingRule.{RingMoment}
use Rattle.frame_ring.specs.FreeRule.{FreeMoment}
use Rattle.frame_ring.specs.Passes.{offered, grabbed, taken, given, frames_of, counts_of, passes_in, gathered, frames_in, counts_in, drained_in, offered_in, grabbed_in, taken_in, given_in, left_in}

-- the number above which all its frames' numbers are
abbrev pub floor_of : FrameRing → ℕ
floor_of r = r.floor

-- how many passes it was made with
abbrev pub passes_of : FrameRing → ℕ
passes_of r = r.passes

-- how many frames it has room for
abbrev pub capacity_of : FrameRing → ℕ
capacity_of r = ruled_capacity r.ring

-- how many buffers it was made with; the free queue has room for just these
abbrev pub buffers_of : FrameRing → ℕ
buffers_of r = ruled_capacity r.free

-- A pass of this ring
abbrev pub IsPassOf : FrameRing → RingPass → Type 0
IsPassOf r p =
    queue.IsPassOf r.ring p.ring × queue.IsPassOf r.free p.free
    × (view p.ring ≡ knows (floor_of r) (passes_of r) (capacity_of r) (frames_of p ∷ []) [])
    × (view p.free ≡ counts (passes_of r) (buffers_of r) (counts_of p ∷ []))
    × (0 < passes_of r)

-- A pass that has done nothing
abbrev pub IsFresh : RingPass → Type 0
IsFresh p = (offered p ≡ []) × (grabbed p ≡ []) × (taken p ≡ 0) × (given p ≡ 0)

-- All passes of the ring
abbrev pub AreAllOf : FrameRing → RingPasses → Type 0
AreAllOf r list = (gathered list ≡ None) × (length (passes_in list) ≡ passes_of r) × All (IsPassOf r) (passes_in list) × (0 < passes_of r)

abbrev pub IsGatheredOf : FrameRing → RingPasses → Gathered → Type 0
IsGatheredOf r list all =
    queue.IsPassOf r.ring all.ring × queue.IsPassOf r.free all.free
    × (view all.ring ≡ knows (floor_of r) (passes_of r) (capacity_of r) (frames_in list) (drained_in list))
    × (view all.free ≡ counts (passes_of r) (buffers_of r) (counts_in list))
    × (length (frames_in list) ≡ passes_of r) × (length (counts_in list) ≡ passes_of r) × (0 < passes_of r)

-- A list of all passes that was handed to an earlier `drain` of this ring
abbrev pub WasDrained : FrameRing → RingPasses → Type 0
WasDrained r list = (all : Gathered) × (gathered list ≡ Some all) × IsGatheredOf r list all

-- At some moment, when the pass had this account, so many frames were in the ring
abbrev pub RingHeld : RingPass → ℕ → Type 0
RingHeld p n = Held n (RingMoment (view p.ring))

-- and so many buffers were free
abbrev pub FreeHeld : RingPass → ℕ → Type 0
FreeHeld p n = Held n (FreeMoment (view p.free))

-- These buffers are free, at a moment at which the passes had the account of the list
abbrev pub AreFree : FrameRing → RingPasses → List Frame → Type 0
AreFree r list frames = FreeMoment (counts (passes_of r) (buffers_of r) (counts_in list)) frames

-- Each frame that was offered was grabbed or drained, or is left, just as often, and nothing else was
abbrev pub IsWhole : RingPasses → Type 0
IsWhole list = (h : Frame → ℕ) → sum_by h (offered_in list) ≡ sum_by h (grabbed_in list ++ drained_in list ++ left_in list)

-- how often a frame of this number stands in the list
abbrev pub count_of : ℕ → List Frame → ℕ
count_of number frames = count_by (λ f. f.number == number) frames

-- Each number that was offered was grabbed or drained, or is left, just once
abbrev pub IsOnce : RingPasses → Type 0
IsOnce list = (number : ℕ) → Contains (map (λ f. f.number) (offered_in list)) number → count_of number (grabbed_in list ++ drained_in list ++ left_in list) ≡ 1

-- The same where none is left: what was offered is what was grabbed and drained, in another order
pub record IsSettled (list : RingPasses) : Type 0 where
  pub whole : (h : Frame → ℕ) → sum_by h (offered_in list) ≡ sum_by h (grabbed_in list ++ drained_in list)
  pub once : (number : ℕ) → Contains (map (λ f. f.number) (offered_in list)) number → count_of number (grabbed_in list ++ drained_in list) ≡ 1
  pub permuted : IsPermutation (offered_in list) (grabbed_in list ++ drained_in list)

-- Numbers rise above the ring's floor, of what was offered, and of what each pass grabbed with what was drained behind it
pub record AreRows (r : FrameRing) (list : RingPasses) : Type 0 where
  pub offered_rise : IsRow (floor_of r) (offered_in list)
  pub grabbed_rise : All (λ p. IsRow (floor_of r) (p.grabbed ++ drained_in list)) (frames_in list)

-- The buffers free, in the ring, taken free, grabbed and drained are together as many as those made, offered and given back
pub record IsBalanced (r : FrameRing) (list : RingPasses) : Type 0 where
  pub free : List Frame
  pub are_free : AreFree r list free
  pub sum : length free + length (left_in list) + taken_in list + length (grabbed_in list) + length (drained_in list) ≡ buffers_of r + length (offered_in list) + given_in list
