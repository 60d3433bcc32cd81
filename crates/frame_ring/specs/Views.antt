-- What passes know, and what is counted over them.
use Rattle.std.specs.Prelude.{◌≡◌, ℕ, zero, suc, ◌+◌, Bool, true, cond, ◌==◌, List, [], ◌∷◌, ◌++◌}
use Rattle.std.specs.List.{flat_map, sum_by}
use mathlib.Core.Option.{some}
use lib.ListN.{get_elem?}
use Rattle.frame_ring.specs.Frame.{Frame}
use Rattle.frame_ring.specs.declared.view.PassFrames.{PassFrames}
use Rattle.frame_ring.specs.declared.view.PassCounts.{PassCounts}
use Rattle.frame_ring.specs.declared.view.Stage.TheVariants as stage
use Rattle.frame_ring.specs.declared.view.RingView.{RingView}
use Rattle.frame_ring.specs.declared.view.FreeView.{FreeView}

-- P holds of each element
abbrev pub Each : {X : Type 0} → (X → Type 0) → List X → Type 0
Each P [] = Unit {0}
Each P (x ∷ xs) = P x × Each P xs

-- P holds of what each pass knows
abbrev pub EachView : {V : Type 0} → (V → Type 0) → List V → Type 0
EachView {V} P views = (pass : ℕ) (v : V) → get_elem? views pass ≡ some v → P v

-- f of each, added up
abbrev pub total : {V : Type 0} → (V → ℕ) → List V → ℕ
total f [] = 0
total f (v ∷ vs) = f v + total f vs

abbrev pub pass_frames : ℕ → List Frame → List Frame → PassFrames
pass_frames number offered grabbed = record { number = number; offered = offered; grabbed = grabbed }

abbrev pub pass_counts : ℕ → ℕ → ℕ → PassCounts
pass_counts number taken given = record { number = number; taken = taken; given = given }

-- what a pass of an open ring knows
abbrev pub knows : ℕ → ℕ → ℕ → List PassFrames → List Frame → RingView
knows floor passes capacity own drained = record { stage = stage.Running; floor = floor; passes = passes; capacity = capacity; own = own; drained = drained }

-- what a pass of an open free queue knows
abbrev pub counts : ℕ → ℕ → List PassCounts → FreeView
counts passes made own = record { complete = true; passes = passes; made = made; own = own }

-- `count` passes from a number on, which have done nothing
abbrev pub idle_frames : ℕ → ℕ → List PassFrames
idle_frames number zero = []
idle_frames number (suc count) = pass_frames number [] [] ∷ idle_frames (number + 1) count

abbrev pub idle_counts : ℕ → ℕ → List PassCounts
idle_counts number zero = []
idle_counts number (suc count) = pass_counts number 0 0 ∷ idle_counts (number + 1) count

abbrev pub one_if : Bool → ℕ
one_if b = cond b 1 0

-- how often the number stands among the passes
abbrev pub times : ℕ → List PassFrames → ℕ
times number [] = 0
times number (p ∷ ps) = one_if (p.number == number) + times number ps

-- the frames that the passes offered, pass by pass
abbrev pub all_offered : List PassFrames → List Frame
all_offered own = flat_map (λ p. p.offered) own

abbrev pub all_grabbed : List PassFrames → List Frame
all_grabbed own = flat_map (λ p. p.grabbed) own

-- the buffers that the passes took free
abbrev pub all_taken : List PassCounts → ℕ
all_taken own = sum_by (λ p. p.taken) own

abbrev pub all_given : List PassCounts → ℕ
all_given own = sum_by (λ p. p.given) own

-- the frames that came out of the ring, grabbed or drained
abbrev pub came_out : RingView → List Frame
came_out v = all_grabbed v.own ++ v.drained
