-- The rule of the free queue: a sum.
use Rattle.std.specs.Prelude.{◌≡◌, ◌⊎◌, ℕ, ◌+◌, ◌<◌, true, false, List, [], ◌∷◌, length}
use mathlib.Core.Option.{some}
use lib.ListN.{get_elem?}
use Rattle.frame_ring.specs.Frame.{Frame}
use Rattle.frame_ring.specs.declared.view.FreeView.{FreeView}
use Rattle.frame_ring.specs.Views.{EachView, total, counts, idle_counts, all_taken, all_given}

-- what the first pass knows while it fills the queue: n buffers were made
abbrev pub filling : ℕ → FreeView
filling n = record { complete = false; passes = 0; made = n; own = [] }

-- what it knows once the last buffer, the marker, is in: it carries all passes
abbrev pub filled : ℕ → Frame → FreeView
filled n f = counts f.seconds n (idle_counts 0 f.seconds)

pub record FitsCount (passes made : ℕ) (v : FreeView) : Type 0 where
  pub complete : v.complete ≡ true
  pub alive : 0 < length v.own → (v.passes ≡ passes) × (v.made ≡ made)

pub record Counted (items : List Frame) (views : List FreeView) : Type 0 where
  pub passes : ℕ
  pub made : ℕ
  pub places : total (λ v. length v.own) views ≡ passes
  -- what was made and given back is what was taken and what is there
  pub sum : made + total (λ v. all_given v.own) views ≡ total (λ v. all_taken v.own) views + length items
  pub fits : EachView (FitsCount passes made) views

abbrev pub IsFilling : List Frame → List FreeView → Type 0
IsFilling items views = (n : ℕ) × (length items ≡ n) × (views ≡ filling n ∷ [])

abbrev pub FreeRule : List Frame → List FreeView → Type 0
FreeRule items views = IsFilling items views ⊎ Counted items views

-- At some moment, when a pass knew v, these buffers were free
abbrev pub FreeMoment : FreeView → List Frame → Type 0
FreeMoment v items = (views : List FreeView) × ((pass : ℕ) × (get_elem? views pass ≡ some v)) × FreeRule items views
