-- The passes are joined, and what is left is drained.
use Rattle.std.proofs.Common.{◌≡◌, ◌≢◌, ◌↔◌, ℕ, zero, suc, ◌+◌, ◌<◌, ◌≤◌, ◌==◌, cond, List, [], ◌∷◌, ◌++◌, length, map, drop, All, Option, None, Some, IsNone, IfSome, MatchOption, option_to_list, slice_index_or, set, sym, refl, ap, ◌∙◌, subst, subst₂, append_assoc, append-nil, length-append, eq-eqb, ne_eqb, arith}
use Rattle.std.specs.Prelude.{Contains}
use Rattle.std.specs.List.{sum_by}
use Rattle.std.proofs.lemmas.List.{map-append}
use Rattle.std.proofs.lemmas.List.Sums.{sum_by-append, sum_by-cons}
use Rattle.std.proofs.lemmas.List.Elements.{All-pop, All-nil, All-cons}
use mathlib.Core.Option.{some, some-ne-none}
use lib.ListN.{get_elem?}
use native.Mathlib.Decide.{ℕ_discrete}
use Rattle.crossbeam_queue.specs.Passes.{view}
use Rattle.crossbeam_queue.specs.Fifo.{Pops, Merges, Held}
use Rattle.crossbeam_queue.proofs.Lists.{set_here}
use Rattle.frame_ring.specs.Frame.{Frame}
use Rattle.frame_ring.specs.declared.pass.Gathered.{Gathered}
use Rattle.frame_ring.specs.declared.pass.RingPasses.{RingPasses}
use Rattle.frame_ring.specs.declared.ring.FrameRing.{FrameRing}
use Rattle.frame_ring.specs.declared.view.PassFrames.{PassFrames}
use Rattle.frame_ring.specs.declared.view.PassCounts.{PassCounts}
use Rattle.frame_ring.specs.declared.view.RingView.{RingView}
use Rattle.frame_ring.specs.declared.view.FreeView.{FreeView}
use Rattle.frame_ring.specs.Views.{Each, one_if, knows, counts, all_offered, all_grabbed, all_taken, all_given}
use Rattle.frame_ring.specs.Rows.{IsRow}
use Rattle.frame_ring.specs.RingRule.{RingRule, RingMoment}
use Rattle.frame_ring.specs.FreeRule.{FreeRule, FreeMoment}
use Rattle.frame_ring.specs.Steps.{with_drain, Drains, joined, spent, joined_counts, spent_count}
use Rattle.frame_ring.specs.Passes.{frames_in, drained_in}
use Rattle.frame_ring.specs.Rings.{floor_of, passes_of, capacity_of, IsGatheredOf, count_of}
use Rattle.frame_ring.proofs.Lists.{nothing}
use Rattle.frame_ring.proofs.Rows.{row_front, row_behind, row_above}
use Rattle.frame_ring.proofs.RingSteps.{drains}
use Rattle.frame_ring.proofs.RingCuts as cuts
use Rattle.frame_ring.proofs.RingFacts.{Told, tells, left_is, counted}
use Rattle.frame_ring.proofs.FreeSteps as free

pub merges_from : (i j fl pa ca : ℕ) (ps : List PassFrames) (fl' pa' ca' : ℕ) (qs : List PassFrames) (v w : RingView) → v ≡ knows fl pa ca ps [] → w ≡ knows fl' pa' ca' qs [] → 0 < length ps → Merges RingRule i v j w (joined v w) spent
merges_from i j fl pa ca ps fl' pa' ca' qs v w e d some_own = subst₂ (λ u x. Merges RingRule i u j x (joined u x) spent) (sym e) (sym d) (cuts.merges i j fl pa ca ps fl' pa' ca' qs some_own)

pub count_merges_from : (i j pa made : ℕ) (ps : List PassCounts) (pa' made' : ℕ) (qs : List PassCounts) (v w : FreeView) → v ≡ counts pa made ps → w ≡ counts pa' made' qs → 0 < length ps → Merges FreeRule i v j w (joined_counts v w) spent_count
count_merges_from i j pa made ps pa' made' qs v w e d some_own = subst₂ (λ u x. Merges FreeRule i u j x (joined_counts u x) spent_count) (sym e) (sym d) (free.merges i j pa made ps pa' made' qs some_own)

pub drains_from : (i fl pa ca : ℕ) (own : List PassFrames) (drained : List Frame) (v : RingView) → v ≡ knows fl pa ca own drained → 0 < length own → Pops RingRule i v (Drains v)
drains_from i fl pa ca own drained v e some_own = let P : RingView → Type 0 = λ u. Pops RingRule i u (Drains u) in subst P (sym e) (drains i fl pa ca own drained some_own)

-- the last pass of a list
pub of_last : {X : Type 0} (P : X → Type 0) (items rest : List X) (r : Option X) (s : X) → items ≡ rest ++ option_to_list r → r ≡ Some s → All P items → All P rest × P s
of_last P items rest r s e is all = All-pop P items rest (Some s) (e ∙ ap (λ o. rest ++ option_to_list o) is) all

pub map_of_last : {X Y : Type 0} (f : X → Y) (items rest : List X) (r : Option X) (s : X) (own : List Y) → items ≡ rest ++ option_to_list r → r ≡ Some s → map f rest ++ (f s ∷ own) ≡ map f items ++ own
map_of_last f items rest r s own e is =
    let whole : map f items ≡ map f rest ++ f s ∷ [] = ap (map f) (e ∙ ap (λ o. rest ++ option_to_list o) is) ∙ map-append f rest (s ∷ []) in
    sym (append_assoc (map f rest) (f s ∷ []) own) ∙ ap (λ l. l ++ own) (sym whole)

-- where nothing was left nothing is
pub none_left : (r : Option Frame) (before after : List Frame) → before ≡ option_to_list r ++ after → before ≡ [] → after ≡ []
none_left None before after e none = sym e ∙ none
none_left (Some x) before after e none = let no_frame : x ∷ after ≡ [] = sym e ∙ none in cc

-- what is left, out of the account
abbrev pub left_of : List PassFrames → List Frame → List Frame
left_of own drained = drop (length (all_grabbed own ++ drained)) (all_offered own)

pub left_now : (fl pa ca : ℕ) (own : List PassFrames) (drained items : List Frame) (v : RingView) → v ≡ knows fl pa ca own drained → 0 < pa → length own ≡ pa → RingMoment v items → left_of own drained ≡ items
left_now fl pa ca own drained items v e some_pass all moment = left_is fl own drained items (tells fl pa ca own drained items some_pass all (subst (λ u. RingMoment u items) e moment))

drop_next : {X : Type 0} (n : ℕ) (xs : List X) (x : X) (rest : List X) → drop n xs ≡ x ∷ rest → drop (suc n) xs ≡ rest
drop_next zero xs x rest e = ap (drop 1) e
drop_next (suc n) [] x rest e = cc
drop_next (suc n) (y ∷ ys) x rest e = drop_next n ys x rest e

at_within : {V : Type 0} (views : List V) (i : ℕ) (v : V) → get_elem? views i ≡ some v → i < length views
at_within [] i v e = absurd (some-ne-none v (sym e))
at_within (x ∷ xs) zero v e = omega arith
at_within (x ∷ xs) (suc i) v e = let h = at_within xs i v e in omega arith

-- the moment behind a drain
drained_moment : (fl pa ca : ℕ) (own : List PassFrames) (before : List Frame) (x : Frame) (rest : List Frame) → 0 < length own → RingMoment (knows fl pa ca own before) (x ∷ rest) → RingMoment (knows fl pa ca own (before ++ x ∷ [])) rest
drained_moment fl pa ca own before x rest some_own moment =
    let views = moment.0 in
    let i = moment.1.0 in
    let v = knows fl pa ca own before in
    let next = drains i fl pa ca own before some_own x rest views moment.2 moment.1.1 in
    subst (λ u. RingMoment u rest) next.2.0 (set views i next.0, (i, set_here views i next.0 (at_within views i v moment.1.1)), next.1)

-- what a drain tells, whichever answer it gave
pub record Drained (fl : ℕ) (own : List PassFrames) (before : List Frame) (r : Option Frame) (w : RingView) : Type 0 where
  pub left : left_of own before ≡ option_to_list r ++ left_of w.own w.drained
  pub none : IsNone r ↔ (left_of own before ≡ [])
  pub above : IfSome r (λ x. fl < x.number)
  pub short : IfSome r (λ x. x.len ≤ 262144)
  pub told : Told fl w.own w.drained (left_of w.own w.drained)

pub drained_as : (fl pa ca : ℕ) (own : List PassFrames) (before : List Frame) (v w : RingView) (r : Option Frame) → v ≡ knows fl pa ca own before → 0 < pa → length own ≡ pa → MatchOption r ((w ≡ v) × Held 0 (RingMoment v)) (λ x. Drains v x w)
    → Drained fl own before r w
drained_as fl pa ca own before v w None e some_pass all told =
    let none = nothing told.1.0 told.1.1 in
    let moment : RingMoment (knows fl pa ca own before) [] = subst₂ RingMoment e none told.1.2 in
    let t = tells fl pa ca own before [] some_pass all moment in
    let left = left_is fl own before [] t in
    let now : w ≡ knows fl pa ca own before = told.0 ∙ e in
    subst (Drained fl own before None) (sym now) (record { left = refl; none = ((λ _. left), λ _. refl); above = tt; short = tt; told = subst (Told fl own before) (sym left) t })
drained_as fl pa ca own before v w (Some x) e some_pass all told =
    let rest = told.1.0 in
    let after = before ++ x ∷ [] in
    let now : w ≡ knows fl pa ca own after = told.0 ∙ ap (with_drain x) e in
    let moment : RingMoment (knows fl pa ca own before) (x ∷ rest) = subst (λ u. RingMoment u (x ∷ rest)) e told.1.1 in
    let t = tells fl pa ca own before (x ∷ rest) some_pass all moment in
    let left = left_is fl own before (x ∷ rest) t in
    let next = tells fl pa ca own after rest some_pass all (drained_moment fl pa ca own before x rest (omega arith) moment) in
    let left_after = left_is fl own after rest next in
    let oldest = row_behind fl t.popped (x ∷ rest) t.row in
    let low = row_above fl t.popped (row_front fl t.popped (x ∷ rest) t.row) in
    subst (Drained fl own before (Some x)) (sym now)
    (record {
      left = left ∙ ap (λ l. x ∷ l) (sym left_after);
      none = ((λ never. cc), λ none. let no_frame : x ∷ rest ≡ [] = sym left ∙ none in cc);
      above = omega (arith, oldest.0);
      short = oldest.1;
      told = subst (Told fl own after) (sym left_after) next;
    })

pub drained_by : (r : FrameRing) (list : RingPasses) (all : Gathered) (w : RingView) (o : Option Frame) → IsGatheredOf r list all → MatchOption o ((w ≡ view all.ring) × Held 0 (RingMoment (view all.ring))) (λ x. Drains (view all.ring) x w)
    → Drained (floor_of r) (frames_in list) (drained_in list) o w
drained_by r list all w o joined told = drained_as (floor_of r) (passes_of r) (capacity_of r) (frames_in list) (drained_in list) (view all.ring) w o joined.2 joined.6 joined.4 told

-- a number stands in a row at most once
above_none : (n m : ℕ) (xs : List Frame) → IsRow n xs → m ≤ n → count_of m xs ≡ 0
above_none n m [] row le = refl
above_none n m (x ∷ xs) row le =
    let lt = row.0 in
    let t : one_if (x.number == m) ≡ 0 = ap one_if (ne_eqb x.number m (λ e. absurd (omega arith))) in
    let c = sum_by-cons (λ (f : Frame). cond (f.number == m) 1 0) x xs in
    let h = above_none x.number m xs row.2 (omega arith) in
    omega arith

contains_later : (n m : ℕ) (ns : List ℕ) → n ≢ m → Contains (n ∷ ns) m → Contains ns m
contains_later n m ns ne there = elim there.0 as (λ k. k < length (n ∷ ns) → slice_index_or (n ∷ ns) k m ≡ m → Contains ns m) [
  | zero ↦ λ lt e. absurd (ne e)
  | suc k ↦ λ lt e. (k, omega arith, e)
] there.1 there.2

pub row_once : (n m : ℕ) (xs : List Frame) → IsRow n xs → Contains (map (λ (f : Frame). f.number) xs) m → count_of m xs ≡ 1
row_once n m [] row there = absurd (let lt = there.1 in omega arith)
row_once n m (x ∷ xs) row there = elim (ℕ_discrete x.number m) [
  | yes e ↦
      let t : one_if (x.number == m) ≡ 1 = ap one_if (eq-eqb x.number m e) in
      let c = sum_by-cons (λ (f : Frame). cond (f.number == m) 1 0) x xs in
      let h = above_none x.number m xs row.2 (omega arith) in
      omega arith
  | no ne ↦
      let t : one_if (x.number == m) ≡ 0 = ap one_if (ne_eqb x.number m ne) in
      let c = sum_by-cons (λ (f : Frame). cond (f.number == m) 1 0) x xs in
      let h = row_once x.number m xs row.2 (contains_later x.number m (map (λ (f : Frame). f.number) xs) ne there) in
      omega arith
]

each_all : {X : Type 0} (P : X → Type 0) (xs : List X) → Each P xs → All P xs
each_all P [] h = All-nil P
each_all P (x ∷ xs) h = All-cons P x xs h.0 (each_all P xs h.1)

module _ (fl : ℕ) (own : List PassFrames) (drained items : List Frame) (t : Told fl own drained items) where
  pub whole : (h : Frame → ℕ) → sum_by h (all_offered own) ≡ sum_by h (all_grabbed own ++ drained ++ items)
  whole h =
      let a = ap (sum_by h) t.offered in
      let b = sum_by-append h t.popped items in
      let c = t.whole h in
      let d = sum_by-append h (all_grabbed own ++ drained) items in
      omega arith

  pub once : (m : ℕ) → Contains (map (λ (f : Frame). f.number) (all_offered own)) m → count_of m (all_grabbed own ++ drained ++ items) ≡ 1
  once m there =
      let row : IsRow fl (all_offered own) = subst (IsRow fl) (sym t.offered) t.row in
      sym (whole (λ (f : Frame). cond (f.number == m) 1 0)) ∙ row_once fl m (all_offered own) row there

  pub settled : items ≡ [] → ((h : Frame → ℕ) → sum_by h (all_offered own) ≡ sum_by h (all_grabbed own ++ drained)) × ((m : ℕ) → Contains (map (λ (f : Frame). f.number) (all_offered own)) m → count_of m (all_grabbed own ++ drained) ≡ 1)
  settled none =
      let shorter : all_grabbed own ++ drained ++ items ≡ all_grabbed own ++ drained = ap (λ l. all_grabbed own ++ drained ++ l) none ∙ append-nil (all_grabbed own ++ drained) in
      ((λ h. whole h ∙ ap (sum_by h) shorter), λ m there. ap (count_of m) (sym shorter) ∙ once m there)

  pub rows : IsRow fl (all_offered own) × All (λ p. IsRow fl (p.grabbed ++ drained)) own
  rows = (subst (IsRow fl) (sym t.offered) t.row, each_all (λ p. IsRow fl (p.grabbed ++ drained)) own t.rows)

  pub lengths : length (all_offered own) ≡ length (all_grabbed own) + length drained + length items
  lengths =
      let a = counted (all_offered own) in
      let b = counted (all_grabbed own ++ drained ++ items) in
      let c = whole (λ (f : Frame). 1) in
      let d = length-append (all_grabbed own ++ drained) items in
      let e = length-append (all_grabbed own) drained in
      omega arith

-- the buffers add up
pub balanced : (fl pa made : ℕ) (tally : List PassCounts) (v : FreeView) (own : List PassFrames) (drained left : List Frame) → v ≡ counts pa made tally → 0 < pa → length tally ≡ pa → (items : List Frame) × FreeMoment v items → Told fl own drained left
    → (items : List Frame) × FreeMoment (counts pa made v.own) items × (length items + length left + all_taken v.own + length (all_grabbed own) + length drained ≡ made + length (all_offered own) + all_given v.own)
balanced fl pa made tally v own drained left e some_pass all held t =
    let same : v ≡ counts pa made v.own = e ∙ ap (λ (u : FreeView). counts pa made u.own) (sym e) in
    let moment : FreeMoment (counts pa made v.own) held.0 = subst (λ u. FreeMoment u held.0) same held.1 in
    let s = free.free_sum pa made v.own held.0 some_pass (ap (λ (u : FreeView). length u.own) e ∙ all) moment in
    let l = lengths fl own drained left t in
    (held.0, moment, omega arith)
