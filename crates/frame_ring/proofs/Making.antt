-- How a ring is made: the marker, the buffers, and the passes that are cut off.
use Rattle.std.proofs.Common.{◌≡◌, ℕ, zero, suc, ◌+◌, ◌-◌, ◌<◌, ◌≤◌, List, [], ◌∷◌, ◌++◌, length, map, All, Option, None, Some, IsSome, Result, Ok, Err, IsOk, MatchOption, MatchResult, sym, refl, ap, ◌∙◌, subst, subst₂, ⊎_elim, add-zero, zero-add, add-one, arith}
use Rattle.std.specs.Prelude.{⊤}
use Rattle.std.specs.List.{range_with_len}
use Rattle.std.proofs.lemmas.List.{map-append}
use lib.ListN.{get_elem?}
use Rattle.crossbeam_queue.specs.Fifo.{Pushes, Pops, Forks, Held}
use Rattle.crossbeam_queue.specs.Passes.{view}
use Rattle.crossbeam_queue.specs.Passes as queue
use Rattle.frame_ring.specs.Frame.{Frame}
use Rattle.frame_ring.specs.declared.view.PassFrames.{PassFrames}
use Rattle.frame_ring.specs.declared.view.PassCounts.{PassCounts}
use Rattle.frame_ring.specs.declared.view.RingView.{RingView}
use Rattle.frame_ring.specs.declared.view.FreeView.{FreeView}
use Rattle.frame_ring.specs.declared.pass.RingPass.{RingPass}
use Rattle.frame_ring.specs.declared.pass.RingPasses.{RingPasses}
use Rattle.frame_ring.specs.declared.ring.FrameRing.{FrameRing}
use Rattle.frame_ring.specs.Views.{pass_frames, pass_counts, knows, counts, idle_frames, idle_counts}
use Rattle.frame_ring.specs.RingRule.{empty_ring, marked, begun, RingRule, RingMoment}
use Rattle.frame_ring.specs.FreeRule.{filling, FreeRule, FreeMoment}
use Rattle.frame_ring.specs.Steps.{Marks, Unmarks, Fills, FillsLast, one_pass, other_passes, one_count, other_counts}
use Rattle.frame_ring.specs.Passes.{number_of, passes_in, gathered, offered, grabbed, taken, given, first_offered, first_grabbed, first_taken, first_given}
use Rattle.frame_ring.specs.Rings.{floor_of, passes_of, capacity_of, buffers_of, IsPassOf, IsFresh, AreAllOf}
use Rattle.frame_ring.proofs.Lists.{only, nothing}
use Rattle.frame_ring.proofs.RingSteps.{marks, unmarks}
use Rattle.frame_ring.proofs.RingCuts as cuts
use Rattle.frame_ring.proofs.FreeSteps as free

pub fills_from : (n i made : ℕ) (x : Frame) (v : FreeView) → v ≡ filling made → Pushes FreeRule n i v x (Fills v x)
fills_from n i made x v e = let P : FreeView → Type 0 = λ u. Pushes FreeRule n i u x (Fills u x) in subst P (sym e) (free.fills n i made x)

pub fills_last_from : (n i made : ℕ) (x : Frame) (v : FreeView) → v ≡ filling made → Pushes FreeRule n i v x (FillsLast v x)
fills_last_from n i made x v e = let P : FreeView → Type 0 = λ u. Pushes FreeRule n i u x (FillsLast u x) in subst P (sym e) (free.fills_last n i made x)

-- while the queue is filled a push finds room
pub fill_is_ok : (n made : ℕ) (v : FreeView) (x : Frame) (P : Type 0) (r : Result ⊤ Frame) → v ≡ filling made → made < n → (w : FreeView) → MatchResult r (λ _. P) (λ y. (y ≡ x) × (w ≡ v) × Held n (FreeMoment v)) → IsOk r
fill_is_ok n made v x P (Ok u) e room w told = refl
fill_is_ok n made v x P (Err y) e room w told =
    let moment = subst (λ u. FreeMoment u told.2.0) e told.2.2 in
    let m = free.is_filling told.2.0 moment.0 moment.1.0 made moment.1.1 moment.2 in
    absurd (omega (arith, told.2.1, m.0))

pub marks_from : (n i : ℕ) (x : Frame) (v : RingView) → v ≡ empty_ring → Pushes RingRule n i v x (Marks v x)
marks_from n i x v e = let P : RingView → Type 0 = λ u. Pushes RingRule n i u x (Marks u x) in subst P (sym e) (marks n i x)

pub unmarks_from : (i : ℕ) (x : Frame) (v : RingView) → v ≡ marked x → 1 ≤ x.seconds → Pops RingRule i v (Unmarks v)
unmarks_from i x v e some_pass = let P : RingView → Type 0 = λ u. Pops RingRule i u (Unmarks u) in subst P (sym e) (unmarks i x some_pass)

-- a new ring holds nothing
empty_now : (items : List Frame) → RingMoment empty_ring items → items ≡ []
empty_now items moment =
    let i = moment.1.0 in
    let at = moment.1.1 in
    ⊎_elim
    (λ early. ⊎_elim
    (λ e. e.0)
    (λ m. let same = ap (λ u. u.stage) (only (marked m.0) empty_ring i (ap (λ l. get_elem? l i) (sym m.2) ∙ at)) in cc)
    early)
    (λ k. let same = (k.fits i empty_ring at).running in cc)
    moment.2

-- and then the marker
marked_now : (x : Frame) → RingMoment (marked x) [] → ⊥
marked_now x moment =
    let i = moment.1.0 in
    let at = moment.1.1 in
    ⊎_elim
    (λ early. ⊎_elim
    (λ e. let same = ap (λ u. u.stage) (only empty_ring (marked x) i (ap (λ l. get_elem? l i) (sym e.1) ∙ at)) in cc)
    (λ m. cc m.1)
    early)
    (λ k. let same = (k.fits i (marked x) at).running in cc)
    moment.2

pub mark_is_ok : (n : ℕ) (v w : RingView) (x : Frame) (P : Type 0) (r : Result ⊤ Frame) → v ≡ empty_ring → 0 < n → MatchResult r (λ _. P) (λ y. (y ≡ x) × (w ≡ v) × Held n (RingMoment v)) → IsOk r
mark_is_ok n v w x P (Ok u) e room told = refl
mark_is_ok n v w x P (Err y) e room told =
    let none = ap length (empty_now told.2.0 (subst (λ u. RingMoment u told.2.0) e told.2.2)) in
    absurd (omega (arith, told.2.1))

pub unmark_is_some : (v w : RingView) (x : Frame) (Q : Frame → Type 0) (r : Option Frame) → v ≡ marked x → MatchOption r ((w ≡ v) × Held 0 (RingMoment v)) Q → IsSome r
unmark_is_some v w x Q (Some y) e told = refl
unmark_is_some v w x Q None e told =
    absurd (marked_now x (subst₂ (λ u l. RingMoment u l) e (nothing told.1.0 told.1.1) told.1.2))

pub forks_from : (i fl pa ca : ℕ) (p : PassFrames) (ps : List PassFrames) (v : RingView) → v ≡ knows fl pa ca (p ∷ ps) [] → Forks RingRule i v (one_pass v) (other_passes v)
forks_from i fl pa ca p ps v e = subst (λ u. Forks RingRule i u (one_pass u) (other_passes u)) (sym e) (cuts.forks i fl pa ca p ps)

pub count_forks_from : (i passes made : ℕ) (p : PassCounts) (ps : List PassCounts) (v : FreeView) → v ≡ counts passes made (p ∷ ps) → Forks FreeRule i v (one_count v) (other_counts v)
count_forks_from i passes made p ps v e = subst (λ u. Forks FreeRule i u (one_count u) (other_counts u)) (sym e) (free.forks i passes made p ps)

pub frames_more : (passes n : ℕ) → n < passes → idle_frames n (passes - n) ≡ pass_frames n [] [] ∷ idle_frames (n + 1) (passes - (n + 1))
frames_more passes n lt = let e : passes - n ≡ suc (passes - (n + 1)) = omega arith in ap (idle_frames n) e

pub counts_more : (passes n : ℕ) → n < passes → idle_counts n (passes - n) ≡ pass_counts n 0 0 ∷ idle_counts (n + 1) (passes - (n + 1))
counts_more passes n lt = let e : passes - n ≡ suc (passes - (n + 1)) = omega arith in ap (idle_counts n) e

-- a pass that was just cut off
pub fresh_pass : (r : FrameRing) (p : RingPass) → queue.IsPassOf r.ring p.ring → queue.IsPassOf r.free p.free → view p.ring ≡ knows (floor_of r) (passes_of r) (capacity_of r) (pass_frames p.number [] [] ∷ []) []
    → view p.free ≡ counts (passes_of r) (buffers_of r) (pass_counts p.number 0 0 ∷ []) → 0 < passes_of r → IsPassOf r p × IsFresh p
fresh_pass r p in_ring in_free frames tally some_pass =
    let no_offer : offered p ≡ [] = ap (λ v. first_offered v.own) frames in
    let no_grab : grabbed p ≡ [] = ap (λ v. first_grabbed v.own) frames in
    let no_take : taken p ≡ 0 = ap (λ v. first_taken v.own) tally in
    let no_gift : given p ≡ 0 = ap (λ v. first_given v.own) tally in (
      (
        in_ring,
        in_free,
        frames ∙ subst₂ (λ o g. knows (floor_of r) (passes_of r) (capacity_of r) (pass_frames p.number [] [] ∷ []) [] ≡ knows (floor_of r) (passes_of r) (capacity_of r) (pass_frames p.number o g ∷ []) []) (sym no_offer) (sym no_grab) refl,
        tally ∙ subst₂ (λ t g. counts (passes_of r) (buffers_of r) (pass_counts p.number 0 0 ∷ []) ≡ counts (passes_of r) (buffers_of r) (pass_counts p.number t g ∷ [])) (sym no_take) (sym no_gift) refl,
        some_pass,
      ),
      (no_offer, no_grab, no_take, no_gift),
    )

range_more : (a n : ℕ) → range_with_len a (suc n) ≡ range_with_len a n ++ (a + n) ∷ []
range_more a zero = ap (λ k. k ∷ []) (sym (add-zero a))
range_more a (suc n) = ap (λ l. a ∷ l) (range_more (a + 1) n ∙ ap (λ k. range_with_len (a + 1) n ++ k ∷ []) (omega arith))

-- the numbers from 0 on, with the next one behind them
pub numbers_next : (n m : ℕ) → n + 1 ≡ m → range_with_len 0 n ++ n ∷ [] ≡ range_with_len 0 m
numbers_next n m next = ap (λ k. range_with_len 0 n ++ k ∷ []) (sym (zero-add n)) ∙ sym (range_more 0 n) ∙ ap (range_with_len 0) (sym (add-one n) ∙ next)

-- the numbers of the passes go on
pub numbers_more : (items more : List RingPass) (p : RingPass) (n m : ℕ) → more ≡ items ++ p ∷ [] → map number_of items ≡ range_with_len 0 n → number_of p ≡ n → n + 1 ≡ m → map number_of more ≡ range_with_len 0 m
numbers_more items more p n m e was is next =
    ap (map number_of) e ∙ map-append number_of items (p ∷ []) ∙ ap (λ l. l ++ number_of p ∷ []) was ∙ ap (λ k. range_with_len 0 n ++ k ∷ []) is ∙ numbers_next n m next

-- what an answer tells, where it is known which one it was
pub ok_tells : (r : Result ⊤ Frame) (u : ⊤) (P : Type 0) (Q : Frame → Type 0) → r ≡ Ok u → MatchResult r (λ _. P) Q → P
ok_tells r u P Q is told = subst (λ o. MatchResult o (λ _. P) Q) is told

pub some_tells : (r : Option Frame) (x : Frame) (P : Type 0) (Q : Frame → Type 0) → r ≡ Some x → MatchOption r P Q → Q x
some_tells r x P Q is told = subst (λ o. MatchOption o P Q) is told

-- the marker that came out begins what the one that went in does
pub unmarked : (v w : RingView) (x y : Frame) → v ≡ marked x → Unmarks v y w → (w ≡ begun x) × (y.seconds ≡ x.seconds)
unmarked v w x y e told =
    let same : marked y ≡ marked x = sym told.0 ∙ e in
    (told.1 ∙ ap (λ u. knows u.floor u.passes u.capacity (idle_frames 0 u.passes) []) same, ap (λ u. u.passes) same)

frames_first : (r : FrameRing) (n : ℕ) (v : RingView) → n < passes_of r → v ≡ knows (floor_of r) (passes_of r) (capacity_of r) (idle_frames n (passes_of r - n)) []
    → v ≡ knows (floor_of r) (passes_of r) (capacity_of r) (pass_frames n [] [] ∷ idle_frames (n + 1) (passes_of r - (n + 1))) []
frames_first r n v lt e = e ∙ ap (λ ps. knows (floor_of r) (passes_of r) (capacity_of r) ps []) (frames_more (passes_of r) n lt)

counts_first : (r : FrameRing) (n : ℕ) (v : FreeView) → n < passes_of r → v ≡ counts (passes_of r) (buffers_of r) (idle_counts n (passes_of r - n))
    → v ≡ counts (passes_of r) (buffers_of r) (pass_counts n 0 0 ∷ idle_counts (n + 1) (passes_of r - (n + 1)))
counts_first r n v lt e = e ∙ ap (counts (passes_of r) (buffers_of r)) (counts_more (passes_of r) n lt)

pub ring_forks : (r : FrameRing) (i n : ℕ) (v : RingView) → n < passes_of r → v ≡ knows (floor_of r) (passes_of r) (capacity_of r) (idle_frames n (passes_of r - n)) [] → Forks RingRule i v (one_pass v) (other_passes v)
ring_forks r i n v lt e = forks_from i (floor_of r) (passes_of r) (capacity_of r) (pass_frames n [] []) (idle_frames (n + 1) (passes_of r - (n + 1))) v (frames_first r n v lt e)

pub free_forks : (r : FrameRing) (i n : ℕ) (v : FreeView) → n < passes_of r → v ≡ counts (passes_of r) (buffers_of r) (idle_counts n (passes_of r - n)) → Forks FreeRule i v (one_count v) (other_counts v)
free_forks r i n v lt e = count_forks_from i (passes_of r) (buffers_of r) (pass_counts n 0 0) (idle_counts (n + 1) (passes_of r - (n + 1))) v (counts_first r n v lt e)

pub ring_rest : (r : FrameRing) (n : ℕ) (v w : RingView) → n < passes_of r → v ≡ knows (floor_of r) (passes_of r) (capacity_of r) (idle_frames n (passes_of r - n)) [] → w ≡ other_passes v
    → w ≡ knows (floor_of r) (passes_of r) (capacity_of r) (idle_frames (n + 1) (passes_of r - (n + 1))) []
ring_rest r n v w lt e told = told ∙ ap other_passes (frames_first r n v lt e)

pub free_rest : (r : FrameRing) (n : ℕ) (v w : FreeView) → n < passes_of r → v ≡ counts (passes_of r) (buffers_of r) (idle_counts n (passes_of r - n)) → w ≡ other_counts v
    → w ≡ counts (passes_of r) (buffers_of r) (idle_counts (n + 1) (passes_of r - (n + 1)))
free_rest r n v w lt e told = told ∙ ap other_counts (counts_first r n v lt e)

-- the pass that stays where the others are cut off
pub cut_pass : (r : FrameRing) (p : RingPass) (v : RingView) (u : FreeView) → p.number < passes_of r → queue.IsPassOf r.ring p.ring → queue.IsPassOf r.free p.free
    → v ≡ knows (floor_of r) (passes_of r) (capacity_of r) (idle_frames p.number (passes_of r - p.number)) [] → u ≡ counts (passes_of r) (buffers_of r) (idle_counts p.number (passes_of r - p.number))
    → view p.ring ≡ one_pass v → view p.free ≡ one_count u → IsPassOf r p × IsFresh p
cut_pass r p v u lt in_ring in_free e d frames tally =
    fresh_pass r p in_ring in_free (frames ∙ ap one_pass (frames_first r p.number v lt e)) (tally ∙ ap one_count (counts_first r p.number u lt d)) (omega arith)

-- the last one
pub last_pass : (r : FrameRing) (p : RingPass) (n : ℕ) → n + 1 ≡ passes_of r → p.number ≡ n → queue.IsPassOf r.ring p.ring → queue.IsPassOf r.free p.free
    → view p.ring ≡ knows (floor_of r) (passes_of r) (capacity_of r) (idle_frames n (passes_of r - n)) [] → view p.free ≡ counts (passes_of r) (buffers_of r) (idle_counts n (passes_of r - n)) → IsPassOf r p × IsFresh p
last_pass r p n last is in_ring in_free e d =
    let one : passes_of r - n ≡ 1 = omega arith in
    fresh_pass r p in_ring in_free
    (e ∙ ap (λ k. knows (floor_of r) (passes_of r) (capacity_of r) (idle_frames n k) []) one ∙ ap (λ k. knows (floor_of r) (passes_of r) (capacity_of r) (pass_frames k [] [] ∷ []) []) (sym is))
    (d ∙ ap (λ k. counts (passes_of r) (buffers_of r) (idle_counts n k)) one ∙ ap (λ k. counts (passes_of r) (buffers_of r) (pass_counts k 0 0 ∷ [])) (sym is))
    (omega arith)

length_range : (a n : ℕ) → length (range_with_len a n) ≡ n
length_range a zero = refl
length_range a (suc n) = ap suc (length_range (a + 1) n)

length_numbers : (items : List RingPass) → length (map number_of items) ≡ length items
length_numbers [] = refl
length_numbers (p ∷ ps) = ap suc (length_numbers ps)

-- the passes that were handed out are all of the ring's
pub all_made : (r : FrameRing) (list : RingPasses) → gathered list ≡ None → 1 ≤ passes_of r → All (IsPassOf r) (passes_in list) → map number_of (passes_in list) ≡ range_with_len 0 (passes_of r) → AreAllOf r list
all_made r list apart some_pass all numbers = (apart, sym (length_numbers (passes_in list)) ∙ ap length numbers ∙ length_range 0 (passes_of r), all, omega arith)
