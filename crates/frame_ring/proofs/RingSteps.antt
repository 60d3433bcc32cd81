-- Each step on the ring's queue keeps its rule.
use Rattle.std.proofs.Common.{◌≡◌, ◌≢◌, ℕ, zero, suc, ◌+◌, ◌<◌, ◌≤◌, ◌==◌, List, [], ◌∷◌, ◌++◌, length, set, sym, refl, ap, ◌∙◌, subst, inl, inr, ⊎_elim, append_assoc, append-nil, eq-eqb, ne_eqb, subst₂, arith}
use Rattle.std.specs.List.{sum_by}
use Rattle.std.proofs.lemmas.List.Sums.{sum_by-append}
use mathlib.Core.Option.{some}
use lib.ListN.{get_elem?}
use Rattle.crossbeam_queue.specs.Fifo.{Pushes, Pops}
use Rattle.frame_ring.specs.Frame.{Frame}
use Rattle.frame_ring.specs.declared.view.PassFrames.{PassFrames}
use Rattle.frame_ring.specs.declared.view.Stage.TheVariants as stage
use Rattle.frame_ring.specs.declared.view.RingView.{RingView}
use Rattle.frame_ring.specs.Views.{Each, pass_frames, knows, idle_frames, one_if, times, all_grabbed, came_out}
use Rattle.frame_ring.specs.Rows.{IsRow, last_of}
use Rattle.frame_ring.specs.RingRule.{empty_ring, marked, begun, Fits, FitsView, Kept, RingRule}
use Rattle.frame_ring.specs.Steps.{with_offer, with_grab, with_drain, Offers, Grabs, Drains, Marks, Unmarks}
use Rattle.frame_ring.proofs.Lists.{each_as, only, only_set, total_set, total_same, total_two, each_set}
use Rattle.frame_ring.proofs.Rows.{row_front, row_behind, row_push, last_push}

-- a pass of an open ring leaves no other case of the rule
pub is_kept : (items : List Frame) (views : List RingView) (i : ℕ) (v : RingView) → v.stage ≡ stage.Running → get_elem? views i ≡ some v → RingRule items views → Kept items views
is_kept items views i v runs at h = ⊎_elim
    (λ early. ⊎_elim
    (λ e. let same = ap (λ u. u.stage) (only empty_ring v i (ap (λ l. get_elem? l i) (sym e.1) ∙ at)) ∙ runs in cc)
    (λ m. let same = ap (λ u. u.stage) (only (marked m.0) v i (ap (λ l. get_elem? l i) (sym m.2) ∙ at)) ∙ runs in cc)
    early)
    (λ k. k)
    h

-- passes of which none has the number 0
others_not_first : (own : List PassFrames) → times 0 own ≡ 0 → Each (λ p. p.number ≢ 0) own
others_not_first [] e = tt
others_not_first (p ∷ ps) e = (
  (λ zero_here. let t : one_if (p.number == 0) ≡ 1 = ap one_if (eq-eqb p.number 0 zero_here) in omega arith),
  others_not_first ps (omega arith),
)

both : {X : Type 0} (P Q R : X → Type 0) → ((x : X) → P x → Q x → R x) → (xs : List X) → Each P xs → Each Q xs → Each R xs
both P Q R f [] h k = tt
both P Q R f (x ∷ xs) h k = (f x h.0 k.0, both P Q R f xs h.1 k.1)

module _ (floor passes capacity : ℕ) (popped items : List Frame) where
  -- a frame joins the ring, and this pass isn't the one that offers
  fits_longer : (x : Frame) (v : RingView) → times 0 v.own ≡ 0 → FitsView floor passes capacity popped items v → FitsView floor passes capacity popped (items ++ x ∷ []) v
  fits_longer x v none f = record {
    running = f.running;
    alive = f.alive;
    own = both (λ p. p.number ≢ 0) (Fits floor popped items v.drained) (Fits floor popped (items ++ x ∷ []) v.drained)
        (λ p other h. record { offers = λ e. absurd (other e); offers_not = h.offers_not; row = h.row; behind = h.behind }) v.own (others_not_first v.own none) f.own;
    idle = f.idle;
  }

  -- the oldest frame leaves it, and this pass didn't take it
  fits_popped : (x : Frame) (p : PassFrames) (drained : List Frame) → last_of floor popped < x.number → Fits floor popped (x ∷ items) drained p → Fits floor (popped ++ x ∷ []) items drained p
  fits_popped x p drained up h = record {
    offers = λ e. h.offers e ∙ sym (append_assoc popped (x ∷ []) items);
    offers_not = h.offers_not;
    row = h.row;
    behind = let b = h.behind in let l = last_push floor popped x in omega arith;
  }

  view_popped : (x : Frame) (v : RingView) → last_of floor popped < x.number → FitsView floor passes capacity popped (x ∷ items) v → FitsView floor passes capacity (popped ++ x ∷ []) items v
  view_popped x v up f = record {
    running = f.running;
    alive = f.alive;
    own = each_as (Fits floor popped (x ∷ items) v.drained) (Fits floor (popped ++ x ∷ []) items v.drained) (λ p h. fits_popped x p v.drained up h) v.own f.own;
    idle = f.idle;
  }

pub marks : (n i : ℕ) (x : Frame) → Pushes RingRule n i empty_ring x (Marks empty_ring x)
marks n i x items views room h at = ⊎_elim
    (λ early. ⊎_elim
    (λ e. let was : get_elem? (empty_ring ∷ []) i ≡ some empty_ring = ap (λ l. get_elem? l i) (sym e.1) ∙ at in
    (marked x, inl (inr (x, ap (λ l. l ++ x ∷ []) e.0, ap (λ l. set l i (marked x)) e.1 ∙ only_set empty_ring empty_ring (marked x) i was)), refl))
    (λ m. let same = ap (λ u. u.stage) (only (marked m.0) empty_ring i (ap (λ l. get_elem? l i) (sym m.2) ∙ at)) in cc)
    early)
    (λ k. let same = (k.fits i empty_ring at).running in cc)
    h

idle_length : (number count : ℕ) → length (idle_frames number count) ≡ count
idle_length number zero = refl
idle_length number (suc count) = let h = idle_length (number + 1) count in omega arith

idle_grabbed : (number count : ℕ) → all_grabbed (idle_frames number count) ≡ []
idle_grabbed number zero = refl
idle_grabbed number (suc count) = idle_grabbed (number + 1) count

idle_later : (number count : ℕ) → 0 < number → times 0 (idle_frames number count) ≡ 0
idle_later number zero some_number = refl
idle_later number (suc count) some_number =
    let h = idle_later (number + 1) count (omega arith) in
    let t : one_if (number == 0) ≡ 0 = ap one_if (ne_eqb number 0 (λ e. absurd (omega arith))) in
    omega arith

idle_first : (count : ℕ) → 1 ≤ count → times 0 (idle_frames 0 count) ≡ 1
idle_first zero some_pass = absurd (omega arith)
idle_first (suc count) some_pass = let h = idle_later 1 count (omega arith) in omega arith

idle_fits : (floor number count : ℕ) → Each (Fits floor [] [] []) (idle_frames number count)
idle_fits floor number zero = tt
idle_fits floor number (suc count) = (record { offers = λ e. refl; offers_not = λ e. refl; row = tt; behind = omega arith }, idle_fits floor (number + 1) count)

begins : (f : Frame) → 1 ≤ f.seconds → Kept [] (begun f ∷ [])
begins f some_pass = let own = idle_frames 0 f.seconds in record {
  floor = f.number;
  passes = f.seconds;
  capacity = f.wire_len;
  popped = [];
  row = tt;
  places = let h = idle_length 0 f.seconds in omega arith;
  first = let h = idle_first f.seconds some_pass in omega arith;
  whole = λ h. let e : sum_by h (came_out (begun f)) ≡ 0 = ap (λ l. sum_by h (l ++ [])) (idle_grabbed 0 f.seconds) in omega arith;
  fits = λ j v e. let P = FitsView f.number f.seconds f.wire_len [] [] in subst P (only (begun f) v j e)
      (record { running = refl; alive = λ some_own. (refl, refl, refl); own = idle_fits f.number 0 f.seconds; idle = λ none. refl });
}

pub unmarks : (i : ℕ) (x : Frame) → 1 ≤ x.seconds → Pops RingRule i (marked x) (Unmarks (marked x))
unmarks i x some_pass y items views h at = ⊎_elim
    (λ early. ⊎_elim
    (λ e. let same = ap (λ u. u.stage) (only empty_ring (marked x) i (ap (λ l. get_elem? l i) (sym e.1) ∙ at)) in cc)
    (λ m.
    let was : get_elem? (marked m.0 ∷ []) i ≡ some (marked x) = ap (λ l. get_elem? l i) (sym m.2) ∙ at in
    let head : y ≡ m.0 = cc m.1 in
    let none : items ≡ [] = cc m.1 in
    let same : marked x ≡ marked y = sym (only (marked m.0) (marked x) i was) ∙ ap marked (sym head) in
    let passes : x.seconds ≡ y.seconds = ap (λ u. u.passes) same in
    let now : set views i (begun y) ≡ begun y ∷ [] = ap (λ l. set l i (begun y)) m.2 ∙ only_set (marked m.0) (marked x) (begun y) i was in
    (begun y, inr (subst₂ Kept (sym none) (sym now) (begins y (omega arith))), (same, refl)))
    early)
    (λ k. let same = (k.fits i (marked x) at).running in cc)
    h

pub offers : (n i fl pa ca number : ℕ) (o g : List Frame) (x : Frame) → number ≡ 0 → n ≡ ca → last_of fl o < x.number → x.len ≤ 262144
    → Pushes RingRule n i (knows fl pa ca (pass_frames number o g ∷ []) []) x (Offers (knows fl pa ca (pass_frames number o g ∷ []) []) x)
offers n i fl pa ca number o g x zero_here size up short items views room h at =
    let v = knows fl pa ca (pass_frames number o g ∷ []) [] in
    let w = with_offer x v in
    let k = is_kept items views i v refl at h in
    let f = k.fits i v at in
    let a = f.alive (omega arith) in
    let p = f.own.0 in
    let told : o ≡ k.popped ++ items = p.offers zero_here in
    let here : one_if (number == 0) ≡ 1 = ap one_if (eq-eqb number 0 zero_here) in
    let higher : last_of k.floor (k.popped ++ items) < x.number = subst₂ (λ m l. last_of m l < x.number) a.0 told up in (
      w,
      inr (record {
        floor = k.floor;
        passes = k.passes;
        capacity = k.capacity;
        popped = k.popped;
        row = subst (IsRow k.floor) (append_assoc k.popped items (x ∷ [])) (row_push k.floor (k.popped ++ items) x k.row higher short);
        places = total_same (λ (u : RingView). length u.own) views i v w at refl ∙ k.places;
        first = total_same (λ (u : RingView). times 0 u.own) views i v w at refl ∙ k.first;
        whole = λ q. total_same (λ (u : RingView). sum_by q (came_out u)) views i v w at refl ∙ k.whole q;
        fits = each_set (FitsView k.floor k.passes k.capacity k.popped items) (FitsView k.floor k.passes k.capacity k.popped (items ++ x ∷ [])) views i w
            (record {
              running = refl;
              alive = λ some_own. a;
              own = (record { offers = λ e. ap (λ l. l ++ x ∷ []) told ∙ append_assoc k.popped items (x ∷ []); offers_not = λ ne. absurd (ne zero_here); row = p.row; behind = p.behind }, tt);
              idle = λ none. refl;
            })
            (λ j u ne there q. fits_longer k.floor k.passes k.capacity k.popped items x u (let two = total_two (λ (u : RingView). times 0 u.own) views i j v u at there ne in let e = k.first in omega arith) q)
            k.fits;
      }),
      (refl, (items, omega arith, (views, (i, at), h))),
    )

-- the oldest frame leaves, and one view takes it into its account
pops_as : (i : ℕ) (v w : RingView) (x : Frame) (items : List Frame) (views : List RingView) (k : Kept (x ∷ items) views) → get_elem? views i ≡ some v → length w.own ≡ length v.own → times 0 w.own ≡ times 0 v.own
    → ((h : Frame → ℕ) → sum_by h (came_out w) ≡ sum_by h (came_out v) + h x) → FitsView k.floor k.passes k.capacity (k.popped ++ x ∷ []) items w → Kept items (set views i w)
pops_as i v w x items views k at same_length same_first more fits =
    let next = row_behind k.floor k.popped (x ∷ items) k.row in record {
      floor = k.floor;
      passes = k.passes;
      capacity = k.capacity;
      popped = k.popped ++ x ∷ [];
      row = subst (IsRow k.floor) (sym (append_assoc k.popped (x ∷ []) items)) k.row;
      places = total_same (λ (u : RingView). length u.own) views i v w at same_length ∙ k.places;
      first = total_same (λ (u : RingView). times 0 u.own) views i v w at same_first ∙ k.first;
      whole = λ h.
          let t = total_set (λ (u : RingView). sum_by h (came_out u)) views i v w at in
          let m = more h in
          let e = k.whole h in
          let s = sum_by-append h k.popped (x ∷ []) in
          omega arith;
      fits = each_set (FitsView k.floor k.passes k.capacity k.popped (x ∷ items)) (FitsView k.floor k.passes k.capacity (k.popped ++ x ∷ []) items) views i w fits
          (λ j u ne there q. view_popped k.floor k.passes k.capacity k.popped items x u next.0 q) k.fits;
    }

pub grabs : (i fl pa ca number : ℕ) (o g : List Frame) → Pops RingRule i (knows fl pa ca (pass_frames number o g ∷ []) []) (Grabs (knows fl pa ca (pass_frames number o g ∷ []) []))
grabs i fl pa ca number o g x items views h at =
    let v = knows fl pa ca (pass_frames number o g ∷ []) [] in
    let w = with_grab x v in
    let k = is_kept (x ∷ items) views i v refl at h in
    let f = k.fits i v at in
    let a = f.alive (omega arith) in
    let next = row_behind k.floor k.popped (x ∷ items) k.row in
    let p = fits_popped k.floor k.passes k.capacity k.popped items x (pass_frames number o g) [] next.0 f.own.0 in
    let grown : (g ++ x ∷ []) ++ [] ≡ g ++ x ∷ [] = append-nil (g ++ x ∷ []) in
    let before = f.own.0.behind in
    let same : last_of k.floor (g ++ []) ≡ last_of k.floor g = ap (last_of k.floor) (append-nil g) in
    let up : last_of k.floor g < x.number = omega (arith, next.0) in (
      w,
      inr (pops_as i v w x items views k at refl refl
          (λ q.
          let b = sum_by-append q ((g ++ x ∷ []) ++ []) [] in
          let c = sum_by-append q (g ++ x ∷ []) [] in
          let d = sum_by-append q g (x ∷ []) in
          let e = sum_by-append q (g ++ []) [] in
          let s = sum_by-append q g [] in
          omega arith)
          (record {
            running = refl;
            alive = λ some_own. a;
            own = (
              record {
                offers = p.offers;
                offers_not = p.offers_not;
                row = subst (IsRow k.floor) (sym grown) (row_push k.floor g x (row_front k.floor g [] f.own.0.row) up next.1);
                behind = let m = ap (last_of k.floor) grown in let l = last_push k.floor g x in let r = last_push k.floor k.popped x in omega arith;
              },
              tt,
            );
            idle = λ none. refl;
          })),
      (refl, (items, (views, (i, at), h))),
    )

pub drains : (i fl pa ca : ℕ) (own : List PassFrames) (drained : List Frame) → 0 < length own → Pops RingRule i (knows fl pa ca own drained) (Drains (knows fl pa ca own drained))
drains i fl pa ca own drained some_own x items views h at =
    let v = knows fl pa ca own drained in
    let w = with_drain x v in
    let k = is_kept (x ∷ items) views i v refl at h in
    let f = k.fits i v at in
    let next = row_behind k.floor k.popped (x ∷ items) k.row in (
      w,
      inr (pops_as i v w x items views k at refl refl
          (λ q.
          let b = sum_by-append q (all_grabbed own) (drained ++ x ∷ []) in
          let c = sum_by-append q drained (x ∷ []) in
          let d = sum_by-append q (all_grabbed own) drained in
          omega arith)
          (record {
            running = refl;
            alive = f.alive;
            own = each_as (Fits k.floor k.popped (x ∷ items) drained) (Fits k.floor (k.popped ++ x ∷ []) items (drained ++ x ∷ []))
                (λ p q.
                let m = fits_popped k.floor k.passes k.capacity k.popped items x p drained next.0 q in
                let grown : (p.grabbed ++ drained) ++ x ∷ [] ≡ p.grabbed ++ (drained ++ x ∷ []) = append_assoc p.grabbed drained (x ∷ []) in
                let before = q.behind in
                let up : last_of k.floor (p.grabbed ++ drained) < x.number = omega (arith, next.0) in
                record {
                  offers = m.offers;
                  offers_not = m.offers_not;
                  row = subst (IsRow k.floor) grown (row_push k.floor (p.grabbed ++ drained) x q.row up next.1);
                  behind = let e = ap (last_of k.floor) grown in let l = last_push k.floor (p.grabbed ++ drained) x in let r = last_push k.floor k.popped x in omega arith;
                })
                own f.own;
            idle = λ none. absurd (omega arith);
          })),
      (refl, (items, (views, (i, at), h))),
    )
