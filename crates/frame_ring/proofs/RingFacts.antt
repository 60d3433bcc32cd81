-- What the rule tells of a ring to who carries all its passes.
use Rattle.std.proofs.Common.{◌≡◌, ◌≢◌, ℕ, ◌<◌, ◌==◌, List, [], ◌∷◌, ◌++◌, length, drop, sym, refl, ap, ◌∙◌, subst, append-nil, eq-eqb, ne_eqb, arith}
use Rattle.std.specs.List.{sum_by}
use Rattle.std.proofs.lemmas.List.Sums.{sum_by-cons}
use Rattle.std.proofs.Math.Seq.{drop-append_seam}
use mathlib.Core.Option.{some}
use native.Mathlib.Decide.{ℕ_discrete}
use lib.ListN.{get_elem?}
use Rattle.frame_ring.specs.Frame.{Frame}
use Rattle.frame_ring.specs.declared.view.PassFrames.{PassFrames}
use Rattle.frame_ring.specs.declared.view.RingView.{RingView}
use Rattle.frame_ring.specs.Views.{Each, knows, one_if, times, all_offered, all_grabbed, came_out}
use Rattle.frame_ring.specs.Rows.{IsRow}
use Rattle.frame_ring.specs.RingRule.{Fits, RingMoment}
use Rattle.frame_ring.proofs.Lists.{each_as, nothing, total_two, total_alone}
use Rattle.frame_ring.proofs.RingSteps.{is_kept}

-- the frames that came out, in order, and what the passes did
pub record Told (floor : ℕ) (own : List PassFrames) (drained items : List Frame) : Type 0 where
  pub popped : List Frame
  pub offered : all_offered own ≡ popped ++ items
  pub row : IsRow floor (popped ++ items)
  pub whole : (h : Frame → ℕ) → sum_by h (all_grabbed own ++ drained) ≡ sum_by h popped
  pub rows : Each (λ p. IsRow floor (p.grabbed ++ drained)) own

module _ (floor : ℕ) (popped items drained : List Frame) where
  offered_none : (own : List PassFrames) → times 0 own ≡ 0 → Each (Fits floor popped items drained) own → all_offered own ≡ []
  offered_none [] none fits = refl
  offered_none (p ∷ ps) none fits =
      let other : p.number ≢ 0 = λ e. let t : one_if (p.number == 0) ≡ 1 = ap one_if (eq-eqb p.number 0 e) in absurd (omega arith) in
      ap (λ l. l ++ all_offered ps) (fits.0.offers_not other) ∙ offered_none ps (omega arith) fits.1

  offered_one : (own : List PassFrames) → times 0 own ≡ 1 → Each (Fits floor popped items drained) own → all_offered own ≡ popped ++ items
  offered_one [] one fits = absurd (omega arith)
  offered_one (p ∷ ps) one fits = elim (ℕ_discrete p.number 0) [
    | yes e ↦
        let t : one_if (p.number == 0) ≡ 1 = ap one_if (eq-eqb p.number 0 e) in
        ap (λ l. l ++ all_offered ps) (fits.0.offers e) ∙ ap (λ l. (popped ++ items) ++ l) (offered_none ps (omega arith) fits.1) ∙ append-nil (popped ++ items)
    | no ne ↦
        let t : one_if (p.number == 0) ≡ 0 = ap one_if (ne_eqb p.number 0 ne) in
        ap (λ l. l ++ all_offered ps) (fits.0.offers_not ne) ∙ offered_one ps (omega arith) fits.1
  ]

pub tells : (fl pa ca : ℕ) (own : List PassFrames) (drained items : List Frame) → 0 < pa → length own ≡ pa → RingMoment (knows fl pa ca own drained) items → Told fl own drained items
tells fl pa ca own drained items some_pass all moment =
    let views = moment.0 in
    let i = moment.1.0 in
    let at = moment.1.1 in
    let v = knows fl pa ca own drained in
    let k = is_kept items views i v refl at moment.2 in
    let f = k.fits i v at in
    let a = f.alive (omega arith) in
    let others : (j : ℕ) (u : RingView) → j ≢ i → get_elem? views j ≡ some u → length u.own ≡ 0
    = λ j u ne there. let two = total_two (λ (y : RingView). length y.own) views i j v u at there ne in let e = k.places in let p = a.1 in omega arith in
    let one : times 0 own ≡ 1
    = sym (total_alone (λ (y : RingView). times 0 y.own) views i v at (λ j u ne there. ap (times 0) (nothing u.own (others j u ne there)))) ∙ k.first in
    record {
      popped = k.popped;
      offered = offered_one k.floor k.popped items drained own one f.own;
      row = subst (λ n. IsRow n (k.popped ++ items)) (sym a.0) k.row;
      whole = λ h.
          sym (total_alone (λ (y : RingView). sum_by h (came_out y)) views i v at
          (λ j u ne there.
          let none = others j u ne there in
          ap (λ l. sum_by h (all_grabbed l ++ u.drained)) (nothing u.own none) ∙ ap (λ l. sum_by h l) ((k.fits j u there).idle none)))
          ∙ k.whole h;
      rows = each_as (Fits k.floor k.popped items drained) (λ p. IsRow fl (p.grabbed ++ drained)) (λ p q. subst (λ n. IsRow n (p.grabbed ++ drained)) (sym a.0) q.row) own f.own;
    }

pub counted : (xs : List Frame) → sum_by (λ (f : Frame). 1) xs ≡ length xs
counted [] = refl
counted (x ∷ xs) = let h = counted xs in let e = sum_by-cons (λ (f : Frame). 1) x xs in omega arith

-- what is left is what came in behind as many as came out
pub left_is : (floor : ℕ) (own : List PassFrames) (drained items : List Frame) → Told floor own drained items → drop (length (all_grabbed own ++ drained)) (all_offered own) ≡ items
left_is floor own drained items t =
    let out = all_grabbed own ++ drained in
    let a = counted out in
    let b = counted t.popped in
    let c = t.whole (λ (f : Frame). 1) in
    let same : length out ≡ length t.popped = omega arith in
    ap (drop (length out)) t.offered ∙ ap (λ n. drop n (t.popped ++ items)) same ∙ drop-append_seam t.popped items
