-- A pass of the ring's queue is cut in two, and two are put together.
use Rattle.std.proofs.Common.{◌≡◌, ℕ, ◌+◌, ◌<◌, List, [], ◌∷◌, ◌++◌, length, set, sym, refl, ap, ◌∙◌, inr, length-append, arith}
use Rattle.std.specs.List.{sum_by}
use Rattle.std.proofs.lemmas.List.Sums.{sum_by-append}
use Rattle.std.proofs.lemmas.Grind.{flat_map-append}
use mathlib.Core.Option.{some}
use lib.ListN.{get_elem?}
use Rattle.crossbeam_queue.specs.Fifo.{Forks, Merges}
use Rattle.crossbeam_queue.proofs.Lists.{set_else}
use Rattle.frame_ring.specs.declared.view.PassFrames.{PassFrames}
use Rattle.frame_ring.specs.declared.view.RingView.{RingView}
use Rattle.frame_ring.specs.Views.{knows, times, all_grabbed, came_out}
use Rattle.frame_ring.specs.RingRule.{Fits, FitsView, RingRule}
use Rattle.frame_ring.specs.Steps.{spent}
use Rattle.frame_ring.proofs.Lists.{each_append, total_cut, total_joined, each_set, each_snoc}
use Rattle.frame_ring.proofs.RingSteps.{is_kept}

pub forks : (i fl pa ca : ℕ) (p : PassFrames) (ps : List PassFrames) → Forks RingRule i (knows fl pa ca (p ∷ ps) []) (knows fl pa ca (p ∷ []) []) (knows fl pa ca ps [])
forks i fl pa ca p ps items views h at =
    let v = knows fl pa ca (p ∷ ps) [] in
    let l = knows fl pa ca (p ∷ []) [] in
    let r = knows fl pa ca ps [] in
    let k = is_kept items views i v refl at h in
    let f = k.fits i v at in
    let P : RingView → Type 0 = FitsView k.floor k.passes k.capacity k.popped items in
    inr (record {
      floor = k.floor;
      passes = k.passes;
      capacity = k.capacity;
      popped = k.popped;
      row = k.row;
      places = total_cut (λ (u : RingView). length u.own) views i v l r at (omega arith) ∙ k.places;
      first = total_cut (λ (u : RingView). times 0 u.own) views i v l r at (omega arith) ∙ k.first;
      whole = λ q. total_cut (λ (u : RingView). sum_by q (came_out u)) views i v l r at
          (let a = sum_by-append q (p.grabbed ++ all_grabbed ps) [] in
          let b = sum_by-append q p.grabbed (all_grabbed ps) in
          let c = sum_by-append q (p.grabbed ++ []) [] in
          let d = sum_by-append q p.grabbed [] in
          let e = sum_by-append q (all_grabbed ps) [] in
          omega arith)
          ∙ k.whole q;
      fits = each_snoc P (set views i l) r
          (each_set P P views i l (record { running = refl; alive = λ some_own. f.alive (omega arith); own = (f.own.0, tt); idle = λ none. refl }) (λ j u ne there q. q) k.fits)
          (record { running = refl; alive = λ some_own. f.alive (omega arith); own = f.own.1; idle = λ none. refl });
    })

times_append : (n : ℕ) (ps qs : List PassFrames) → times n (ps ++ qs) ≡ times n ps + times n qs
times_append n [] qs = omega arith
times_append n (p ∷ ps) qs = let h = times_append n ps qs in omega arith

pub merges : (i j fl pa ca : ℕ) (ps : List PassFrames) (fl' pa' ca' : ℕ) (qs : List PassFrames) → 0 < length ps
    → Merges RingRule i (knows fl pa ca ps []) j (knows fl' pa' ca' qs []) (knows fl pa ca (qs ++ ps) []) spent
merges i j fl pa ca ps fl' pa' ca' qs some_own items views h at apart there' =
    let v = knows fl pa ca ps [] in
    let w = knows fl' pa' ca' qs [] in
    let u = knows fl pa ca (qs ++ ps) [] in
    let there : get_elem? views j ≡ some w = sym (set_else views i j u apart) ∙ there' in
    let k = is_kept items views i v refl at h in
    let f = k.fits i v at in
    let g = k.fits j w there in
    let P : RingView → Type 0 = FitsView k.floor k.passes k.capacity k.popped items in
    inr (record {
      floor = k.floor;
      passes = k.passes;
      capacity = k.capacity;
      popped = k.popped;
      row = k.row;
      places = total_joined (λ (y : RingView). length y.own) views i j v w u spent at there' (length-append qs ps) refl ∙ k.places;
      first = total_joined (λ (y : RingView). times 0 y.own) views i j v w u spent at there' (times_append 0 qs ps) refl ∙ k.first;
      whole = λ q. total_joined (λ (y : RingView). sum_by q (came_out y)) views i j v w u spent at there'
          (let a = sum_by-append q (all_grabbed (qs ++ ps)) [] in
          let b = ap (sum_by q) (flat_map-append (λ (p : PassFrames). p.grabbed) qs ps) in
          let c = sum_by-append q (all_grabbed qs) (all_grabbed ps) in
          let d = sum_by-append q (all_grabbed qs) [] in
          let e = sum_by-append q (all_grabbed ps) [] in
          omega arith)
          refl
          ∙ k.whole q;
      fits = each_set P P (set views i u) j spent (record { running = refl; alive = λ some_other. absurd (omega arith); own = tt; idle = λ none. refl }) (λ n y ne there q. q)
          (each_set P P views i u (record { running = refl; alive = λ more. f.alive some_own; own = each_append (Fits k.floor k.popped items []) qs ps g.own f.own; idle = λ none. refl }) (λ n y ne there q. q) k.fits);
    })
