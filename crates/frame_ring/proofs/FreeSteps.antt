-- Each step on the free queue keeps its rule.
use Rattle.std.proofs.Common.{◌≡◌, ◌≢◌, ℕ, zero, suc, ◌+◌, ◌<◌, true, List, [], ◌∷◌, ◌++◌, length, set, sym, refl, ap, ◌∙◌, subst, inl, inr, ⊎_elim, length-append, true≢false, arith}
use Rattle.std.proofs.lemmas.List.Sums.{sum_by-append, sum_by-cons}
use mathlib.Core.Option.{some}
use lib.ListN.{get_elem?}
use Rattle.crossbeam_queue.specs.Fifo.{Pushes, Pops, Forks, Merges}
use Rattle.frame_ring.specs.Frame.{Frame}
use Rattle.frame_ring.specs.declared.view.PassCounts.{PassCounts}
use Rattle.frame_ring.specs.declared.view.FreeView.{FreeView}
use Rattle.frame_ring.specs.Views.{pass_counts, counts, idle_counts, all_taken, all_given}
use Rattle.frame_ring.specs.FreeRule.{filling, filled, FitsCount, Counted, FreeRule, FreeMoment}
use Rattle.frame_ring.specs.Steps.{with_taken, with_given, Takes, Gives, Fills, FillsLast, spent_count}
use Rattle.frame_ring.proofs.Lists.{only, only_set, nothing, total_set, total_same, total_two, total_cut, total_joined, total_alone, each_set, each_snoc}

pub is_counted : (items : List Frame) (views : List FreeView) (i : ℕ) (v : FreeView) → v.complete ≡ true → get_elem? views i ≡ some v → FreeRule items views → Counted items views
is_counted items views i v done at h = ⊎_elim
    (λ m. absurd (true≢false (sym done ∙ ap (λ u. u.complete) (sym (only (filling m.0) v i (ap (λ l. get_elem? l i) (sym m.2) ∙ at))))))
    (λ k. k)
    h

-- while the queue is filled it holds as many buffers as were made
pub is_filling : (items : List Frame) (views : List FreeView) (i n : ℕ) → get_elem? views i ≡ some (filling n) → FreeRule items views → (length items ≡ n) × (views ≡ filling n ∷ [])
is_filling items views i n at h = ⊎_elim
    (λ m.
    let same : filling m.0 ≡ filling n = only (filling m.0) (filling n) i (ap (λ l. get_elem? l i) (sym m.2) ∙ at) in
    (m.1 ∙ ap (λ u. u.made) same, m.2 ∙ ap (λ u. u ∷ []) same))
    (λ k. absurd (true≢false (sym (k.fits i (filling n) at).complete)))
    h

pub fills : (n i made : ℕ) (x : Frame) → Pushes FreeRule n i (filling made) x (Fills (filling made) x)
fills n i made x items views room h at =
    let m = is_filling items views i made at h in
    let w = filling (made + 1) in
    let was : get_elem? (filling made ∷ []) i ≡ some (filling made) = ap (λ l. get_elem? l i) (sym m.1) ∙ at in
    (w, inl (made + 1, (let l = length-append items (x ∷ []) in let e = m.0 in omega arith), ap (λ l. set l i w) m.1 ∙ only_set (filling made) (filling made) w i was), refl)

idle_length : (number count : ℕ) → length (idle_counts number count) ≡ count
idle_length number zero = refl
idle_length number (suc count) = let h = idle_length (number + 1) count in omega arith

idle_taken : (number count : ℕ) → all_taken (idle_counts number count) ≡ 0
idle_taken number zero = refl
idle_taken number (suc count) = let h = idle_taken (number + 1) count in let e = sum_by-cons (λ (p : PassCounts). p.taken) (pass_counts number 0 0) (idle_counts (number + 1) count) in omega arith

idle_given : (number count : ℕ) → all_given (idle_counts number count) ≡ 0
idle_given number zero = refl
idle_given number (suc count) = let h = idle_given (number + 1) count in let e = sum_by-cons (λ (p : PassCounts). p.given) (pass_counts number 0 0) (idle_counts (number + 1) count) in omega arith

fill_begins : (made : ℕ) (x : Frame) (items : List Frame) → length items ≡ made → Counted items (filled made x ∷ [])
fill_begins made x items e = record {
  passes = x.seconds;
  made = made;
  places = let h = idle_length 0 x.seconds in omega arith;
  sum = let a = idle_taken 0 x.seconds in let b = idle_given 0 x.seconds in omega arith;
  fits = λ j v at. let P = FitsCount x.seconds made in subst P (only (filled made x) v j at) (record { complete = refl; alive = λ some_own. (refl, refl) });
}

pub fills_last : (n i made : ℕ) (x : Frame) → Pushes FreeRule n i (filling made) x (FillsLast (filling made) x)
fills_last n i made x items views room h at =
    let m = is_filling items views i made at h in
    let w = filled (made + 1) x in
    let was : get_elem? (filling made ∷ []) i ≡ some (filling made) = ap (λ l. get_elem? l i) (sym m.1) ∙ at in
    let now : set views i w ≡ w ∷ [] = ap (λ l. set l i w) m.1 ∙ only_set (filling made) (filling made) w i was in
    (w, inr (subst (Counted (items ++ x ∷ [])) (sym now) (fill_begins (made + 1) x (items ++ x ∷ []) (let l = length-append items (x ∷ []) in let e = m.0 in omega arith))), refl)

-- one pass takes or gives, and the queue holds as many less or more
counts_as : (i : ℕ) (v w : FreeView) (before after : List Frame) (views : List FreeView) (k : Counted before views) → get_elem? views i ≡ some v → length w.own ≡ length v.own → FitsCount k.passes k.made w
    → all_given w.own + all_taken v.own + length before ≡ all_given v.own + all_taken w.own + length after → Counted after (set views i w)
counts_as i v w before after views k at same_length fits sums = record {
  passes = k.passes;
  made = k.made;
  places = total_same (λ (u : FreeView). length u.own) views i v w at same_length ∙ k.places;
  sum =
      let a = total_set (λ (u : FreeView). all_given u.own) views i v w at in
      let b = total_set (λ (u : FreeView). all_taken u.own) views i v w at in
      let c = k.sum in
      omega arith;
  fits = each_set (FitsCount k.passes k.made) (FitsCount k.passes k.made) views i w fits (λ j u ne there q. q) k.fits;
}

pub takes : (i passes made number taken given : ℕ) → Pops FreeRule i (counts passes made (pass_counts number taken given ∷ [])) (Takes (counts passes made (pass_counts number taken given ∷ [])))
takes i passes made number taken given x items views h at =
    let v = counts passes made (pass_counts number taken given ∷ []) in
    let w = with_taken v in
    let k = is_counted (x ∷ items) views i v refl at h in
    let f = k.fits i v at in
    (w, inr (counts_as i v w (x ∷ items) items views k at refl (record { complete = refl; alive = λ some_own. f.alive (omega arith) }) (omega arith)), (refl, (items, (views, (i, at), h))))

pub gives : (n i passes made number taken given : ℕ) (x : Frame) → n ≡ made
    → Pushes FreeRule n i (counts passes made (pass_counts number taken given ∷ [])) x (Gives (counts passes made (pass_counts number taken given ∷ [])) x)
gives n i passes made number taken given x size items views room h at =
    let v = counts passes made (pass_counts number taken given ∷ []) in
    let w = with_given v in
    let k = is_counted items views i v refl at h in
    let f = k.fits i v at in
    let l = length-append items (x ∷ []) in
    (w, inr (counts_as i v w items (items ++ x ∷ []) views k at refl (record { complete = refl; alive = λ some_own. f.alive (omega arith) }) (omega arith)), (refl, (items, omega arith, (views, (i, at), h))))

pub forks : (i passes made : ℕ) (p : PassCounts) (ps : List PassCounts) → Forks FreeRule i (counts passes made (p ∷ ps)) (counts passes made (p ∷ [])) (counts passes made ps)
forks i passes made p ps items views h at =
    let v = counts passes made (p ∷ ps) in
    let l = counts passes made (p ∷ []) in
    let r = counts passes made ps in
    let k = is_counted items views i v refl at h in
    let f = k.fits i v at in
    let P : FreeView → Type 0 = FitsCount k.passes k.made in
    inr (record {
      passes = k.passes;
      made = k.made;
      places = total_cut (λ (u : FreeView). length u.own) views i v l r at (omega arith) ∙ k.places;
      sum =
          let a = total_cut (λ (u : FreeView). all_given u.own) views i v l r at (sum_by-append (λ (y : PassCounts). y.given) (p ∷ []) ps) in
          let b = total_cut (λ (u : FreeView). all_taken u.own) views i v l r at (sum_by-append (λ (y : PassCounts). y.taken) (p ∷ []) ps) in
          let c = k.sum in
          omega arith;
      fits = each_snoc P (set views i l) r (each_set P P views i l (record { complete = refl; alive = λ some_own. f.alive (omega arith) }) (λ j u ne there q. q) k.fits)
          (record { complete = refl; alive = λ some_own. f.alive (omega arith) });
    })

pub merges : (i j passes made : ℕ) (ps : List PassCounts) (passes' made' : ℕ) (qs : List PassCounts) → 0 < length ps
    → Merges FreeRule i (counts passes made ps) j (counts passes' made' qs) (counts passes made (qs ++ ps)) spent_count
merges i j passes made ps passes' made' qs some_own items views h at apart there' =
    let v = counts passes made ps in
    let w = counts passes' made' qs in
    let u = counts passes made (qs ++ ps) in
    let k = is_counted items views i v refl at h in
    let f = k.fits i v at in
    let P : FreeView → Type 0 = FitsCount k.passes k.made in
    inr (record {
      passes = k.passes;
      made = k.made;
      places = total_joined (λ (y : FreeView). length y.own) views i j v w u spent_count at there' (length-append qs ps) refl ∙ k.places;
      sum =
          let a = total_joined (λ (y : FreeView). all_given y.own) views i j v w u spent_count at there' (sum_by-append (λ (y : PassCounts). y.given) qs ps) refl in
          let b = total_joined (λ (y : FreeView). all_taken y.own) views i j v w u spent_count at there' (sum_by-append (λ (y : PassCounts). y.taken) qs ps) refl in
          let c = k.sum in
          omega arith;
      fits = each_set P P (set views i u) j spent_count (record { complete = refl; alive = λ some_other. absurd (omega arith) }) (λ n y ne there q. q)
          (each_set P P views i u (record { complete = refl; alive = λ more. f.alive some_own }) (λ n y ne there q. q) k.fits);
    })

-- what was made and given back is what was taken and what is free
pub free_sum : (passes made : ℕ) (own : List PassCounts) (items : List Frame) → 0 < passes → length own ≡ passes → FreeMoment (counts passes made own) items → made + all_given own ≡ all_taken own + length items
free_sum passes made own items some_pass all moment =
    let views = moment.0 in
    let i = moment.1.0 in
    let at = moment.1.1 in
    let v = counts passes made own in
    let k = is_counted items views i v refl at moment.2 in
    let a = (k.fits i v at).alive (omega arith) in
    let others : (j : ℕ) (u : FreeView) → j ≢ i → get_elem? views j ≡ some u → u.own ≡ []
    = λ j u ne there. let two = total_two (λ (y : FreeView). length y.own) views i j v u at there ne in let e = k.places in let p = a.0 in nothing u.own (omega arith) in
    let b = total_alone (λ (y : FreeView). all_given y.own) views i v at (λ j u ne there. ap all_given (others j u ne there)) in
    let c = total_alone (λ (y : FreeView). all_taken y.own) views i v at (λ j u ne there. ap all_taken (others j u ne there)) in
    let d = k.sum in
    let e = a.1 in
    omega arith
