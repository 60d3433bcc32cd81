-- What the calls on a ring owe and learn, where a pass carries itself alone.
use Rattle.std.proofs.Common.{◌≡◌, ◌↔◌, ℕ, zero, suc, ◌+◌, ◌<◌, ◌≤◌, List, [], ◌∷◌, ◌++◌, length, drop, All, Option, Some, None, Result, Ok, Err, IsNone, IsErr, IfSome, MatchOption, MatchResult, sym, refl, ap, ◌∙◌, subst, append-nil, length-append, arith}
use Rattle.std.specs.Prelude.{⊤}
use Rattle.std.specs.List.{sum_by}
use Rattle.std.proofs.lemmas.List.{length-drop}
use Rattle.crossbeam_queue.specs.Fifo.{Pushes, Pops, Learns, Held}
use Rattle.frame_ring.specs.Frame.{Frame}
use Rattle.frame_ring.specs.declared.view.RingView.{RingView}
use Rattle.frame_ring.specs.declared.view.FreeView.{FreeView}
use Rattle.frame_ring.specs.Views.{pass_frames, pass_counts, knows, counts, total, came_out}
use Rattle.frame_ring.specs.Rows.{last_of}
use Rattle.frame_ring.specs.RingRule.{RingRule, RingMoment}
use Rattle.frame_ring.specs.FreeRule.{FreeRule, FreeMoment}
use Rattle.frame_ring.specs.Steps.{with_grab, Offers, Grabs, Takes, Gives, spent}
use Rattle.frame_ring.specs.Passes.{first_offered, first_grabbed}
use Rattle.frame_ring.proofs.Lists.{nothing, total_set}
use Rattle.frame_ring.proofs.Rows.{row_front, row_behind, row_above, below_last, row_under}
use Rattle.frame_ring.proofs.RingSteps.{is_kept, offers, grabs}
use Rattle.frame_ring.proofs.RingFacts.{tells, left_is, counted}
use Rattle.frame_ring.proofs.FreeSteps as free

pub ring_learns : (i : ℕ) (v : RingView) → Learns RingRule i v (RingMoment v)
ring_learns i v items views h at = (views, (i, at), h)

pub free_learns : (i : ℕ) (v : FreeView) → Learns FreeRule i v (FreeMoment v)
free_learns i v items views h at = (views, (i, at), h)

pub takes_from : (i passes made number taken given : ℕ) (v : FreeView) → v ≡ counts passes made (pass_counts number taken given ∷ []) → Pops FreeRule i v (Takes v)
takes_from i passes made number taken given v e = let P : FreeView → Type 0 = λ u. Pops FreeRule i u (Takes u) in subst P (sym e) (free.takes i passes made number taken given)

pub gives_from : (n i passes number taken given : ℕ) (x : Frame) (v : FreeView) → v ≡ counts passes n (pass_counts number taken given ∷ []) → Pushes FreeRule n i v x (Gives v x)
gives_from n i passes number taken given x v e = let P : FreeView → Type 0 = λ u. Pushes FreeRule n i u x (Gives u x) in subst P (sym e) (free.gives n i passes n number taken given x refl)

pub grabs_from : (i fl pa ca number : ℕ) (o g : List Frame) (v : RingView) → v ≡ knows fl pa ca (pass_frames number o g ∷ []) [] → Pops RingRule i v (Grabs v)
grabs_from i fl pa ca number o g v e = let P : RingView → Type 0 = λ u. Pops RingRule i u (Grabs u) in subst P (sym e) (grabs i fl pa ca number o g)

pub offers_from : (n i fl pa number : ℕ) (o g : List Frame) (x : Frame) (v : RingView) → v ≡ knows fl pa n (pass_frames number o g ∷ []) [] → number ≡ 0 → fl < x.number → All (λ f. f.number < x.number) o → x.len ≤ 262144
    → Pushes RingRule n i v x (Offers v x)
offers_from n i fl pa number o g x v e first above rises short =
    let P : RingView → Type 0 = λ u. Pushes RingRule n i u x (Offers u x) in
    subst P (sym e) (offers n i fl pa n number o g x first refl (below_last fl x.number o above rises) short)

-- the oldest frame in the ring, for one pass
above_now : (fl pa ca number : ℕ) (o g : List Frame) (x : Frame) (rest : List Frame) → RingMoment (knows fl pa ca (pass_frames number o g ∷ []) []) (x ∷ rest)
    → (fl < x.number) × All (λ f. f.number < x.number) g × (x.len ≤ 262144)
above_now fl pa ca number o g x rest moment =
    let views = moment.0 in
    let i = moment.1.0 in
    let v = knows fl pa ca (pass_frames number o g ∷ []) [] in
    let k = is_kept (x ∷ rest) views i v refl moment.1.1 moment.2 in
    let f = k.fits i v moment.1.1 in
    let a = f.alive (omega arith) in
    let next = row_behind k.floor k.popped (x ∷ rest) k.row in
    let low = row_above k.floor k.popped (row_front k.floor k.popped (x ∷ rest) k.row) in
    let same : last_of k.floor (g ++ []) ≡ last_of k.floor g = ap (last_of k.floor) (append-nil g) in
    let behind = f.own.0.behind in
    let floor : fl ≡ k.floor = a.0 in (
      omega (arith, next.0),
      row_under k.floor x.number g (row_front k.floor g [] f.own.0.row) (omega (arith, next.0)),
      next.1,
    )

above : (fl pa ca number : ℕ) (o g : List Frame) (v : RingView) (x : Frame) (rest : List Frame) → v ≡ knows fl pa ca (pass_frames number o g ∷ []) [] → RingMoment v (x ∷ rest)
    → (fl < x.number) × All (λ f. f.number < x.number) g × (x.len ≤ 262144)
above fl pa ca number o g v x rest e moment = above_now fl pa ca number o g x rest (subst (λ u. RingMoment u (x ∷ rest)) e moment)

pub above_if : (fl pa ca number : ℕ) (o g : List Frame) (v w : RingView) (r : Option Frame) → v ≡ knows fl pa ca (pass_frames number o g ∷ []) [] → MatchOption r ((w ≡ v) × Held 0 (RingMoment v)) (λ x. Grabs v x w)
    → IfSome r (λ x. (fl < x.number) × All (λ f. f.number < x.number) g)
above_if fl pa ca number o g v w None e told = tt
above_if fl pa ca number o g v w (Some x) e told = let a = above fl pa ca number o g v x told.1.0 e told.1.1 in (a.0, a.1)

pub len_if : (fl pa ca number : ℕ) (o g : List Frame) (v w : RingView) (r : Option Frame) → v ≡ knows fl pa ca (pass_frames number o g ∷ []) [] → MatchOption r ((w ≡ v) × Held 0 (RingMoment v)) (λ x. Grabs v x w) → IfSome r (λ x. x.len ≤ 262144)
len_if fl pa ca number o g v w None e told = tt
len_if fl pa ca number o g v w (Some x) e told = (above fl pa ca number o g v x told.1.0 e told.1.1).2

-- for the one pass of a ring: the frames in the ring are those that it offered and did not grab
left_alone : (fl pa ca number : ℕ) (o g : List Frame) (items : List Frame) → pa ≡ 1 → RingMoment (knows fl pa ca (pass_frames number o g ∷ []) []) items → drop (length g) o ≡ items
left_alone fl pa ca number o g items one moment =
    let own = pass_frames number o g ∷ [] in
    let t = tells fl pa ca own [] items (omega arith) (sym one) moment in
    ap (λ l. drop (length l) o) (sym (append-nil (g ++ []) ∙ append-nil g)) ∙ ap (λ l. drop (length ((g ++ []) ++ [])) l) (sym (append-nil o)) ∙ left_is fl own [] items t

left_from : (fl pa ca number : ℕ) (o g : List Frame) (v : RingView) (items : List Frame) → v ≡ knows fl pa ca (pass_frames number o g ∷ []) [] → pa ≡ 1 → RingMoment v items → drop (length g) o ≡ items
left_from fl pa ca number o g v items e one moment = left_alone fl pa ca number o g items one (subst (λ u. RingMoment u items) e moment)

pub offer_exact : (fl pa ca number : ℕ) (o g : List Frame) (x : Frame) (v w : RingView) (r : Result ⊤ Frame) → v ≡ knows fl pa ca (pass_frames number o g ∷ []) []
    → MatchResult r (λ _. Offers v x w) (λ y. (y ≡ x) × (w ≡ v) × Held ca (RingMoment v)) → pa ≡ 1 → IsErr r ↔ (length (drop (length g) o) ≡ ca)
offer_exact fl pa ca number o g x v w (Ok u) e told one =
    let room = told.1 in
    let same = ap length (left_from fl pa ca number o g v room.0 e one room.2) in
    let size : v.capacity ≡ ca = ap (λ y. y.capacity) e in
    ((λ never. cc), λ full. absurd (omega (arith, room.1)))
offer_exact fl pa ca number o g x v w (Err y) e told one =
    let held = told.2 in
    ((λ _. ap length (left_from fl pa ca number o g v held.0 e one held.2) ∙ held.1), λ _. refl)

-- whoever else uses the ring: where it held so many frames, pass 0 offered so many that it did not grab
held_behind : (fl pa ca number : ℕ) (o g items : List Frame) → number ≡ 0 → RingMoment (knows fl pa ca (pass_frames number o g ∷ []) []) items → length items ≤ length (drop (length g) o)
held_behind fl pa ca number o g items first moment =
    let views = moment.0 in
    let i = moment.1.0 in
    let v = knows fl pa ca (pass_frames number o g ∷ []) [] in
    let k = is_kept items views i v refl moment.1.1 moment.2 in
    let split : o ≡ k.popped ++ items = (k.fits i v moment.1.1).own.0.offers first in
    let weigh : RingView → ℕ = λ u. sum_by (λ (f : Frame). 1) (came_out u) in
    let kept : total weigh views ≡ length k.popped = k.whole (λ f. 1) ∙ counted k.popped in
    let mine : weigh v ≡ length g = ap (sum_by (λ (f : Frame). 1)) (append-nil (g ++ []) ∙ append-nil g) ∙ counted g in
    let none : weigh spent ≡ 0 = refl in
    let part = total_set weigh views i v spent moment.1.1 in
    let lengths : length o ≡ length k.popped + length items = ap length split ∙ length-append k.popped items in
    let left = length-drop (length g) o in
    omega arith

pub offer_bound : (fl pa ca number : ℕ) (o g : List Frame) (x : Frame) (v w : RingView) (r : Result ⊤ Frame) → v ≡ knows fl pa ca (pass_frames number o g ∷ []) [] → number ≡ 0
    → MatchResult r (λ _. Offers v x w) (λ y. (y ≡ x) × (w ≡ v) × Held ca (RingMoment v)) → IsErr r → ca ≤ length (drop (length g) o)
offer_bound fl pa ca number o g x v w (Ok u) e first told failed = cc
offer_bound fl pa ca number o g x v w (Err y) e first told failed =
    let held = told.2 in
    let least = held_behind fl pa ca number o g held.0 first (subst (λ u. RingMoment u held.0) e held.2) in
    omega (arith, held.1)

drop_next : {X : Type 0} (n : ℕ) (xs : List X) (x : X) (rest : List X) → drop n xs ≡ x ∷ rest → drop (suc n) xs ≡ rest
drop_next zero xs x rest e = ap (drop 1) e
drop_next (suc n) [] x rest e = cc
drop_next (suc n) (y ∷ ys) x rest e = drop_next n ys x rest e

pub grab_exact : (fl pa ca number : ℕ) (o g : List Frame) (v w : RingView) (r : Option Frame) → v ≡ knows fl pa ca (pass_frames number o g ∷ []) [] → MatchOption r ((w ≡ v) × Held 0 (RingMoment v)) (λ x. Grabs v x w) → pa ≡ 1
    → MatchOption r (drop (length g) o ≡ []) (λ x. drop (length g) o ≡ x ∷ drop (length (first_grabbed w.own)) (first_offered w.own))
grab_exact fl pa ca number o g v w None e told one = left_from fl pa ca number o g v told.1.0 e one told.1.2 ∙ nothing told.1.0 told.1.1
grab_exact fl pa ca number o g v w (Some x) e told one =
    let rest = told.1.0 in
    let before = left_from fl pa ca number o g v (x ∷ rest) e one told.1.1 in
    let now : w ≡ with_grab x (knows fl pa ca (pass_frames number o g ∷ []) []) = told.0 ∙ ap (with_grab x) e in
    let longer : length (g ++ x ∷ []) ≡ suc (length g) = let l = length-append g (x ∷ []) in omega arith in
    let after : drop (length (first_grabbed w.own)) (first_offered w.own) ≡ rest
    = ap (λ y. drop (length (first_grabbed y.own)) (first_offered y.own)) now ∙ ap (λ n. drop n o) longer ∙ drop_next (length g) o x rest before in
    before ∙ ap (λ l. x ∷ l) (sym after)

free_from : (passes made number taken given : ℕ) (v : FreeView) (items : List Frame) → v ≡ counts passes made (pass_counts number taken given ∷ []) → passes ≡ 1 → FreeMoment v items → made + given ≡ taken + length items
free_from passes made number taken given v items e one moment =
    let s = free.free_sum passes made (pass_counts number taken given ∷ []) items (omega arith) (sym one) (subst (λ u. FreeMoment u items) e moment) in
    omega arith

pub take_exact : (passes made number taken given : ℕ) (v w : FreeView) (r : Option Frame) → v ≡ counts passes made (pass_counts number taken given ∷ []) → MatchOption r ((w ≡ v) × Held 0 (FreeMoment v)) (λ x. Takes v x w) → passes ≡ 1
    → IsNone r ↔ (taken ≡ made + given)
take_exact passes made number taken given v w None e told one =
    let s = free_from passes made number taken given v told.1.0 e one told.1.2 in
    ((λ _. omega (arith, told.1.1)), λ _. refl)
take_exact passes made number taken given v w (Some x) e told one =
    let s = free_from passes made number taken given v (x ∷ told.1.0) e one told.1.1 in
    ((λ never. cc), λ all. absurd (omega arith))

pub give_exact : (passes made number taken given : ℕ) (x : Frame) (v w : FreeView) (r : Result ⊤ Frame) → v ≡ counts passes made (pass_counts number taken given ∷ [])
    → MatchResult r (λ _. Gives v x w) (λ y. (y ≡ x) × (w ≡ v) × Held made (FreeMoment v)) → passes ≡ 1 → IsErr r ↔ (given ≡ taken)
give_exact passes made number taken given x v w (Ok u) e told one =
    let room = told.1 in
    let s = free_from passes made number taken given v room.0 e one room.2 in
    let size : v.made ≡ made = ap (λ y. y.made) e in
    ((λ never. cc), λ full. absurd (omega (arith, room.1)))
give_exact passes made number taken given x v w (Err y) e told one =
    let held = told.2 in
    let s = free_from passes made number taken given v held.0 e one held.2 in
    ((λ _. omega (arith, held.1)), λ _. refl)
