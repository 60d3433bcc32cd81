-- A worker's frames, burst after burst: those that were taken, those that are left, and their numbers.
use Rattle.std.proofs.Common.{◌≡◌, ℕ, suc, ◌+◌, ◌<◌, ◌==◌, Bool, true, false, cond, List, [], ◌∷◌, ◌++◌, map, flat_map, filter, take, length, get_or, All, AllPairs, Some, Option, refl, sym, ap, ◌∙◌, subst, append_assoc, append-nil, length-append, arith}
use Rattle.std.specs.List.Sorted.{IsStrictlyIncreasing}
use Rattle.std.proofs.lemmas.List.{map-append, length-map, get_or-map, get_or_append_left, get_or-append-add, take_more}
use Rattle.std.proofs.lemmas.List.Elements.{All-nil, All-cons, All-head, All-tail, All-append, All-filter, All-map, All-weaker, filter-append}
use Rattle.std.proofs.lemmas.Grind.{flat_map-append}
use Rattle.std.proofs.lemmas.List.Kept.{AllPairs-from_increasing, IsStrictlyIncreasing-filter}
use Rattle.packet_headers.specs.declared.items.LayerAt.{LayerAt}
use Rattle.packet_headers.specs.Layers.{LieWithin, layers}
use Rattle.packet_headers.proofs.InOrder.{LieWithin-layers}
use Rattle.capture_files.specs.Record.{Frame}
use Rattle.flow_rules.specs.Walk.{Flows}
use Rattle.flow_calls.specs.declared.parcel.Parcel.{Parcel}
use Rattle.flow_calls.specs.declared.entry.Entry.{Entry}
use Rattle.flow_calls.specs.Entries.{numbers_by}
use Rattle.flow_port.specs.Bursts.{Rise}
use Rattle.whole_history.specs.Reach.{parcel_of}
use Rattle.running_phase.specs.declared.copies.FrameCopy.{FrameCopy}
use Rattle.running_phase.specs.declared.worker.bursts.Burst.{Burst}
use Rattle.running_phase.specs.Copies.{Finds, frame_of, numbers, parcels}
use Rattle.running_phase.specs.Shares.{share_of, taker_of}
use Rattle.running_phase.specs.Turns.{Has, Took, lent, taken_by}

-- ---- lists in two parts

pub All-first : {X : Type 0} (P : X → Type 0) (xs ys : List X) → All P (xs ++ ys) → All P xs
All-first P [] ys all = All-nil P
All-first P (x ∷ xs) ys all = All-cons P x xs (All-head P x (xs ++ ys) all) (All-first P xs ys (All-tail P x (xs ++ ys) all))

pub All-last : {X : Type 0} (P : X → Type 0) (xs ys : List X) → All P (xs ++ ys) → All P ys
All-last P [] ys all = all
All-last P (x ∷ xs) ys all = All-last P xs ys (All-tail P x (xs ++ ys) all)

All-mapped : {X Y : Type 0} (P : Y → Type 0) (f : X → Y) (xs : List X) → All P (map f xs) → All (λ x. P (f x)) xs
All-mapped P f [] all = All-nil (λ x. P (f x))
All-mapped P f (x ∷ xs) all = All-cons (λ y. P (f y)) x xs (All-head P (f x) (map f xs) all) (All-mapped P f xs (All-tail P (f x) (map f xs) all))

-- what was added and what is left make the whole
pub adds_up : {X : Type 0} (new old more rest whole all : List X) → new ≡ old ++ more → whole ≡ more ++ rest → old ++ whole ≡ all → new ++ rest ≡ all
adds_up new old more rest whole all grew parts so_far = ap (λ l. l ++ rest) grew ∙ append_assoc old more rest ∙ ap (λ l. old ++ l) (sym parts) ∙ so_far

-- of numbers that rise, both parts rise
first_rises : (xs ys : List ℕ) → IsStrictlyIncreasing (xs ++ ys) → IsStrictlyIncreasing xs
first_rises xs ys rising k lt =
    let here = get_or_append_left xs ys 0 k (omega arith) in
    let next = get_or_append_left xs ys 0 (k + 1) lt in
    let step = rising k (omega (arith, length-append xs ys)) in
    omega (arith, here, next, step)

last_rises : (xs ys : List ℕ) → IsStrictlyIncreasing (xs ++ ys) → IsStrictlyIncreasing ys
last_rises xs ys rising k lt =
    let here = get_or-append-add xs ys k 0 in
    let next = get_or-append-add xs ys (k + 1) 0 in
    let same : length xs + k + 1 ≡ length xs + (k + 1) = omega arith in
    let moved = ap (λ n. get_or (xs ++ ys) n 0) same in
    let step = rising (length xs + k) (omega (arith, length-append xs ys)) in
    omega (arith, here, next, moved, step)

-- and the first part is below the last
below_last : (xs ys : List ℕ) → AllPairs (λ a b. a < b) (xs ++ ys) → All (λ x. All (λ y. x < y) ys) xs
below_last [] ys pairs = All-nil (λ x. All (λ y. x < y) ys)
below_last (x ∷ xs) ys pairs =
    All-cons (λ a. All (λ y. a < y) ys) x xs
    (All-last (λ y. x < y) xs ys (λ k d within. pairs 0 (suc k) d (omega arith) (omega arith)))
    (below_last xs ys (λ i j d lt within. pairs (suc i) (suc j) d (omega arith) (omega arith)))

-- ---- a worker's frames

-- their parcels are its share
pub parcels_taken : (workers who : ℕ) (copies : List FrameCopy) → parcels (taken_by workers who copies) ≡ share_of workers who (parcels copies)
parcels_taken workers who [] = refl
parcels_taken workers who (c ∷ cs) = by (taker_of workers c.number == who) (parcels_taken workers who cs) where
  by : (b : Bool) → parcels (taken_by workers who cs) ≡ share_of workers who (parcels cs)
      → parcels (cond b (c ∷ taken_by workers who cs) (taken_by workers who cs)) ≡ cond b (parcel_of c.number (frame_of c) ∷ share_of workers who (parcels cs)) (share_of workers who (parcels cs))
  by true rest = ap (λ l. parcel_of c.number (frame_of c) ∷ l) rest
  by false rest = rest

-- their numbers are those of the numbers
numbers_taken : (workers who : ℕ) (copies : List FrameCopy) → map (λ (p : Parcel). p.number) (parcels (taken_by workers who copies)) ≡ filter (λ n. taker_of workers n == who) (numbers copies)
numbers_taken workers who [] = refl
numbers_taken workers who (c ∷ cs) = by (taker_of workers c.number == who) (numbers_taken workers who cs) where
  by : (b : Bool) → map (λ (p : Parcel). p.number) (parcels (taken_by workers who cs)) ≡ filter (λ n. taker_of workers n == who) (numbers cs)
      → map (λ (p : Parcel). p.number) (parcels (cond b (c ∷ taken_by workers who cs) (taken_by workers who cs)))
      ≡ cond b (c.number ∷ filter (λ n. taker_of workers n == who) (numbers cs)) (filter (λ n. taker_of workers n == who) (numbers cs))
  by true rest = ap (λ l. c.number ∷ l) rest
  by false rest = rest

-- one more frame was looked at
pub Took-more : (workers who : ℕ) (flows : Flows) (copies left : List FrameCopy) (burst after : Burst) (c : FrameCopy) (behind : List FrameCopy)
    → Took workers who flows copies left burst → left ≡ c ∷ behind
    → ((cs : List FrameCopy) → Has flows cs burst → Has flows (cs ++ taken_by workers who (c ∷ [])) after) → Took workers who flows copies behind after
Took-more workers who flows copies left burst after c behind took parts more = record {
  front = took.front ++ c ∷ [];
  parts = took.parts ∙ ap (λ l. took.front ++ l) parts ∙ sym (append_assoc took.front (c ∷ []) behind);
  has = subst (λ cs. Has flows cs after) (sym (filter-append (λ (x : FrameCopy). taker_of workers x.number == who) took.front (c ∷ []))) (more (taken_by workers who took.front) took.has);
}

-- ---- the numbers of a burst, and of the frames that are left

module _ (workers who : ℕ) (flows : Flows) (copies left : List FrameCopy) (burst : Burst) (took : Took workers who flows copies left burst)
    (history : List Entry) (rising : IsStrictlyIncreasing (numbers copies)) (behind : All (λ n. All (λ (c : FrameCopy). n < c.number) copies) (numbers_by who history)) where
  cut : numbers copies ≡ numbers took.front ++ numbers left
  cut = ap numbers took.parts ∙ map-append (λ (c : FrameCopy). c.number) took.front left

  burst_numbers : map (λ (p : Parcel). p.number) burst.parcels.items ≡ filter (λ n. taker_of workers n == who) (numbers took.front)
  burst_numbers = ap (map (λ (p : Parcel). p.number)) took.has.packed ∙ numbers_taken workers who took.front

  -- who is above all of these is above the burst
  above_burst : (n : ℕ) → All (λ (c : FrameCopy). n < c.number) copies → All (λ (p : Parcel). n < p.number) burst.parcels.items
  above_burst n all =
      let front = All-first (λ (c : FrameCopy). n < c.number) took.front left (subst (All (λ (c : FrameCopy). n < c.number)) took.parts all) in
      let own = All-filter (λ (c : FrameCopy). taker_of workers c.number == who) (λ c. n < c.number) took.front front in
      subst (All (λ (p : Parcel). n < p.number)) (sym took.has.packed) (All-map (λ (p : Parcel). n < p.number) (λ c. parcel_of c.number (frame_of c)) (taken_by workers who took.front) own)

  pub rises_burst : Rise who history burst.parcels.items
  rises_burst = (
    subst IsStrictlyIncreasing (sym burst_numbers) (IsStrictlyIncreasing-filter (λ n. taker_of workers n == who) (numbers took.front) (first_rises (numbers took.front) (numbers left) (subst IsStrictlyIncreasing cut rising))),
    All-weaker (λ n. All (λ (c : FrameCopy). n < c.number) copies) (λ n. All (λ (p : Parcel). n < p.number) burst.parcels.items) above_burst (numbers_by who history) behind,
  )

  pub rises_left : IsStrictlyIncreasing (numbers left)
  rises_left = last_rises (numbers took.front) (numbers left) (subst IsStrictlyIncreasing cut rising)

  -- the frames that are left are above those that the history has now
  pub below_left : (later : List Entry) → numbers_by who later ≡ numbers_by who history ++ map (λ (p : Parcel). p.number) burst.parcels.items
      → All (λ n. All (λ (c : FrameCopy). n < c.number) left) (numbers_by who later)
  below_left later grew =
      let Below : ℕ → Type 0 = λ n. All (λ (c : FrameCopy). n < c.number) left in
      let old : All Below (numbers_by who history) = All-weaker (λ n. All (λ (c : FrameCopy). n < c.number) copies) Below
      (λ n all. All-last (λ (c : FrameCopy). n < c.number) took.front left (subst (All (λ (c : FrameCopy). n < c.number)) took.parts all)) (numbers_by who history) behind in
      let pairs = AllPairs-from_increasing (numbers took.front ++ numbers left) (subst IsStrictlyIncreasing cut rising) in
      let front : All Below (numbers took.front) = All-weaker (λ n. All (λ y. n < y) (numbers left)) Below
      (λ n all. All-mapped (λ y. n < y) (λ (c : FrameCopy). c.number) left all) (numbers took.front) (below_last (numbers took.front) (numbers left) pairs) in
      let own : All Below (map (λ (p : Parcel). p.number) burst.parcels.items)
      = subst (All Below) (sym burst_numbers) (All-filter (λ n. taker_of workers n == who) Below (numbers took.front) front) in
      subst (All Below) (sym grew) (All-append Below (numbers_by who history) (map (λ (p : Parcel). p.number) burst.parcels.items) old own)

-- the share of what is left, behind a burst
pub share_left : (workers who : ℕ) (flows : Flows) (copies left : List FrameCopy) (burst : Burst) (took : Took workers who flows copies left burst)
    → share_of workers who (parcels copies) ≡ burst.parcels.items ++ share_of workers who (parcels left)
share_left workers who flows copies left burst took =
    let mine = λ (p : Parcel). taker_of workers p.number == who in
    ap (λ cs. share_of workers who (parcels cs)) took.parts
    ∙ ap (share_of workers who) (map-append (λ (c : FrameCopy). parcel_of c.number (frame_of c)) took.front left)
    ∙ filter-append mine (parcels took.front) (parcels left)
    ∙ ap (λ l. l ++ share_of workers who (parcels left)) (sym (parcels_taken workers who took.front) ∙ sym took.has.packed)

-- frames that are found among all are found among the burst's and those that are left
pub finds_burst : (look : ℕ → Option Frame) (workers who : ℕ) (flows : Flows) (copies left : List FrameCopy) (burst : Burst) (took : Took workers who flows copies left burst)
    → Finds look copies → Finds look (lent burst)
finds_burst look workers who flows copies left burst took finds =
    let F : FrameCopy → Type 0 = λ c. look c.number ≡ Some (frame_of c) in
    subst (All F) (sym took.has.same) (All-filter (λ (c : FrameCopy). taker_of workers c.number == who) F took.front (All-first F took.front left (subst (All F) took.parts finds)))

pub finds_left : (look : ℕ → Option Frame) (workers who : ℕ) (flows : Flows) (copies left : List FrameCopy) (burst : Burst) (took : Took workers who flows copies left burst)
    → Finds look copies → Finds look left
finds_left look workers who flows copies left burst took finds =
    let F : FrameCopy → Type 0 = λ c. look c.number ≡ Some (frame_of c) in
    All-last F took.front left (subst (All F) took.parts finds)

-- ---- each frame of a burst

-- there is a verdict for each
pub even : (flows : Flows) (copies : List FrameCopy) (burst : Burst) → Has flows copies burst → length burst.verdicts.items ≡ length burst.parcels.items
even flows copies burst has = ap length has.judged ∙ length-map (parcels copies) _ ∙ ap length (sym has.packed)

pub at_mapped : {X Y : Type 0} (xs : List X) (i : ℕ) (x : X) (f : X → Y) → i < length xs → x ≡ get_or xs i x → f x ≡ get_or (map f xs) i (f x)
at_mapped xs i x f lt is = ap f is ∙ sym (get_or-map f xs i x (f x) lt)

-- the parcel at a place is that of the frame there
pub parcel_at : (copies : List FrameCopy) (ps : List Parcel) (i : ℕ) (c : FrameCopy) (p : Parcel) → ps ≡ parcels copies → i < length copies
    → c ≡ get_or copies i c → p ≡ get_or ps i p → p ≡ parcel_of c.number (frame_of c)
parcel_at copies ps i c p packed lt at_c at_p =
    let P = λ (x : FrameCopy). parcel_of x.number (frame_of x) in
    at_p ∙ ap (λ l. get_or l i p) packed ∙ get_or-map P copies i c p lt ∙ ap P (sym at_c)

-- what goes out of one frame more
pub out_more : (f : FrameCopy → List (List ℕ)) (copies : List FrameCopy) (i : ℕ) (c : FrameCopy) → i < length copies → c ≡ get_or copies i c
    → flat_map f (take (i + 1) copies) ≡ flat_map f (take i copies) ++ f c
out_more f copies i c lt at =
    ap (flat_map f) (take_more copies i c lt)
    ∙ flat_map-append f (take i copies) (get_or copies i c ∷ [])
    ∙ ap (λ l. flat_map f (take i copies) ++ l) (append-nil (f (get_or copies i c)) ∙ ap f (sym at))

-- a frame's headers lie in a copy of it
pub within_copy : (copied : List ℕ) (p : Parcel) (c : FrameCopy) → copied ≡ c.bytes.items → p ≡ parcel_of c.number (frame_of c) → LieWithin 0 (length copied) p.key
within_copy copied p c same is =
    let P : List LayerAt → Type 0 = LieWithin 0 (length copied) in
    let Q : List ℕ → Type 0 = λ bytes. LieWithin 0 (length bytes) (layers c.bytes.items) in
    subst P (sym (ap (λ (q : Parcel). q.key) is)) (subst Q (sym same) (LieWithin-layers c.bytes.items))
