-- Copies of frames that are numbered on: their order, who looks them up, and what is kept of those that went out.
use Rattle.std.proofs.Common.{◌≡◌, ℕ, ◌+◌, ◌-◌, ◌<◌, ◌≤◌, Bool, true, false, cond, List, [], ◌∷◌, ◌++◌, map, flat_map, length, slice_get, All, Option, None, Some, IfSome, is_some, Vec, refl, sym, ap, ◌∙◌, subst, append_assoc, append-nil, length-append, arith}
use Rattle.std.specs.Global.{Global}
use Rattle.std.specs.List.{range_with_len}
use Rattle.std.specs.List.Sorted.{IsStrictlyIncreasing}
use Rattle.std.specs.Option.{option_map, unwrap_or}
use Rattle.std.proofs.lemmas.Grind.{flat_map-append}
use Rattle.std.proofs.lemmas.List.Elements.{All-cons, All-nil, All-weaker}
use Rattle.std.proofs.lemmas.List.FromFn.{length-range_with_len, get_or-range_with_len}
use Rattle.packet_headers.specs.declared.items.LayerAt.{LayerAt}
use Rattle.capture_files.specs.Record.{Frame}
use Rattle.flow_rules.specs.declared.limits.Limits.{Limits}
use Rattle.flow_rules.specs.Walk.{Flows}
use Rattle.flow_calls.specs.declared.entry.Entry.{Entry}
use Rattle.flow_calls.specs.declared.entry.Entry.TheVariants.{Asked, Passed}
use Rattle.flow_calls.specs.Totals.{is_drop}
use Rattle.port_state.specs.State.{flows_of, state_of}
use Rattle.adapter.specs.Seen.{Seen, Grows}
use Rattle.history_text.specs.Transmit.{record_behind, record_of_entry, records_of_entries}
use Rattle.whole_history.specs.Reach.{parcel_of, parcels_from}
use Rattle.running_phase.specs.declared.copies.FrameCopy.{FrameCopy}
use Rattle.running_phase.specs.Copies.{Finds, frame_of, numbers, parcels, record_of}
use Rattle.running_phase.specs.Sends.{all_sent, records_behind, sends}
use Rattle.running_phase.specs.Sends as sending
use Rattle.testpmd_shell.specs.Phase.{AreNumbered}
use Rattle.testpmd_shell.specs.Sending.{AreKept, records_kept, records_of}
use Rattle.testpmd_shell.proofs.Keeping.{grew, slice_get-seam}

-- ---- their numbers

numbers-numbered : (number : ℕ) (frames : List Frame) (copies : List FrameCopy) → AreNumbered number frames copies → numbers copies ≡ range_with_len number (length frames)
numbers-numbered number [] [] are = refl
numbers-numbered number [] (c ∷ copies) are = absurd are
numbers-numbered number (f ∷ frames) [] are = absurd are
numbers-numbered number (f ∷ frames) (c ∷ copies) are =
    ap (λ n. n ∷ numbers copies) are.0 ∙ ap (λ l. number ∷ l) (numbers-numbered (number + 1) frames copies are.2)

IsStrictlyIncreasing-range : (a n : ℕ) → IsStrictlyIncreasing (range_with_len a n)
IsStrictlyIncreasing-range a n = λ k below.
    let long : k + 1 < n = subst (λ m. k + 1 < m) (length-range_with_len a n) below in
    omega (arith, get_or-range_with_len a n k 0, get_or-range_with_len a n (k + 1) 0)

pub rising-numbered : (number : ℕ) (frames : List Frame) (copies : List FrameCopy) → AreNumbered number frames copies → IsStrictlyIncreasing (numbers copies)
rising-numbered number frames copies are = subst IsStrictlyIncreasing (sym (numbers-numbered number frames copies are)) (IsStrictlyIncreasing-range number (length frames))

above-numbered : (least number : ℕ) (frames : List Frame) (copies : List FrameCopy) → least < number → AreNumbered number frames copies → All (λ (c : FrameCopy). least < c.number) copies
above-numbered least number [] [] above are = All-nil (λ (c : FrameCopy). least < c.number)
above-numbered least number [] (c ∷ copies) above are = absurd are
above-numbered least number (f ∷ frames) [] above are = absurd are
above-numbered least number (f ∷ frames) (c ∷ copies) above are =
    let here = are.0 in
    All-cons (λ (x : FrameCopy). least < x.number) c copies (omega (arith, here)) (above-numbered least (number + 1) frames copies (omega arith) are.2)

-- frames behind those that were taken are above them
pub behind-numbered : (taken : ℕ) (frames : List Frame) (copies : List FrameCopy) (before : List ℕ) → AreNumbered (taken + 1) frames copies → All (λ n. n ≤ taken) before
    → All (λ n. All (λ (c : FrameCopy). n < c.number) copies) before
behind-numbered taken frames copies before are below =
    let above = above-numbered taken (taken + 1) frames copies (omega arith) are in
    All-weaker (λ n. n ≤ taken) (λ n. All (λ (c : FrameCopy). n < c.number) copies)
    (λ n least. All-weaker (λ (c : FrameCopy). taken < c.number) (λ (c : FrameCopy). n < c.number) (λ c more. omega arith) copies above) before below

pub parcels-numbered : (number : ℕ) (frames : List Frame) (copies : List FrameCopy) → AreNumbered number frames copies → parcels copies ≡ parcels_from number frames
parcels-numbered number [] [] are = refl
parcels-numbered number [] (c ∷ copies) are = absurd are
parcels-numbered number (f ∷ frames) [] are = absurd are
parcels-numbered number (f ∷ frames) (c ∷ copies) are =
    ap (λ n. parcel_of n (frame_of c) ∷ parcels copies) are.0 ∙ ap (λ fr. parcel_of number fr ∷ parcels copies) are.1
    ∙ ap (λ l. parcel_of number f ∷ l) (parcels-numbered (number + 1) frames copies are.2)

-- ---- who looks them up

-- a capture's frame by its number
abbrev pub frame_at : List Frame → ℕ → Option Frame
frame_at all n = slice_get all (n - 1)

finds-numbered : (all before frames rest : List Frame) (number : ℕ) (copies : List FrameCopy) → all ≡ before ++ (frames ++ rest) → number ≡ length before + 1
    → AreNumbered number frames copies → Finds (frame_at all) copies
finds-numbered all before [] rest number [] is here are = All-nil (λ (c : FrameCopy). frame_at all c.number ≡ Some (frame_of c))
finds-numbered all before [] rest number (c ∷ copies) is here are = absurd are
finds-numbered all before (f ∷ frames) rest number [] is here are = absurd are
finds-numbered all before (f ∷ frames) rest number (c ∷ copies) is here are =
    let place : number - 1 ≡ length before = omega arith in
    let found : frame_at all c.number ≡ Some (frame_of c)
    = ap (frame_at all) are.0 ∙ ap (slice_get all) place ∙ ap (λ l. slice_get l (length before)) is ∙ slice_get-seam before f (frames ++ rest) ∙ ap Some (sym are.1) in
    let next : number + 1 ≡ length (before ++ f ∷ []) + 1 = omega (arith, length-append before (f ∷ [])) in
    All-cons (λ (x : FrameCopy). frame_at all x.number ≡ Some (frame_of x)) c copies found
    (finds-numbered all (before ++ f ∷ []) frames rest (number + 1) copies (is ∙ sym (append_assoc before (f ∷ []) (frames ++ rest))) next are.2)

-- ---- what entries send, in one piece and in many

joined : List (List ℕ) → List ℕ
joined pieces = flat_map (λ (piece : List ℕ). piece) pieces

joined-append : (xs ys : List (List ℕ)) → joined (xs ++ ys) ≡ joined xs ++ joined ys
unfolding joined
joined-append xs ys = flat_map-append (λ (piece : List ℕ). piece) xs ys

joined-records : (copies : List FrameCopy) → joined (map record_of copies) ≡ records_of copies
unfolding joined
joined-records [] = refl
joined-records (c ∷ copies) = ap (λ l. record_of c ++ l) (joined-records copies)

joined-delivered : (dropped : Bool) (flows : Flows) (key : List LayerAt) (frame : Option Frame)
    → joined (cond dropped [] (records_behind flows key frame)) ≡ cond dropped [] (unwrap_or (option_map (record_behind flows key) frame) [])
unfolding joined
joined-delivered true flows key frame = refl
joined-delivered false flows key None = refl
joined-delivered false flows key (Some frame) = append-nil (record_behind flows key frame)

joined-entry : (limits : Limits) (all : List Frame) (before : List Entry) (e : Entry) → joined (sends limits (frame_at all) before e) ≡ record_of_entry limits all before e
unfolding joined
joined-entry limits all before (Asked caller call reply) = refl
joined-entry limits all before (Passed caller parcel verdict) =
    joined-delivered (is_drop verdict.fate) (flows_of (state_of limits before)) parcel.key (frame_at all parcel.number)

joined-sent : (limits : Limits) (all : List Frame) (before es : List Entry) → joined (all_sent limits (frame_at all) before es) ≡ records_of_entries limits all before es
unfolding joined
joined-sent limits all before [] = refl
joined-sent limits all before (e ∷ es) =
    let rest = all_sent limits (frame_at all) (before ++ e ∷ []) es in
    joined-append (sends limits (frame_at all) before e) rest
    ∙ ap (λ l. l ++ joined rest) (joined-entry limits all before e)
    ∙ ap (λ l. record_of_entry limits all before e ++ l) (joined-sent limits all (before ++ e ∷ []) es)

-- ---- what is kept behind a phase's middle

-- what was sent is put behind what was kept
abbrev pub IsKeptMore : Option (Vec FrameCopy Global) → Option (Vec FrameCopy Global) → Option (Vec FrameCopy Global) → Type 0
IsKeptMore kept sent kept' = (records : List ℕ) → (kept_records : List ℕ) → records_kept kept ≡ Some kept_records → records_kept sent ≡ Some records
    → records_kept kept' ≡ Some (kept_records ++ records)

some-same : (x y : List ℕ) → Some x ≡ Some y → x ≡ y
some-same x y e = cc

module _ (taken : ℕ) (frames more : List Frame) (copies : List FrameCopy) (old new : Seen) (middle : List Entry) (grows : Grows old new middle) (are : AreNumbered (taken + 1) more copies) where
  kept_records : (kept sent kept' : Option (Vec FrameCopy Global)) → taken ≡ length frames → is_some sent ≡ is_some kept → is_some kept' ≡ is_some kept → IsKeptMore kept sent kept'
      → ((look : ℕ → Option Frame) → Finds look copies → sending.AreKept (all_sent old.limits look old.history middle) sent)
      → IfSome (records_kept kept) (λ bytes. (rest : List Frame) → bytes ≡ records_of_entries old.limits (frames ++ rest) [] old.history)
      → IfSome (records_kept kept') (λ bytes. (rest : List Frame) → bytes ≡ records_of_entries new.limits ((frames ++ more) ++ rest) [] new.history)
  kept_records None sent None counted same still put goes was = tt
  kept_records None sent (Some list) counted same still put goes was = cc
  kept_records (Some list) None kept' counted same still put goes was = cc
  kept_records (Some list) (Some sent) None counted same still put goes was = cc
  kept_records (Some list) (Some sent) (Some list') counted same still put goes was = λ rest.
      let all = (frames ++ more) ++ rest in
      let whole : all ≡ frames ++ (more ++ rest) = append_assoc frames more rest in
      let here : taken + 1 ≡ length frames + 1 = ap (λ n. n + 1) counted in
      let finds : Finds (frame_at all) copies = finds-numbered all frames more rest (taken + 1) copies whole here are in
      let sent_is : records_of sent.items ≡ records_of_entries old.limits all old.history middle
      = sym (joined-records sent.items) ∙ ap joined (goes (frame_at all) finds) ∙ joined-sent old.limits all old.history middle in
      some-same (records_of list'.items) (records_of list.items ++ records_of sent.items) (put (records_of sent.items) (records_of list.items) refl refl)
      ∙ ap (λ l. l ++ records_of sent.items) (was (more ++ rest) ∙ ap (λ fs. records_of_entries old.limits fs [] old.history) (sym whole))
      ∙ ap (λ l. records_of_entries old.limits all [] old.history ++ l) sent_is
      ∙ grew old new middle all grows

  pub kept-sent : (kept sent kept' : Option (Vec FrameCopy Global)) → is_some sent ≡ is_some kept → is_some kept' ≡ is_some kept → IsKeptMore kept sent kept'
      → ((look : ℕ → Option Frame) → Finds look copies → sending.AreKept (all_sent old.limits look old.history middle) sent)
      → AreKept (records_kept kept) taken frames old → AreKept (records_kept kept') (taken + length more) (frames ++ more) new
  kept-sent kept sent kept' same still put goes was = record {
    counted = let counted = was.counted in omega (arith, length-append frames more);
    records = kept_records kept sent kept' was.counted same still put goes was.records;
  }
