-- What is kept of the frames that were taken, behind more entries.
use Rattle.std.proofs.Common.{◌≡◌, ℕ, ◌+◌, ◌-◌, List, [], ◌∷◌, ◌++◌, length, slice_get, Option, None, Some, IfSome, is_some, Vec, Bool, true, false, cond, refl, sym, ap, ◌∙◌, subst, append_assoc, append-nil, length-append, arith}
use Rattle.std.specs.Global.{Global}
use Rattle.std.specs.Io.KnownBytes.{append_known}
use Rattle.packet_headers.specs.Layers.{layers}
use Rattle.capture_files.specs.Record.{Frame}
use Rattle.flow_rules.specs.declared.limits.Limits.{Limits}
use Rattle.flow_rules.specs.Walk.{verdict_of}
use Rattle.flow_calls.specs.declared.call.Call.{Call}
use Rattle.flow_calls.specs.declared.entry.Entry.{Entry}
use Rattle.adapter.specs.Seen.{Seen, Grows}
use Rattle.adapter.specs.History.{asked_by, passed_by}
use Rattle.history_text.specs.Transmit.{delivered, record_of_entry, records_of_entries}
use Rattle.history_text.proofs.TransmitLaws.{records_of_entries-append}
use Rattle.whole_history.specs.Serial.{caller_at, asks_of, all_asks_of}
use Rattle.testpmd_shell.specs.declared.feed.Arrived.{Arrived}
use Rattle.testpmd_shell.specs.Feed.{frame_in}
use Rattle.testpmd_shell.specs.Phase.{parcel_at}
use Rattle.running_phase.specs.declared.copies.FrameCopy.{FrameCopy}
use Rattle.testpmd_shell.specs.Sending.{flows_now, records_kept, sent_by, AreKept}

-- calls send nothing
pub sends-asks : (limits : Limits) (who : ℕ) (calls : List Call) (h : List Entry) (l : Limits) (frames : List Frame) (before : List Entry)
    → records_of_entries l frames before (asks_of limits who calls h) ≡ []
sends-asks limits who [] h l frames before = refl
sends-asks limits who (call ∷ calls) h l frames before =
    let asked = asked_by limits h (caller_at who) call ∷ [] in sends-asks limits who calls (h ++ asked) l frames (before ++ asked)

pub sends-all_asks : (limits : Limits) (who : ℕ) (lists : List (List Call)) (h : List Entry) (l : Limits) (frames : List Frame) (before : List Entry)
    → records_of_entries l frames before (all_asks_of limits who lists h) ≡ []
sends-all_asks limits who [] h l frames before = refl
sends-all_asks limits who (calls ∷ others) h l frames before =
    let asked = asks_of limits who calls h in
    let rest = all_asks_of limits (who + 1) others (h ++ asked) in
    records_of_entries-append l frames before asked rest
    ∙ ap (λ r. r ++ records_of_entries l frames (before ++ asked) rest) (sends-asks limits who calls h l frames before)
    ∙ sends-all_asks limits (who + 1) others (h ++ asked) l frames (before ++ asked)

-- what a history and more entries send
pub grew : (old new : Seen) (es : List Entry) (frames : List Frame) → Grows old new es
    → records_of_entries old.limits frames [] old.history ++ records_of_entries old.limits frames old.history es ≡ records_of_entries new.limits frames [] new.history
grew old new es frames grows =
    sym (records_of_entries-append old.limits frames [] old.history es)
    ∙ ap (records_of_entries old.limits frames []) (sym grows.history)
    ∙ ap (λ l. records_of_entries l frames [] new.history) (sym grows.limits)

IsRecord : Seen → List Frame → List ℕ → Type 0
IsRecord adapter frames bytes = (rest : List Frame) → bytes ≡ records_of_entries adapter.limits (frames ++ rest) [] adapter.history

-- entries that send nothing
pub AreKept-quiet : (kept : Option (List ℕ)) (taken : ℕ) (frames : List Frame) (old new : Seen) (es : List Entry) → Grows old new es
    → ((l : Limits) → (fs : List Frame) → (before : List Entry) → records_of_entries l fs before es ≡ [])
    → AreKept kept taken frames old → AreKept kept taken frames new
unfolding IsRecord
AreKept-quiet kept taken frames old new es grows none are = record { counted = are.counted; records = by kept are.records } where
  by : (k : Option (List ℕ)) → IfSome k (IsRecord old frames) → IfSome k (IsRecord new frames)
  by None r = tt
  by (Some bytes) r = λ rest.
      let all = frames ++ rest in
      let first = records_of_entries old.limits all [] old.history in
      r rest ∙ sym (append-nil first) ∙ ap (λ l. first ++ l) (sym (none old.limits all old.history)) ∙ grew old new es all grows

pub AreKept-asks : (kept : Option (List ℕ)) (taken : ℕ) (frames : List Frame) (limits : Limits) (who : ℕ) (calls : List Call) (h : List Entry) (old new : Seen)
    → Grows old new (asks_of limits who calls h) → AreKept kept taken frames old → AreKept kept taken frames new
AreKept-asks kept taken frames limits who calls h old new grows =
    AreKept-quiet kept taken frames old new (asks_of limits who calls h) grows (sends-asks limits who calls h)

pub AreKept-all_asks : (kept : Option (List ℕ)) (taken : ℕ) (frames : List Frame) (limits : Limits) (who : ℕ) (lists : List (List Call)) (h : List Entry) (old new : Seen)
    → Grows old new (all_asks_of limits who lists h) → AreKept kept taken frames old → AreKept kept taken frames new
AreKept-all_asks kept taken frames limits who lists h old new grows =
    AreKept-quiet kept taken frames old new (all_asks_of limits who lists h) grows (sends-all_asks limits who lists h)

-- the same frames in other words
pub AreKept-none : (kept : Option (List ℕ)) (taken : ℕ) (frames : List Frame) (adapter : Seen) → AreKept kept taken frames adapter → AreKept kept taken (frames ++ []) adapter
AreKept-none kept taken frames adapter are = subst (λ fs. AreKept kept taken fs adapter) (sym (append-nil frames)) are

pub slice_get-seam : (xs : List Frame) (x : Frame) (ys : List Frame) → slice_get (xs ++ x ∷ ys) (length xs) ≡ Some x
slice_get-seam [] x ys = refl
slice_get-seam (y ∷ xs) x ys = slice_get-seam xs x ys

-- what the entry of a frame sends, where the frame is there
sent-is : (adapter : Seen) (arrived : Arrived) (bytes : List ℕ) (number : ℕ) (frames : List Frame)
    → slice_get frames (number - 1) ≡ Some (frame_in arrived bytes)
    → sent_by (flows_now adapter) arrived bytes ≡ record_of_entry adapter.limits frames adapter.history (passed_by adapter.limits adapter.history (caller_at 9) (parcel_at number bytes))
unfolding sent_by
sent-is adapter arrived bytes number frames is =
    ap (delivered (verdict_of (flows_now adapter) (layers bytes)).fate (flows_now adapter) (layers bytes)) (sym is)

-- one more frame
pub AreKept-frame : (kept kept' : Option (List ℕ)) (taken : ℕ) (frames : List Frame) (arrived : Arrived) (bytes : List ℕ) (old new : Seen)
    → Grows old new (passed_by old.limits old.history (caller_at 9) (parcel_at (taken + 1) bytes) ∷ [])
    → kept' ≡ append_known kept (sent_by (flows_now old) arrived bytes)
    → AreKept kept taken frames old → AreKept kept' (taken + 1) (frames ++ frame_in arrived bytes ∷ []) new
unfolding IsRecord
AreKept-frame kept kept' taken frames arrived bytes old new grows more are =
    let frame = frame_in arrived bytes in record {
      counted = omega (arith, length-append frames (frame ∷ []), are.counted);
      records = by kept kept' more are.records;
    } where
      by : (k k' : Option (List ℕ)) → k' ≡ append_known k (sent_by (flows_now old) arrived bytes)
          → IfSome k (IsRecord old frames) → IfSome k' (IsRecord new (frames ++ frame_in arrived bytes ∷ []))
      by None k' e r = subst (λ o. IfSome o (IsRecord new (frames ++ frame_in arrived bytes ∷ []))) (sym e) tt
      by (Some bs) k' e r = subst (λ o. IfSome o (IsRecord new (frames ++ frame_in arrived bytes ∷ []))) (sym e) (λ rest.
          let frame = frame_in arrived bytes in
          let all = frames ++ frame ∷ rest in
          let entry = passed_by old.limits old.history (caller_at 9) (parcel_at (taken + 1) bytes) in
          let here : slice_get all (taken + 1 - 1) ≡ Some frame =
          ap (slice_get all) (let same : taken + 1 - 1 ≡ length frames = omega (arith, are.counted) in same) ∙ slice_get-seam frames frame rest in
          let first = records_of_entries old.limits all [] old.history in
          let sent = record_of_entry old.limits all old.history entry in
          ap (λ l. l ++ sent_by (flows_now old) arrived bytes) (r (frame ∷ rest))
          ∙ ap (λ l. first ++ l) (sent-is old arrived bytes (taken + 1) all here ∙ sym (append-nil sent))
          ∙ grew old new (entry ∷ []) all grows
          ∙ ap (λ l. records_of_entries new.limits l [] new.history) (sym (append_assoc frames (frame ∷ []) rest)))

-- before the run
pub AreKept-start : (keeps : Bool) (adapter : Seen) → adapter.history ≡ [] → AreKept (cond keeps (Some []) None) 0 [] adapter
unfolding IsRecord
AreKept-start keeps adapter empty = record { counted = refl; records = by keeps } where
  by : (k : Bool) → IfSome (cond k (Some []) None) (IsRecord adapter [])
  by true = λ rest. ap (records_of_entries adapter.limits rest []) (sym empty)
  by false = tt

pub some-kept : (keeps : Bool) (kept : Option (List ℕ)) → kept ≡ cond keeps (Some []) None → is_some kept ≡ keeps
some-kept true kept is = ap is_some is
some-kept false kept is = ap is_some is

pub some-records : (kept : Option (Vec FrameCopy Global)) → is_some (records_kept kept) ≡ is_some kept
some-records None = refl
some-records (Some list) = refl
