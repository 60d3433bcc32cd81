-- One more frame of a phase, and the phase's end.
use Rattle.std.proofs.Common.{◌≡◌, ℕ, ◌+◌, ◌-◌, ◌<◌, ◌≤◌, Bool, true, false, List, [], ◌∷◌, ◌++◌, length, take, Option, None, Some, refl, sym, ap, ◌∙◌, subst, append_assoc, append-nil, add-zero, length-append, arith, inl, inr, eqb}
use Rattle.std.specs.Prelude.{◌⊎◌}
use Rattle.std.proofs.lemmas.Bool.Decides.{nat_tests}
use Rattle.capture_files.specs.Record.{Frame}
use Rattle.io_edges.specs.ShelfState.{SlotState}
use Rattle.flow_calls.specs.declared.entry.Entry.{Entry}
use Rattle.flow_calls.specs.declared.parcel.Parcel.{Parcel}
use Rattle.adapter.specs.Seen.{Seen, Grows}
use Rattle.adapter.specs.History.{passed_by}
use Rattle.flow_rules.specs.declared.limits.Limits.{Limits}
use Rattle.running_phase.specs.declared.copies.FrameCopy.{FrameCopy}
use Rattle.running_phase.specs.Copies.{frame_of}
use Rattle.whole_history.specs.Reach.{parcel_of}
use Rattle.whole_history.specs.Serial.{caller_at, passes_of}
use Rattle.whole_history.proofs.Extending.{passes_of-last}
use Rattle.std.specs.Io.KnownBytes.{append_known}
use Rattle.testpmd_shell.specs.declared.feed.Feed.{Feed}
use Rattle.testpmd_shell.specs.declared.feed.Arrived.{Arrived}
use Rattle.testpmd_shell.specs.Feed.{HasRead, ReadsOn, frame_in}
use Rattle.testpmd_shell.specs.Sending.{flows_now, sent_by, AreKept}
use Rattle.testpmd_shell.proofs.Keeping.{AreKept-none, AreKept-frame}
use Rattle.testpmd_shell.specs.Phase.{parcel_at, is_spent, one_less, IsLeftOf, IsFull, AreEntered, AreNumbered, GoesOn, Takes}

-- ---- the count

IsLeftOf-next : (count left : Option ℕ) (taken : ℕ) → is_spent left ≡ false → IsLeftOf count taken left → IsLeftOf count (taken + 1) (one_less left)
IsLeftOf-next None left taken unspent remains = ap one_less remains
IsLeftOf-next (Some n) left taken unspent remains =
    let some : eqb (n - taken) 0 ≡ false = subst (λ o. is_spent o ≡ false) remains.1 unspent in
    let room : taken < n = grind (arith, nat_tests) in
    (omega arith, ap one_less remains.1 ∙ ap Some (let same : n - taken - 1 ≡ n - (taken + 1) = omega arith in same))

IsFull-here : (count left : Option ℕ) (taken : ℕ) (ended ended' : Bool) → ended' ≡ ended → IsLeftOf count taken left → (ended' ≡ true) ⊎ (is_spent left ≡ true) → IsFull count taken ended ended'
IsFull-here None left taken ended ended' same remains (inl at_end) = at_end
IsFull-here None left taken ended ended' same remains (inr spent) = absurd (never (subst (λ o. is_spent o ≡ true) remains spent)) where
  never : false ≡ true → ⊥
  never e = cc
IsFull-here (Some n) left taken ended ended' same remains (inl at_end) = (remains.0, λ e. absurd (apart e), λ e e'. absurd (other e)) where
  apart : ended' ≡ false → ⊥
  apart e = cc

  other : ended ≡ false → ⊥
  other e = cc
IsFull-here (Some n) left taken ended ended' same remains (inr spent) =
    let none : eqb (n - taken) 0 ≡ true = subst (λ o. is_spent o ≡ true) remains.1 spent in
    let all : n ≤ taken = grind (arith, nat_tests) in
    (remains.0, λ e. omega arith, λ e e'. absurd (apart e e')) where
      apart : ended ≡ false → ended' ≡ true → ⊥
      apart e e' = cc

IsFull-ended : (count left : Option ℕ) (taken : ℕ) (ended ended' : Bool) → ended' ≡ true → IsLeftOf count taken left → is_spent left ≡ false → IsFull count taken ended ended'
IsFull-ended None left taken ended ended' at_end remains unspent = at_end
IsFull-ended (Some n) left taken ended ended' at_end remains unspent =
    let some : eqb (n - taken) 0 ≡ false = subst (λ o. is_spent o ≡ false) remains.1 unspent in
    let room : taken < n = grind (arith, nat_tests) in
    (remains.0, λ e. absurd (apart e), λ e e'. room) where
      apart : ended' ≡ false → ⊥
      apart e = cc

-- ---- the frames

module _ (content : List ℕ) (frames : List Frame) where
  -- nothing was taken so far
  pub GoesOn-none : (Dealt : List Frame → Type 0) (count : Option ℕ) (feed : Feed) (slot : SlotState) → Dealt [] → HasRead feed slot content frames
      → GoesOn Dealt count count feed feed slot content frames
  GoesOn-none Dealt count feed slot dealt has = record {
    takes = record {
      more = [];
      read = subst (HasRead feed slot content) (sym (append-nil frames)) has;
      counted = sym (add-zero feed.taken);
      dealt = dealt;
      none = λ ended. (refl, ended);
    };
    remains = all count;
  } where
    all : (count : Option ℕ) → IsLeftOf count 0 count
    all None = refl
    all (Some n) = (omega arith, ap Some (let same : n ≡ n - 0 = omega arith in same))

  -- one more frame was taken
  pub GoesOn-next : (Dealt Dealt' : List Frame → Type 0) (count left : Option ℕ) (start feed feed' : Feed) (slot slot' : SlotState) (arrived : Arrived)
      → (so_far : GoesOn Dealt count left start feed slot content frames) → start.reader.ended ≡ false → is_spent left ≡ false
      → ReadsOn feed' slot' content (frames ++ so_far.takes.more) (Some arrived) → feed'.taken ≡ feed.taken + 1
      → Dealt' (so_far.takes.more ++ frame_in arrived (take arrived.len feed'.buffer.items) ∷ [])
      → GoesOn Dealt' count (one_less left) start feed' slot' content frames
  GoesOn-next Dealt Dealt' count left start feed feed' slot slot' arrived so_far running unspent reads counts dealt =
      let more = so_far.takes.more in
      let frame = frame_in arrived (take arrived.len feed'.buffer.items) in
      let long : length (more ++ frame ∷ []) ≡ length more + 1 = length-append more (frame ∷ []) in
      record {
        takes = record {
          more = more ++ frame ∷ [];
          read = subst (HasRead feed' slot' content) (append_assoc frames more (frame ∷ [])) reads;
          counted = let counted = so_far.takes.counted in omega arith;
          dealt = dealt;
          none = λ ended. cc;
        };
        remains = subst (λ n. IsLeftOf count n (one_less left)) (sym long) (IsLeftOf-next count left (length more) unspent so_far.remains);
      }

  module _ (Dealt : List Frame → Type 0) (count left : Option ℕ) (start feed feed' : Feed) (slot slot' : SlotState) (so_far : GoesOn Dealt count left start feed slot content frames) where
    -- the phase has all its frames, or the capture had ended before it
    pub Takes-here : feed.reader.ended ≡ start.reader.ended → (feed.reader.ended ≡ true) ⊎ (is_spent left ≡ true) → Takes Dealt count start feed slot content frames
    Takes-here same done = record {
      takes = so_far.takes;
      full = IsFull-here count left (length so_far.takes.more) start.reader.ended feed.reader.ended same so_far.remains done;
    }

    -- the capture ended
    pub Takes-ended : is_spent left ≡ false → HasRead feed' slot' content (frames ++ so_far.takes.more) → feed'.taken ≡ feed.taken → feed'.reader.ended ≡ true
        → Takes Dealt count start feed' slot' content frames
    Takes-ended unspent has counts ended = record {
      takes = record {
        more = so_far.takes.more;
        read = has;
        counted = counts ∙ so_far.takes.counted;
        dealt = so_far.takes.dealt;
        none = λ e. (let none = so_far.takes.none e in none.0, ended);
      };
      full = IsFull-ended count left (length so_far.takes.more) start.reader.ended feed'.reader.ended ended so_far.remains unspent;
    }

-- ---- what is done with them: they are entered

grows-next : (before mid after : Seen) (number number' : ℕ) (more : List Frame) (frame : Frame) (bytes : List ℕ)
    → Grows before mid (passes_of before.limits number more before.history) → frame.bytes ≡ bytes → number' ≡ number + length more
    → Grows mid after (passed_by mid.limits mid.history (caller_at 9) (parcel_at number' bytes) ∷ [])
    → Grows before after (passes_of before.limits number (more ++ frame ∷ []) before.history)
grows-next before mid after number number' more frame bytes grew shown counted enters =
    let passed = λ (l : Limits) (h : List Entry) (p : Parcel). passed_by l h (caller_at 9) p in
    let others = passes_of before.limits number more before.history in
    let same : parcel_at number' bytes ≡ parcel_of (number + length more) frame =
    ap (λ n. parcel_at n bytes) counted ∙ ap (parcel_at (number + length more)) (sym shown) in
    let entry : passed mid.limits mid.history (parcel_at number' bytes) ≡ passed before.limits (before.history ++ others) (parcel_of (number + length more) frame) =
    ap (λ l. passed l mid.history (parcel_at number' bytes)) grew.limits
    ∙ ap (λ h. passed before.limits h (parcel_at number' bytes)) grew.history
    ∙ ap (passed before.limits (before.history ++ others)) same in
    record {
      limits = enters.limits ∙ grew.limits;
      history = enters.history ∙ ap (λ e. mid.history ++ e ∷ []) entry
          ∙ ap (λ h. h ++ passed before.limits (before.history ++ others) (parcel_of (number + length more) frame) ∷ []) grew.history
          ∙ append_assoc before.history others (passed before.limits (before.history ++ others) (parcel_of (number + length more) frame) ∷ [])
          ∙ ap (λ l. before.history ++ l) (sym (passes_of-last before.limits number more frame before.history));
    }

pub AreEntered-none : (taken : ℕ) (frames : List Frame) (before : Seen) (sent : Option (List ℕ)) → AreEntered taken frames before before sent sent []
AreEntered-none taken frames before sent = record {
  grows = record { limits = refl; history = sym (append-nil before.history) };
  keeps = λ are. subst (λ n. AreKept sent n (frames ++ []) before) (sym (add-zero taken)) (AreKept-none sent taken frames before are);
}

pub AreEntered-next : (taken number : ℕ) (frames more : List Frame) (arrived : Arrived) (bytes : List ℕ) (before mid after : Seen) (first sent sent' : Option (List ℕ))
    → AreEntered taken frames before mid first sent more → number ≡ (taken + length more) + 1
    → Grows mid after (passed_by mid.limits mid.history (caller_at 9) (parcel_at number bytes) ∷ [])
    → sent' ≡ append_known sent (sent_by (flows_now mid) arrived bytes)
    → AreEntered taken frames before after first sent' (more ++ frame_in arrived bytes ∷ [])
AreEntered-next taken number frames more arrived bytes before mid after first sent sent' so_far here enters sends =
    let frame = frame_in arrived bytes in
    let count = taken + length more in
    let enters-here : Grows mid after (passed_by mid.limits mid.history (caller_at 9) (parcel_at (count + 1) bytes) ∷ []) =
    subst (λ n. Grows mid after (passed_by mid.limits mid.history (caller_at 9) (parcel_at n bytes) ∷ [])) here enters in
    let number_is : number ≡ (taken + 1) + length more = omega arith in
    let longer : count + 1 ≡ taken + length (more ++ frame ∷ []) = omega (arith, length-append more (frame ∷ [])) in
    record {
      grows = grows-next before mid after (taken + 1) number more frame bytes so_far.grows refl number_is enters;
      keeps = λ are. subst (λ n. AreKept sent' n (frames ++ (more ++ frame ∷ [])) after) longer
          (subst (λ fs. AreKept sent' (count + 1) fs after) (append_assoc frames more (frame ∷ []))
          (AreKept-frame sent sent' count (frames ++ more) arrived bytes mid after enters-here sends (so_far.keeps are)));
    }

-- ---- or copied

pub AreNumbered-next : (number : ℕ) (frames : List Frame) (frame : Frame) (copies : List FrameCopy) (copy : FrameCopy) → AreNumbered number frames copies
    → copy.number ≡ number + length frames → frame_of copy ≡ frame → AreNumbered number (frames ++ frame ∷ []) (copies ++ copy ∷ [])
AreNumbered-next number [] frame [] copy are here is = (here ∙ add-zero number, is, tt)
AreNumbered-next number [] frame (c ∷ copies) copy are here is = absurd are
AreNumbered-next number (f ∷ frames) frame [] copy are here is = absurd are
AreNumbered-next number (f ∷ frames) frame (c ∷ copies) copy are here is =
    (are.0, are.1, AreNumbered-next (number + 1) frames frame copies copy are.2 (omega arith) is)
