-- What parts add that were run: the serial history, or one that is legal and whole.
use Rattle.std.proofs.Common.{◌≡◌, ℕ, ◌+◌, ◌<◌, ◌≤◌, ◌==◌, Bool, true, false, cond, List, [], ◌∷◌, ◌++◌, length, refl, sym, ap, ◌∙◌, subst, arith}
use Rattle.std.proofs.lemmas.Bool.Decides.{nat_tests}
use Rattle.std.proofs.lemmas.List.Elements.{All-weaker}
use Rattle.flow_rules.specs.declared.limits.Limits.{Limits}
use Rattle.capture_files.specs.Record.{Frame}
use Rattle.flow_calls.specs.declared.parcel.Parcel.{Parcel}
use Rattle.flow_calls.specs.declared.entry.Entry.{Entry}
use Rattle.flow_calls.specs.Entries.{passers_of}
use Rattle.adapter.specs.History.{IsLegal, IsLegalBehind}
use Rattle.flow_grammar.specs.declared.part.Part.{Part}
use Rattle.flow_grammar.specs.declared.part.Part.TheVariants.{Section, Phase}
use Rattle.whole_history.specs.Reach.{left_by, taken_by}
use Rattle.whole_history.specs.Serial.{part_of, serial, serial_from}
use Rattle.whole_history.specs.Whole.{IsMiddle, IsPart, IsWhole}
use Rattle.whole_history.proofs.LegalSerial.{IsLegalBehind-append, IsLegal-serial}
use Rattle.whole_history.proofs.WholeSerial.{IsWhole-serial}
use Rattle.testpmd_shell.specs.Options.{Given}
use Rattle.testpmd_shell.specs.Session.{IsLegalAndWhole, IsSerial, workers_of}
use Rattle.testpmd_shell.specs.Ways.{AreRun, Way, in_any_turns, serially}

-- the same in other words
pub AreRun-as : (way : Way) {limits limits' : Limits} {number number' : ℕ} {frames frames' : List Frame} (parts : List Part) {h h' es es' : List Entry}
    → limits ≡ limits' → number ≡ number' → frames ≡ frames' → h ≡ h' → es ≡ es' → AreRun way limits number frames parts h es → AreRun way limits' number' frames' parts h' es'
AreRun-as way {limits} {limits'} {number} {number'} {frames} {frames'} parts {h} {h'} {es} {es'} l n f a e are =
    subst (λ x. AreRun way x number' frames' parts h' es') l
    (subst (λ x. AreRun way limits x frames' parts h' es') n
    (subst (λ x. AreRun way limits number x parts h' es') f
    (subst (λ x. AreRun way limits number frames parts x es') a (subst (λ x. AreRun way limits number frames parts h x) e are))))

-- ---- the serial order

serial_from-run : (limits : Limits) (number : ℕ) (frames : List Frame) (parts : List Part) (h es : List Entry) → AreRun serially limits number frames parts h es
    → es ≡ serial_from limits number frames parts h
serial_from-run limits number frames [] h es are = are
serial_from-run limits number frames (part ∷ parts) h es are =
    let next = number + length (taken_by part frames) in
    let left = left_by part frames in
    let one = are.0 in
    let rest = are.1 in
    let here : one ≡ part_of limits number frames part h = are.3 in
    let behind : rest ≡ serial_from limits next left parts (h ++ one) = serial_from-run limits next left parts (h ++ one) rest are.4 in
    are.2 ∙ ap (λ l. one ++ l) behind ∙ ap (λ l. l ++ serial_from limits next left parts (h ++ l)) here

pub serial-run : (given : Given) (limits : Limits) (program : List Part) (frames : List Frame) (history : List Entry) → AreRun serially limits 1 frames program [] history
    → IsSerial given limits program frames history
serial-run given limits program frames history are = serial_from-run limits 1 frames program [] history are

-- ---- any turns

legal_behind-run : (workers : ℕ) (limits : Limits) (number : ℕ) (frames : List Frame) (parts : List Part) (h es : List Entry) → AreRun (in_any_turns workers) limits number frames parts h es
    → IsLegalBehind limits h es
legal_behind-run workers limits number frames [] h es are = subst (IsLegalBehind limits h) (sym are) tt
legal_behind-run workers limits number frames (part ∷ parts) h es are =
    let one = are.0 in
    let rest = are.1 in
    subst (IsLegalBehind limits h) (sym are.2)
    (IsLegalBehind-append limits h one rest are.3.0
    (legal_behind-run workers limits (number + length (taken_by part frames)) (left_by part frames) parts (h ++ one) rest are.4))

whole_from-run : (workers : ℕ) (limits : Limits) (number : ℕ) (frames : List Frame) (parts : List Part) (h es : List Entry) → AreRun (in_any_turns workers) limits number frames parts h es
    → IsWhole workers parts number frames es
whole_from-run workers limits number frames [] h es are = are
whole_from-run workers limits number frames (part ∷ parts) h es are =
    (are.0, are.1, are.2, are.3.1, whole_from-run workers limits (number + length (taken_by part frames)) (left_by part frames) parts (h ++ are.0) are.1 are.4)

-- the workers of a session that has some
workers_of-some : (given : Given) → 1 ≤ given.cores → workers_of given ≡ given.cores
workers_of-some given one = by given.cores one where
  by : (n : ℕ) → 1 ≤ n → cond (n == 0) 1 n ≡ n
  by n one = let apart : (n == 0) ≡ false = grind (arith, nat_tests) in ap (λ b. cond b 1 n) apart

pub whole-run : (given : Given) → 1 ≤ given.cores → (limits : Limits) (program : List Part) (frames : List Frame) (history : List Entry)
    → AreRun (in_any_turns given.cores) limits 1 frames program [] history → IsLegalAndWhole given limits program frames history
whole-run given one limits program frames history are = (
  legal_behind-run given.cores limits 1 frames program [] history are,
  subst (λ n. IsWhole n program 1 frames history) (sym (workers_of-some given one)) (whole_from-run given.cores limits 1 frames program [] history are),
)

-- ---- with one worker, and so with more

some-workers : (given : Given) → 1 ≤ workers_of given
some-workers given = by given.cores where
  by : (n : ℕ) → 1 ≤ cond (n == 0) 1 n
  by n = by_zero (n == 0) refl where
    by_zero : (b : Bool) → (n == 0) ≡ b → 1 ≤ cond b 1 n
    by_zero true e = omega arith
    by_zero false e = grind (arith, nat_tests)

IsMiddle-more : (workers : ℕ) (phase : Part) (taken : List Parcel) (es : List Entry) → 1 ≤ workers → IsMiddle 1 phase taken es → IsMiddle workers phase taken es
IsMiddle-more workers phase taken es one is = record {
  calls = is.calls;
  frames = is.frames;
  passers = All-weaker (λ who. (9 ≤ who) × (who < 9 + 1)) (λ who. (9 ≤ who) × (who < 9 + workers)) (λ who w. (w.0, let high = w.1 in omega arith)) (passers_of es) is.passers;
  rising = is.rising;
}

IsPart-more : (workers : ℕ) (part : Part) (taken : List Parcel) (es : List Entry) → 1 ≤ workers → IsPart 1 part taken es → IsPart workers part taken es
IsPart-more workers (Section calls) taken es one is = is
IsPart-more workers (Phase opening count shell agents closing) taken es one is = record {
  opened = is.opened;
  middle = is.middle;
  closed = is.closed;
  are = is.are;
  opens = is.opens;
  passes = IsMiddle-more workers (Phase opening count shell agents closing) taken is.middle one is.passes;
  closes = is.closes;
}

IsWhole-more : (workers : ℕ) (parts : List Part) (number : ℕ) (frames : List Frame) (h : List Entry) → 1 ≤ workers → IsWhole 1 parts number frames h → IsWhole workers parts number frames h
IsWhole-more workers [] number frames h one is = is
IsWhole-more workers (part ∷ parts) number frames h one is =
    (is.0, is.1, is.2, IsPart-more workers part _ is.0 one is.3, IsWhole-more workers parts (number + length (taken_by part frames)) (left_by part frames) is.1 one is.4)

-- the serial history is one of them
pub IsLegalAndWhole-serial : (given : Given) (limits : Limits) (program : List Part) (frames : List Frame) (history : List Entry) → IsSerial given limits program frames history
    → IsLegalAndWhole given limits program frames history
IsLegalAndWhole-serial given limits program frames history is = (
  subst (λ h. IsLegal limits h) (sym is) (IsLegal-serial limits program frames),
  subst (λ h. IsWhole (workers_of given) program 1 frames h) (sym is)
      (IsWhole-more (workers_of given) program 1 frames (serial limits program frames) (some-workers given) (IsWhole-serial limits program frames)),
)
