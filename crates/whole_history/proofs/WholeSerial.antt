-- The serial history is whole.
use Rattle.std.proofs.Common.{◌≡◌, ℕ, zero, suc, ◌+◌, ◌-◌, ◌<◌, Bool, true, false, cond, List, [], ◌∷◌, ◌++◌, length, get_or, refl, sym, ap, ◌∙◌, append_assoc, append-nil, subst, eqb, arith, Option}
use Rattle.std.specs.List.{All, range_with_len}
use Rattle.std.specs.List.Sorted.{IsStrictlyIncreasing}
use Rattle.std.proofs.lemmas.List.FromFn.{length-range_with_len, get_or-range_with_len}
use Rattle.flow_rules.specs.declared.limits.Limits.{Limits}
use Rattle.capture_files.specs.Record.{Frame}
use Rattle.flow_calls.specs.declared.call.Call.{Call}
use Rattle.flow_calls.specs.declared.entry.Entry.{Entry}
use Rattle.adapter.specs.History.{asked_by}
use Rattle.flow_calls.proofs.Entries.{calls_by-append, numbers_by-append, parcels_of-append, passers_of-append}
use Rattle.flow_grammar.specs.declared.part.Part.{Part}
use Rattle.flow_grammar.specs.declared.part.Part.TheVariants.{Section, Phase}
use Rattle.flow_grammar.specs.Calls.{calls_of}
use Rattle.flow_calls.specs.Entries.{calls_by, parcels_of, numbers_by, passers_of}
use Rattle.whole_history.specs.Reach.{first, taken_by, left_by, parcels_from}
use Rattle.whole_history.specs.Whole.{IsMiddle, IsPart, IsWhole}
use Rattle.whole_history.specs.Serial.{caller_at, asks_of, all_asks_of, passes_of, part_of, serial_from, serial}
use Rattle.whole_history.proofs.Telling.{AreAsks-asks, cond-false, eqb-apart, NoFrame-asked, calls_by-own, calls_by-below, calls_by-list, calls_by-other, calls_by-passes, parcels_of-passes, IsWorker0, All-passers, numbers_by-passes}

IsStrictlyIncreasing-range : (b : Bool) (a n : ℕ) → IsStrictlyIncreasing (cond b (range_with_len a n) [])
IsStrictlyIncreasing-range true a n = λ k below.
    let long : k + 1 < n = subst (λ m. k + 1 < m) (length-range_with_len a n) below in
    omega (arith, get_or-range_with_len a n k 0, get_or-range_with_len a n (k + 1) 0)
IsStrictlyIncreasing-range false a n = λ k below. omega arith

-- the calls of each caller among those of the shell and of the agents
calls_by-asked : (limits : Limits) (opening closing : Call) (count : Option ℕ) (calls : List Call) (agents : List (List Call)) (h h' : List Entry) (who : ℕ)
    → calls_by who (asks_of limits 0 calls h ++ all_asks_of limits 1 agents h') ≡ calls_of (Phase opening count calls agents closing) who
calls_by-asked limits opening closing count calls agents h h' zero =
    let asked = asks_of limits 0 calls h in
    let told = all_asks_of limits 1 agents h' in
    calls_by-append 0 asked told ∙ ap (λ l. calls_by 0 asked ++ l) (calls_by-below limits 0 1 agents h' (omega arith)) ∙ append-nil (calls_by 0 asked) ∙ calls_by-own limits 0 calls h
calls_by-asked limits opening closing count calls agents h h' (suc k) =
    let asked = asks_of limits 0 calls h in
    let told = all_asks_of limits 1 agents h' in
    let same : 1 + k ≡ suc k = omega arith in
    let less : suc k - 1 ≡ k = omega arith in
    calls_by-append (suc k) asked told ∙ ap (λ l. l ++ calls_by (suc k) told) (calls_by-other limits (suc k) 0 calls h (omega arith))
    ∙ subst (λ n. calls_by n told ≡ get_or agents k []) same (calls_by-list limits 1 k agents h')
    ∙ sym (cond-false (eqb (suc k) 0) calls (get_or agents (suc k - 1) []) (eqb-apart 0 (suc k) (omega arith)) ∙ ap (λ n. get_or agents n []) less)

IsMiddle-serial : (limits : Limits) (opening closing : Call) (count : Option ℕ) (calls : List Call) (agents : List (List Call)) (number : ℕ) (taken : List Frame) (h h' h'' : List Entry)
    → IsMiddle 1 (Phase opening count calls agents closing) (parcels_from number taken)
    ((asks_of limits 0 calls h ++ all_asks_of limits 1 agents h') ++ passes_of limits number taken h'')
IsMiddle-serial limits opening closing count calls agents number taken h h' h'' =
    let asked = asks_of limits 0 calls h ++ all_asks_of limits 1 agents h' in
    let passed = passes_of limits number taken h'' in
    let none = NoFrame-asked limits 0 1 calls agents h h' in
    record {
      calls = λ who. calls_by-append who asked passed ∙ ap (λ l. calls_by who asked ++ l) (calls_by-passes limits who number taken h'') ∙ append-nil (calls_by who asked)
          ∙ calls_by-asked limits opening closing count calls agents h h' who;
      frames = record { moves = []; below = tt; is = parcels_of-append asked passed ∙ ap (λ l. l ++ parcels_of passed) none.parcels ∙ parcels_of-passes limits number taken h'' };
      passers = subst (All IsWorker0) (sym (passers_of-append asked passed ∙ ap (λ l. l ++ passers_of passed) none.passers)) (All-passers limits number taken h'');
      rising = λ who. subst IsStrictlyIncreasing (sym (numbers_by-append who asked passed ∙ ap (λ l. l ++ numbers_by who passed) (none.numbers who) ∙ numbers_by-passes limits who number taken h''))
          (IsStrictlyIncreasing-range (eqb 9 who) number (length taken));
    }

pieces : (o : Entry) (asks tells passes closes : List Entry) → (o ∷ asks) ++ (tells ++ (passes ++ (closes ++ []))) ≡ (o ∷ []) ++ (((asks ++ tells) ++ passes) ++ closes)
pieces o asks tells passes closes =
    ap (λ l. o ∷ l) (ap (λ l. asks ++ (tells ++ (passes ++ l))) (append-nil closes) ∙ sym (append_assoc asks tells (passes ++ closes)) ∙ sym (append_assoc (asks ++ tells) passes closes))

IsPart-serial : (limits : Limits) (number : ℕ) (frames : List Frame) (part : Part) (h : List Entry)
    → IsPart 1 part (parcels_from number (taken_by part frames)) (part_of limits number frames part h)
IsPart-serial limits number frames (Section calls) h = AreAsks-asks limits 0 calls h
IsPart-serial limits number frames (Phase opening count calls agents closing) h =
    let taken = first count frames in
    let opened = asked_by limits h (caller_at 0) opening in
    let h1 = h ++ opened ∷ [] in
    let asked = asks_of limits 0 calls h1 in
    let h2 = h ++ opened ∷ asked in
    let told = all_asks_of limits 1 agents h2 in
    let h3 = h2 ++ told in
    let passed = passes_of limits number taken h3 in
    let h4 = h3 ++ passed in
    record {
      opened = opened ∷ [];
      middle = (asked ++ told) ++ passed;
      closed = asks_of limits 0 (closing ∷ []) h4;
      are = pieces opened asked told passed (asks_of limits 0 (closing ∷ []) h4);
      opens = (refl, refl, tt);
      passes = IsMiddle-serial limits opening closing count calls agents number taken h1 h2 h3;
      closes = (refl, refl, tt);
    }

IsWhole-serial_from : (limits : Limits) (number : ℕ) (frames : List Frame) (parts : List Part) (h : List Entry) → IsWhole 1 parts number frames (serial_from limits number frames parts h)
IsWhole-serial_from limits number frames [] h = refl
IsWhole-serial_from limits number frames (part ∷ parts) h =
    let added = part_of limits number frames part h in
    let next = number + length (taken_by part frames) in
    let left = left_by part frames in (
      added,
      serial_from limits next left parts (h ++ added),
      refl,
      IsPart-serial limits number frames part h,
      IsWhole-serial_from limits next left parts (h ++ added),
    )

-- each serial history is whole, with one worker
pub IsWhole-serial : (limits : Limits) (program : List Part) (frames : List Frame) → IsWhole 1 program 1 frames (serial limits program frames)
IsWhole-serial limits program frames = IsWhole-serial_from limits 1 frames program []
