-- A phase whose callers took turns, out of its opening, its middle and its closing.
use Rattle.std.proofs.Common.{◌≡◌, ℕ, ◌+◌, List, [], ◌∷◌, ◌++◌, length, Option, refl, sym, ap, ◌∙◌, subst, append_assoc}
use Rattle.flow_rules.specs.declared.limits.Limits.{Limits}
use Rattle.capture_files.specs.Record.{Frame}
use Rattle.io_edges.specs.ShelfState.{ShelfState}
use Rattle.flow_calls.specs.declared.call.Call.{Call}
use Rattle.flow_calls.specs.declared.entry.Entry.{Entry}
use Rattle.adapter.specs.History.{IsLegal, IsLegalBehind}
use Rattle.adapter.specs.Seen.{Seen, Grows}
use Rattle.flow_grammar.specs.declared.part.Part.TheVariants.{Phase}
use Rattle.whole_history.specs.Reach.{first, parcels_from}
use Rattle.whole_history.specs.Serial.{asks_of}
use Rattle.whole_history.specs.Whole.{IsMiddle, IsPart}
use Rattle.whole_history.proofs.LegalSerial.{AddsLegal-asks, IsLegalBehind-append}
use Rattle.whole_history.proofs.Telling.{AreAsks-asks}
use Rattle.running_phase.specs.declared.copies.FrameCopy.{FrameCopy}
use Rattle.running_phase.specs.Copies.{parcels}
use Rattle.running_phase.proofs.Sending.{legal-behind}
use Rattle.testpmd_shell.specs.declared.feed.Feed.{Feed}
use Rattle.testpmd_shell.specs.Phase.{AreNumbered}
use Rattle.testpmd_shell.specs.Parts.{RunsPart, TakesIn, taken_in}
use Rattle.testpmd_shell.specs.Sending.{AreKept}
use Rattle.testpmd_shell.specs.Ways.{in_any_turns}
use Rattle.testpmd_shell.specs.Workers.{AddsPhase}
use Rattle.testpmd_shell.proofs.Copying.{parcels-numbered}
use Rattle.testpmd_shell.proofs.Keeping.{AreKept-asks}

-- what a phase's middle adds
abbrev pub AddsMiddle : ℕ → List Call → List (List Call) → List FrameCopy → Seen → Seen → Type 0
AddsMiddle workers shell agents copies before after = (middle : List Entry) × (after.history ≡ before.history ++ middle)
    × ((opening closing : Call) → (count : Option ℕ) → IsMiddle workers (Phase opening count shell agents closing) (parcels copies) middle)

module _ (workers : ℕ) (opening closing : Call) (shell : List Call) (agents : List (List Call)) (copies : List FrameCopy) (s0 s1 s2 s3 : Seen)
    (opens : Grows s0 s1 (asks_of s0.limits 0 (opening ∷ []) s0.history)) (same : s2.limits ≡ s1.limits) (legal : IsLegal s2.limits s2.history)
    (passed : AddsMiddle workers shell agents copies s1 s2) (closes : Grows s2 s3 (asks_of s2.limits 0 (closing ∷ []) s2.history)) where
  abbrev limits : Limits
  limits = s0.limits

  abbrev middle : List Entry
  middle = passed.0

  abbrev opened : List Entry
  opened = asks_of limits 0 (opening ∷ []) s0.history

  abbrev behind : List Entry
  behind = (s0.history ++ opened) ++ middle

  abbrev closed : List Entry
  closed = asks_of limits 0 (closing ∷ []) behind

  limits_still : s2.limits ≡ limits
  limits_still = same ∙ opens.limits

  middle_behind : s2.history ≡ behind
  middle_behind = passed.1 ∙ ap (λ h. h ++ middle) opens.history

  adds_all : Grows s0 s3 (opened ++ (middle ++ closed))
  adds_all = record {
    limits = closes.limits ∙ limits_still;
    history = closes.history
        ∙ ap (λ l. s2.history ++ asks_of l 0 (closing ∷ []) s2.history) limits_still
        ∙ ap (λ h. h ++ asks_of limits 0 (closing ∷ []) h) middle_behind
        ∙ append_assoc (s0.history ++ opened) middle closed
        ∙ append_assoc s0.history opened (middle ++ closed);
  }

  legal_middle : IsLegalBehind limits (s0.history ++ opened) middle
  legal_middle =
      legal-behind limits [] (s0.history ++ opened) middle
      (subst (λ h. IsLegalBehind limits [] h) middle_behind (subst (λ (l : Limits). IsLegalBehind l [] s2.history) limits_still legal))

  legal_all : IsLegalBehind limits s0.history (opened ++ (middle ++ closed))
  legal_all =
      IsLegalBehind-append limits s0.history opened (middle ++ closed) (AddsLegal-asks limits 0 (opening ∷ []) s0.history)
      (IsLegalBehind-append limits (s0.history ++ opened) middle closed legal_middle (AddsLegal-asks limits 0 (closing ∷ []) behind))

  -- the phase
  pub AddsPhase-turns : AddsPhase workers opening closing shell agents (parcels copies) s0 s3
  AddsPhase-turns = record {
    entries = opened ++ (middle ++ closed);
    grows = adds_all;
    legal = legal_all;
    is = λ count. record {
      opened = opened;
      middle = middle;
      closed = closed;
      are = refl;
      opens = AreAsks-asks limits 0 (opening ∷ []) s0.history;
      passes = passed.2 opening closing count;
      closes = AreAsks-asks limits 0 (closing ∷ []) behind;
    };
  }

  -- what is kept behind it
  pub AreKept-turns : (taken : ℕ) (frames more : List Frame) (sent sent' : Option (List ℕ)) → (AreKept sent taken frames s1 → AreKept sent' (taken + length more) (frames ++ more) s2)
      → AreKept sent taken frames s0 → AreKept sent' (taken + length more) (frames ++ more) s3
  AreKept-turns taken frames more sent sent' keeps are =
      AreKept-asks sent' (taken + length more) (frames ++ more) s2.limits 0 (closing ∷ []) s2.history s2 s3 closes
      (keeps (AreKept-asks sent taken frames s0.limits 0 (opening ∷ []) s0.history s0 s1 opens are))

-- a part that is such a phase
pub RunsPart-turns : (workers : ℕ) (opening closing : Call) (count : Option ℕ) (shell : List Call) (agents : List (List Call)) (copies : List FrameCopy) (before after : Seen)
    (feed feed' : Option Feed) (state' : ShelfState) (content : List ℕ) (frames : List Frame) (sent sent' : Option (List ℕ))
    → AddsPhase workers opening closing shell agents (parcels copies) before after
    → TakesIn (λ more. AreNumbered (taken_in feed + 1) more copies) count feed feed' state' content frames
    → ((taken : ℕ) → (frames more : List Frame) → AreNumbered (taken + 1) more copies → AreKept sent taken frames before → AreKept sent' (taken + length more) (frames ++ more) after)
    → RunsPart (in_any_turns workers) (Phase opening count shell agents closing) feed feed' state' content frames before after sent sent'
RunsPart-turns workers opening closing count shell agents copies before after feed feed' state' content frames sent sent' adds took keeps =
    let more = took.more in
    record {
      more = more;
      kept = took.kept;
      read = took.read;
      keeps = λ are. subst (λ n. AreKept sent' n (frames ++ more) after) (sym took.counted) (keeps (taken_in feed) frames more took.dealt are);
      counted = took.counted;
      adds = λ rest may.
          let taken : parcels copies ≡ parcels_from (taken_in feed + 1) (first count (more ++ rest))
          = parcels-numbered (taken_in feed + 1) more copies took.dealt ∙ ap (parcels_from (taken_in feed + 1)) (sym (took.taken rest may)) in
          record {
            entries = adds.entries;
            grows = adds.grows;
            may = (adds.legal, subst (λ ps. IsPart workers (Phase opening count shell agents closing) ps adds.entries) taken (adds.is count));
          };
      taken = took.taken;
      left = took.left;
      asked = took.asked;
      none = took.none;
    }
