use Rattle.std.proofs.Common.{◌≡◌, ◌≤◌, ◌^◌, ◌+◌, ◌++◌, ℕ, List, [], ◌∷◌, length, map, Result, Ok, Err, IfOk, sym, ap, ◌∙◌, subst, arith}
use Rattle.std.proofs.lemmas.List.{length-map}
use Rattle.std.proofs.lemmas.Result.{IfOk-weaker}
use Rattle.capture_files.specs.Record.{Frame}
use Rattle.flow_calls.specs.declared.call.Call.{Call}
use Rattle.adapter.specs.Seen.{Grows, Seen}
use Rattle.flow_grammar.specs.declared.part.Part.{Part}
use Rattle.flow_grammar.specs.Limits.{calls_in}
use Rattle.whole_history.specs.Serial.{asks_of}
use Rattle.whole_history.proofs.LegalSerial.{AddsLegal-asks}
use Rattle.whole_history.proofs.Telling.{AreAsks-asks}
use Rattle.running_phase.specs.declared.copies.FrameCopy.{FrameCopy}
use Rattle.running_phase.specs.Copies.{frame_of, parcels}
use Rattle.testpmd_shell.specs.Phase.{AreNumbered}
use Rattle.testpmd_shell.specs.Parts.{RunsPart, WasRead, taken_in}
use Rattle.testpmd_shell.specs.Sending.{AreKept, records_kept}
use Rattle.testpmd_shell.specs.Ways.{in_any_turns}
use Rattle.testpmd_shell.specs.Workers.{AddsPhase, AreReady}
use Rattle.testpmd_shell.proofs.PartsRun.{RunsPart-section}
use Rattle.testpmd_shell.proofs.PhaseRun.{RunsPart-turns}
use Rattle.testpmd_shell.proofs.Working.{AreReady-asks, few-each}
use Rattle.testpmd_shell.proofs.threads.run_part.Goals as goal

-- out of two facts on what came
both_weaker : {X E : Type 0} (r : Result X E) (P Q R : X → Type 0) → ((x : X) → P x → Q x → R x) → IfOk r P → IfOk r Q → IfOk r R
both_weaker (Ok x) P Q R both p q = both x p q
both_weaker (Err e) P Q R both p q = tt

pub returns-in-Section-clause-runs : goal.returns-in-Section-clause-runs
returns-in-Section-clause-runs g c =
    let way = in_any_turns (length c.args.workers.now.replicas.items) in
    let state = g.S.Shelf.state c.args.shelf.now in
    let feed = c.args.feed.now in
    let old = c.args.adapter in
    let sent = records_kept c.args.workers.now.kept in
    IfOk-weaker c.run_section.result (λ (made : Seen). Grows old made (asks_of old.limits 0 c.as_slice.result.now old.history))
    (λ (made : Seen). (content : List ℕ) → (frames : List Frame) → WasRead feed state content frames → RunsPart way c.args.part.now feed feed state content frames old made sent sent)
    (λ made asks content frames was.
    subst (λ (p : Part). RunsPart way p feed feed state content frames old made sent sent) (sym c.in-Section.is)
    (RunsPart-section way c.in-Section.calls feed state content frames old made sent was
    (subst (λ (calls : List Call). Grows old made (asks_of old.limits 0 calls old.history)) c.as_slice.ensures asks)
    (λ limits number fs h. (AddsLegal-asks limits 0 c.in-Section.calls h, AreAsks-asks limits 0 c.in-Section.calls h))))
    c.run_section.ensures.asks

pub returns-in-Section-clause-ready : goal.returns-in-Section-clause-ready
returns-in-Section-clause-ready g c =
    let old = c.args.adapter in
    let replicas = c.args.workers.now.replicas.items in
    let taken = taken_in c.args.feed.now in
    IfOk-weaker c.run_section.result (λ (made : Seen). Grows old made (asks_of old.limits 0 c.as_slice.result.now old.history)) (λ (made : Seen). AreReady taken made replicas)
    (λ made asks. AreReady-asks taken old.limits 0 c.as_slice.result.now old.history old made replicas asks c.requires.ready) c.run_section.ensures.asks

pub run_phase-requires-clause-ready : goal.run_phase-requires-clause-ready
run_phase-requires-clause-ready g c κs within =
    let copies = c.in_ok-frames-in-Phase.frames.items in (
      taken_in c.args.feed.now,
      map frame_of copies,
      subst (AreNumbered (taken_in c.args.feed.now + 1) (map frame_of copies)) (sym c.as_slice-in-Phase-2.ensures.value) c.in_ok-frames-in-Phase.ensures.numbered,
      c.requires.ready,
    )

pub run_phase-requires-clause-few : goal.run_phase-requires-clause-few
run_phase-requires-clause-few g c κs within =
    let each = few-each c.in-Phase.opening c.in-Phase.closing c.in-Phase.count c.in-Phase.shell c.in-Phase.agents (subst (λ (p : Part). calls_in (p ∷ []) ≤ 65536) c.in-Phase.is c.requires.few) in
    let many : length c.in_ok-frames-in-Phase.frames.items ≤ 1048576 = c.in_ok-frames-in-Phase.ensures.few in (
      subst (λ (calls : List Call). length calls ≤ 2 ^ 32) (sym c.as_slice-in-Phase.ensures) each.0,
      each.1,
      subst (λ (cs : List FrameCopy). length cs ≤ 2 ^ 32) (sym c.as_slice-in-Phase-2.ensures.value) (omega arith),
    )

pub returns-in_ok-frames-in-Phase-clause-runs : goal.returns-in_ok-frames-in-Phase-clause-runs
returns-in_ok-frames-in-Phase-clause-runs g c =
    let workers = length c.args.workers.now.replicas.items in
    let state = g.S.Shelf.state c.args.shelf.now in
    let state' = g.S.Shelf.state c.frames_of_phase.new.shelf in
    let feed = c.args.feed.now in
    let feed' = c.frames_of_phase.new.feed in
    let copies = c.in_ok-frames-in-Phase.frames.items in
    let slice = c.as_slice-in-Phase-2.result.now in
    let opening = c.in-Phase.opening in
    let closing = c.in-Phase.closing in
    let agents = c.in-Phase.agents in
    let old = c.args.adapter in
    let sent = records_kept c.args.workers.now.kept in
    let sent' = records_kept c.run_phase.new.workers.kept in
    both_weaker c.run_phase.result (λ (made : Seen). AddsPhase workers opening closing c.as_slice-in-Phase.result.now agents (parcels slice) old made)
    (λ (made : Seen). (taken : ℕ) → (fs more : List Frame) → AreNumbered (taken + 1) more slice → AreKept sent taken fs old → AreKept sent' (taken + length more) (fs ++ more) made)
    (λ (made : Seen). (content : List ℕ) → (frames : List Frame) → WasRead feed state content frames → RunsPart (in_any_turns workers) c.args.part.now feed feed' state' content frames old made sent sent')
    (λ made adds keeps content frames was.
    subst (λ (p : Part). RunsPart (in_any_turns workers) p feed feed' state' content frames old made sent sent') (sym c.in-Phase.is)
    (RunsPart-turns workers opening closing c.in-Phase.count c.in-Phase.shell agents copies old made feed feed' state' content frames sent sent'
    (subst (λ (calls : List Call). AddsPhase workers opening closing calls agents (parcels copies) old made) c.as_slice-in-Phase.ensures
    (subst (λ (cs : List FrameCopy). AddsPhase workers opening closing c.as_slice-in-Phase.result.now agents (parcels cs) old made) c.as_slice-in-Phase-2.ensures.value adds))
    (c.in_ok-frames-in-Phase.ensures.takes content frames was)
    (subst (λ (cs : List FrameCopy). (taken : ℕ) → (fs more : List Frame) → AreNumbered (taken + 1) more cs → AreKept sent taken fs old → AreKept sent' (taken + length more) (fs ++ more) made)
    c.as_slice-in-Phase-2.ensures.value keeps)))
    c.run_phase.ensures.adds c.run_phase.ensures.sent

pub returns-in_ok-frames-in-Phase-clause-ready : goal.returns-in_ok-frames-in-Phase-clause-ready
returns-in_ok-frames-in-Phase-clause-ready g c =
    let taken = taken_in c.args.feed.now in
    let copies = c.in_ok-frames-in-Phase.frames.items in
    let slice = c.as_slice-in-Phase-2.result.now in
    let more = map frame_of copies in
    let replicas = c.args.workers.now.replicas.items in
    let replicas' = c.run_phase.new.workers.replicas.items in
    let numbered = subst (AreNumbered (taken + 1) more) (sym c.as_slice-in-Phase-2.ensures.value) c.in_ok-frames-in-Phase.ensures.numbered in
    let count : taken + length more ≡ taken_in c.frames_of_phase.new.feed = ap (λ n. taken + n) (length-map copies frame_of) ∙ sym c.in_ok-frames-in-Phase.ensures.counted in
    IfOk-weaker c.run_phase.result
    (λ (made : Seen). (taken : ℕ) → (more : List Frame) → AreNumbered (taken + 1) more slice → AreReady taken c.args.adapter replicas → AreReady (taken + length more) made replicas')
    (λ (made : Seen). AreReady (taken_in c.frames_of_phase.new.feed) made replicas')
    (λ made ready. subst (λ n. AreReady n made replicas') count (ready taken more numbered c.requires.ready)) c.run_phase.ensures.ready
