use Rattle.std.proofs.Common.{refl, sym, subst, List}
use Rattle.std.proofs.lemmas.Result.{on_ok_weaker}
use Rattle.flow_calls.specs.declared.call.Call.{Call}
use Rattle.adapter.specs.Seen.{Grows}
use Rattle.flow_grammar.specs.declared.part.Part.{Part}
use Rattle.whole_history.specs.Serial.{asks_of}
use Rattle.flow_port.proofs.Standing.{Stands-grows}
use Rattle.testpmd_shell.specs.Sending.{kept_in}
use Rattle.testpmd_shell.specs.Parts.{RunsPart}
use Rattle.testpmd_shell.specs.Ways.{serially}
use Rattle.testpmd_shell.proofs.PartsRun.{RunsPart-section, RunsPart-phase}
use Rattle.testpmd_shell.proofs.parts.run_part.Goals as goal

pub returns-in-Section-clause-runs : goal.returns-in-Section-clause-runs
returns-in-Section-clause-runs g c =
    let state = g.S.Shelf.state c.args.shelf.now in
    let feed = c.args.feed.now in
    let old = c.args.lead.now.adapter in
    let sent = kept_in c.args.lead.now in
    let new = c.ask_all.new.adapter in
    on_ok_weaker c.ask_all.result
    (λ asks content frames was.
    subst (λ (p : Part). RunsPart serially p feed feed state content frames old new sent sent) (sym c.in-Section.is)
    (RunsPart-section serially c.in-Section.calls feed state content frames old new sent was
    (subst (λ (calls : List Call). Grows old new (asks_of old.limits 0 calls old.history)) c.as_slice.ensures asks) (λ limits number fs h. refl)))
    c.ask_all.ensures.asks

pub returns-in_ok-take_frames-in-Phase-clause-runs : goal.returns-in_ok-take_frames-in-Phase-clause-runs
returns-in_ok-take_frames-in-Phase-clause-runs g c =
    let feed = c.args.feed.now in
    let feed' = c.take_frames.new.feed in
    let state' = g.S.Shelf.state c.take_frames.new.shelf in
    let sent = kept_in c.args.lead.now in
    let sent' = kept_in c.take_frames.new.lead in
    let s0 = c.args.lead.now.adapter in
    let s1 = c.ask.new.adapter in
    let s2 = c.ask_all-in-Phase.new.adapter in
    let s3 = c.ask_agents.new.adapter in
    let s4 = c.take_frames.new.lead.adapter in
    let s5 = c.ask-in-Phase.new.adapter in
    on_ok_weaker c.ask-in-Phase.result
    (λ closes content frames was.
    subst (λ (p : Part). RunsPart serially p feed feed' state' content frames s0 s5 sent sent') (sym c.in-Phase.is)
    (RunsPart-phase c.in-Phase.opening c.in-Phase.closing c.in-Phase.count c.in-Phase.shell c.in-Phase.agents feed feed' state' content frames s0 s1 s2 s3 s4 s5 sent sent'
    c.in_ok-ask-in-Phase.ensures.asks
    (subst (λ (calls : List Call). Grows s1 s2 (asks_of s1.limits 0 calls s1.history)) c.as_slice-in-Phase.ensures c.in_ok-ask_all-in-Phase.ensures.asks)
    c.in_ok-ask_agents-in-Phase.ensures.asks
    (c.in_ok-take_frames-in-Phase.ensures.takes content frames was)
    closes))
    c.ask-in-Phase.ensures.asks

pub returns-in-Section-clause-stands : goal.returns-in-Section-clause-stands
returns-in-Section-clause-stands g c =
    on_ok_weaker c.ask_all.result
    (λ asks. Stands-grows c.args.lead.now.adapter c.ask_all.new.adapter _ c.args.lead.now.replica asks c.requires.stands) c.ask_all.ensures.asks

pub returns-in_ok-take_frames-in-Phase-clause-stands : goal.returns-in_ok-take_frames-in-Phase-clause-stands
returns-in_ok-take_frames-in-Phase-clause-stands g c =
    on_ok_weaker c.ask-in-Phase.result
    (λ asks. Stands-grows c.take_frames.new.lead.adapter c.ask-in-Phase.new.adapter _ c.take_frames.new.lead.replica asks c.in_ok-take_frames-in-Phase.ensures.stands)
    c.ask-in-Phase.ensures.asks

pub take_frames-requires-clause-stands : goal.take_frames-requires-clause-stands
take_frames-requires-clause-stands g c =
    let replica = c.args.lead.now.replica in
    let s0 = c.args.lead.now.adapter in
    let s1 = c.ask.new.adapter in
    let s2 = c.ask_all-in-Phase.new.adapter in
    let s3 = c.ask_agents.new.adapter in
    Stands-grows s2 s3 _ replica c.in_ok-ask_agents-in-Phase.ensures.asks
    (Stands-grows s1 s2 _ replica c.in_ok-ask_all-in-Phase.ensures.asks
    (Stands-grows s0 s1 _ replica c.in_ok-ask-in-Phase.ensures.asks c.requires.stands))
