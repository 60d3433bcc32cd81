use Rattle.std.proofs.Common.{◌+◌, [], ◌∷◌, length}
use Rattle.testpmd_shell.specs.Sending.{records_kept}
use Rattle.testpmd_shell.proofs.Copying.{behind-numbered, rising-numbered}
use Rattle.flow_calls.specs.Entries.{numbers_by}
use Rattle.testpmd_shell.proofs.PhaseRun.{AddsPhase-turns, AreKept-turns}
use Rattle.testpmd_shell.proofs.Working.{AreReady-asks, AreReady-middle}
use Rattle.testpmd_shell.proofs.threads.run_phase.Goals as goal

-- ---- what the middle may rely on

pub pass_middle-requires-clause-stands : goal.pass_middle-requires-clause-stands
pass_middle-requires-clause-stands g c κs within =
    let old = c.args.adapter in
    let ready = c.requires.ready in
    (AreReady-asks ready.0 old.limits 0 (c.args.opening.now ∷ []) old.history old c.ask.new.adapter c.args.workers.now.replicas.items c.in_ok-ask.ensures.asks ready.3).stand

pub pass_middle-requires-clause-rising : goal.pass_middle-requires-clause-rising
pass_middle-requires-clause-rising g c κs within =
    let ready = c.requires.ready in
    rising-numbered (ready.0 + 1) ready.1 c.args.phase.now.frames.now ready.2

pub pass_middle-requires-clause-behind : goal.pass_middle-requires-clause-behind
pass_middle-requires-clause-behind g c κs within = λ who.
    let old = c.args.adapter in
    let new = c.ask.new.adapter in
    let ready = c.requires.ready in
    let behind = AreReady-asks ready.0 old.limits 0 (c.args.opening.now ∷ []) old.history old new c.args.workers.now.replicas.items c.in_ok-ask.ensures.asks ready.3 in
    behind-numbered ready.0 ready.1 c.args.phase.now.frames.now (numbers_by who new.history) ready.2 (behind.numbered who)

-- ---- what it leaves

pub returns-clause-adds : goal.returns-clause-adds
returns-clause-adds g c =
    let phase = c.args.phase.now in
    let ran = c.in_ok-passed.ensures in
    AddsPhase-turns (length c.args.workers.now.replicas.items) c.args.opening.now c.args.closing.now phase.shell.now phase.agents.now phase.frames.now
    c.args.adapter c.ask.new.adapter c.in_ok-passed.passed c.ask-2.new.adapter c.in_ok-ask.ensures.asks ran.limits ran.legal ran.middle c.in_ok-ask-2.ensures.asks

pub returns-clause-sent : goal.returns-clause-sent
returns-clause-sent g c taken frames more are =
    let phase = c.args.phase.now in
    let ran = c.in_ok-passed.ensures in
    AreKept-turns (length c.args.workers.now.replicas.items) c.args.opening.now c.args.closing.now phase.shell.now phase.agents.now phase.frames.now
    c.args.adapter c.ask.new.adapter c.in_ok-passed.passed c.ask-2.new.adapter c.in_ok-ask.ensures.asks ran.limits ran.legal ran.middle c.in_ok-ask-2.ensures.asks
    taken frames more (records_kept c.args.workers.now.kept) (records_kept c.pass_middle.new.workers.kept) (ran.sent taken frames more are)

pub returns-clause-ready : goal.returns-clause-ready
returns-clause-ready g c taken more are ready =
    let phase = c.args.phase.now in
    let ran = c.in_ok-passed.ensures in
    let s0 = c.args.adapter in
    let s1 = c.ask.new.adapter in
    let s2 = c.in_ok-passed.passed in
    let replicas = c.args.workers.now.replicas.items in
    let replicas' = c.pass_middle.new.workers.replicas.items in
    let opened = AreReady-asks taken s0.limits 0 (c.args.opening.now ∷ []) s0.history s0 s1 replicas c.in_ok-ask.ensures.asks ready in
    let behind = AreReady-middle (length replicas) taken phase.shell.now phase.agents.now c.args.opening.now more phase.frames.now s1 s2 replicas replicas' ran.middle are ran.count ran.stands opened in
    AreReady-asks (taken + length more) s2.limits 0 (c.args.closing.now ∷ []) s2.history s2 c.ask-2.new.adapter replicas' c.in_ok-ask-2.ensures.asks behind
