use Rattle.std.proofs.Common.{◌≡◌, ◌∙◌, ◌++◌, OnOk, List, length, subst, ap, arith}
use Rattle.flow_calls.specs.declared.call.Call.{Call}
use Rattle.flow_calls.specs.declared.caller.Caller.{Caller}
use Rattle.flow_calls.specs.Entries.{calls_by}
use Rattle.flow_port.specs.Ports.{mine, whose}
use Rattle.running_phase.specs.Shares.{calls_in}
use Rattle.running_phase.proofs.Acting.{asked_part}
use Rattle.running_phase.proofs.Doing.{calls_few}
use Rattle.running_phase.proofs.actors.ask.Goals as goal

pub ask_all-requires-clause-left : goal.ask_all-requires-clause-left
ask_all-requires-clause-left g c =
    let phase = c.args.plan.now.phase in
    let few = calls_few phase.shell.now phase.agents.now c.caller.result.0 c.requires.plan.calls c.requires.plan.asked in
    let same = ap length c.calls_of-calls.ensures in
    omega (arith, few, same, c.requires.seat.1)

pub returns-clause-did : goal.returns-clause-did
returns-clause-did g c =
    let port = c.args.port.now in
    let phase = c.args.plan.now.phase in
    let seat = c.args.seat.now in
    let who = (whose seat).0 in
    let same : c.calls_of-calls.result.now ≡ calls_in phase.shell.now phase.agents.now who
    = c.calls_of-calls.ensures ∙ ap (λ (k : Caller). calls_in phase.shell.now phase.agents.now k.0) c.caller.ensures in
    asked_part port c.args.plan.now c.requires.plan seat c.requires.seat c.ask_all.result c.ask_all.new.seat c.ask_all.ensures.caller c.requires.asker
    (subst (λ (l : List Call). OnOk c.ask_all.result (calls_by who (mine port c.ask_all.new.seat) ≡ calls_by who (mine port seat) ++ l)) same c.ask_all.ensures.calls)
    c.ask_all.ensures.frames
