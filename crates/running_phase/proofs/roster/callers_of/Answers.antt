use Rattle.std.proofs.Common.{rules, ◌≡◌, ◌≤◌, All, sym, subst}
use Rattle.flow_calls.specs.declared.caller.Caller.{Caller}
use Rattle.flow_port.specs.Ports.{AreDifferent}
use Rattle.running_phase.specs.Roster.{roster}
use Rattle.running_phase.proofs.Rosters.{roster-differ, roster-known}
use Rattle.running_phase.proofs.roster.callers_of.Goals as goal

pub returns-clause-differ : goal.returns-clause-differ
returns-clause-differ c =
    let same : c.push_workers.new.callers.items ≡ roster c.args.agents.now c.args.workers = search rules in
    subst AreDifferent (sym same) (roster-differ c.args.agents.now c.args.workers c.type_inv.agents)

pub returns-clause-known : goal.returns-clause-known
returns-clause-known c =
    let same : c.push_workers.new.callers.items ≡ roster c.args.agents.now c.args.workers = search rules in
    subst (All (λ (c : Caller). c.0 ≤ 24)) (sym same) (roster-known c.args.agents.now c.args.workers c.type_inv.agents c.requires)
