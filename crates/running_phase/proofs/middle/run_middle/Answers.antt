use Rattle.std.proofs.Common.{rules, ◌∙◌, ◌∷◌, ℕ, Option}
use Rattle.flow_calls.specs.declared.call.Call.{Call}
use Rattle.flow_grammar.specs.declared.part.Part.TheVariants as parts
use Rattle.whole_history.specs.Whole.{IsMiddle}
use Rattle.running_phase.specs.declared.middle.Middle.{Middle}
use Rattle.running_phase.specs.Copies.{parcels}
use Rattle.running_phase.specs.Roster.{agents_from, caller_at}
use Rattle.running_phase.proofs.Acting.{middle_as, plan_is}
use Rattle.running_phase.proofs.Rosters.{askers-lie}
use Rattle.running_phase.proofs.middle.run_middle.Goals as goal

pub run_seated-requires-clause-seated : goal.run_seated-requires-clause-seated
run_seated-requires-clause-seated g c = λ κs known.
    let agents = c.args.phase.now.agents.now in
    (caller_at 0 ∷ agents_from 1 agents, c.in-Ok.ensures.callers ∙ c.as_slice.ensures.value ∙ c.callers_of-callers.ensures.callers ∙ (search rules), askers-lie agents c.callers_of-callers.ensures.queues)

pub run_seated-requires-clause-plan : goal.run_seated-requires-clause-plan
run_seated-requires-clause-plan g c = λ κs known. plan_is c.in-Ok.port (search rules) (search rules) c.requires.few c.callers_of-callers.ensures.queues c.requires.rising c.in-Ok.ensures.port.0 c.requires.behind

pub returns-clause-middle : goal.returns-clause-middle
returns-clause-middle g c =
    let phase = c.args.phase.now in
    middle_as (λ workers middle. (opening closing : Call) → (count : Option ℕ)
    → IsMiddle workers (parts.Phase opening count phase.shell.now phase.agents.now closing) (parcels phase.frames.now) middle)
    (λ (made : Middle). made.adapter.history) c.run_seated.result (search rules) c.in-Ok.ensures.port.0 c.run_seated.ensures.middle
