use Rattle.std.proofs.Common.{◌≤◌, List, IfOk, subst, sym, ap, ◌∙◌}
use Rattle.turn_book.specs.Views.{BeginsWith}
use Rattle.flow_calls.specs.declared.caller.Caller.{Caller}
use Rattle.flow_calls.specs.declared.entry.Entry.{Entry}
use Rattle.flow_calls.specs.Entries.{numbers_by}
use Rattle.flow_port.specs.Ports.{seats_in}
use Rattle.test_crews.proofs.Crews.{All-whose}
use Rattle.test_crews.proofs.crew.run_crew.Goals as goal

pub seat_all-requires-clause-frames : goal.seat_all-requires-clause-frames
seat_all-requires-clause-frames g c who = ap (numbers_by who) c.in-Ok.ensures.port.0 ∙ c.requires.frames who

pub seat_all-requires-clause-known : goal.seat_all-requires-clause-known
seat_all-requires-clause-known g c =
    All-whose (λ (k : Caller). k.0 ≤ 24) (seats_in c.in-Ok.seats) c.callers-callers.result.items (c.in-Ok.ensures.callers ∙ c.as_slice.ensures.value) c.callers-callers.ensures.known

pub returns-clause-begins : goal.returns-clause-begins
returns-clause-begins g c =
    subst (λ (opening : List Entry). IfOk c.run_seated.result (λ run. BeginsWith run.adapter.history opening)) c.in-Ok.ensures.port.0 c.run_seated.ensures.begins
