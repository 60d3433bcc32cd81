use Rattle.std.proofs.Common.{◌≡◌, ◌∙◌, List, map, length, All, subst, sym, ap, arith}
use Rattle.std.specs.List.{range_with_len}
use Rattle.std.proofs.lemmas.List.{take_all}
use Rattle.flow_calls.specs.declared.caller.Caller.{Caller}
use Rattle.turn_book.specs.Seats as book_seats
use Rattle.flow_port.specs.declared.port.FlowPort.{FlowPort}
use Rattle.flow_port.specs.Ports.{with_caller, callers_of, whose, IsFreshAt, AreDifferent}
use Rattle.flow_port.proofs.Making.{makes_callers, makes_fresh}
use Rattle.flow_port.proofs.port.FlowPort.new.Goals as goal

pub returns-in-Ok-clause-fresh : goal.returns-in-Ok-clause-fresh
returns-in-Ok-clause-fresh c =
    let port : FlowPort = record { alloc = c.args.alloc; book = c.in-Ok.book } in
    let known : c.loop-caller.known.items ≡ c.args.callers.now = c.loop-caller.invariant.known ∙ take_all c.loop-caller.caller-index c.args.callers.now (omega arith) in
    let kept : callers_of port ≡ c.args.callers.now = ap (λ h. h.callers.items) c.in-Ok.ensures.book.0 ∙ (c.loop-caller.invariant.kept ∙ take_all c.loop-caller.caller-index c.args.callers.now (omega arith)) in
    let bs = book_seats.seats_in c.in-Ok.seats in
    subst (λ (cs : List Caller). All (IsFreshAt port) (map (with_caller cs) bs)) (kept ∙ sym known)
    (makes_fresh port bs (subst AreDifferent (sym kept) c.requires.differ) (c.in-Ok.ensures.book.1 ∙ ap length (sym kept))
    (c.in-Ok.ensures.numbers ∙ ap (λ (cs : List Caller). range_with_len 0 (length cs)) (sym kept)) c.in-Ok.ensures.fresh)

pub returns-in-Ok-clause-callers : goal.returns-in-Ok-clause-callers
returns-in-Ok-clause-callers c =
    let known : c.loop-caller.known.items ≡ c.args.callers.now = c.loop-caller.invariant.known ∙ take_all c.loop-caller.caller-index c.args.callers.now (omega arith) in
    subst (λ (cs : List Caller). map whose (map (with_caller cs) (book_seats.seats_in c.in-Ok.seats)) ≡ c.args.callers.now) (sym known) (makes_callers c.args.callers.now (book_seats.seats_in c.in-Ok.seats) c.in-Ok.ensures.numbers)
