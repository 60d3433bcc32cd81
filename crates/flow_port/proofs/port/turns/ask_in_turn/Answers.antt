use Rattle.std.proofs.Common.{rules, ◌≡◌, ◌∙◌, ◌++◌, sym, ap}
use Rattle.turn_book.specs.Books.{mine}
use Rattle.flow_port.specs.Calls.{entry_left}
use Rattle.flow_port.specs.Owners.{place_of}
use Rattle.flow_port.specs.Holding.{fixed_in, history_in, owner_by}
use Rattle.flow_port.proofs.Asking.{left_is_own}
use Rattle.flow_port.proofs.Owning.{owns_more}
use Rattle.flow_port.proofs.port.turns.ask_in_turn.Goals as goal

pub done-requires-clause-gains : goal.done-requires-clause-gains
done-requires-clause-gains g c =
    let number = c.turn-turn.result.seat.now.number in
    let new = c.ask-reply.new.self in
    let at : place_of c.args.caller.0 (fixed_in new).1 ≡ number
    = ap (λ f. place_of c.args.caller.0 f.1) (c.ask-reply.ensures.fixed ∙ ap fixed_in c.value.ensures.value ∙ c.turn-turn.ensures.fixed) ∙ c.requires.place ∙ sym c.turn-turn.ensures.same.0 in
    (entry_left c.args.caller c.args.call.now c.ask-reply.result, search rules, left_is_own c.args.caller c.args.call.now c.ask-reply.result (owner_by (fixed_in new)) number (λ reply. at))

pub returns-clause-mine : goal.returns-clause-mine
returns-clause-mine g c =
    let left = entry_left c.args.caller c.args.call.now c.ask-reply.result in
    let own : mine history_in fixed_in owner_by c.args.book.now c.done.new.self.1.0 ≡ mine history_in fixed_in owner_by c.args.book.now c.args.seat.now ++ left
    = owns_more c.args.book.now c.turn-turn.result.book.now c.args.seat.now c.turn-turn.result.seat.now c.done.new.self.1.0 left c.turn-turn.ensures.book (c.done.ensures.mine left (search rules)) c.turn-turn.ensures.mine in
    search (rules, own)
