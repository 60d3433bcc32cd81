use Rattle.std.proofs.Common.{rules, ◌≡◌, ◌∙◌, ◌++◌, sym, ap}
use Rattle.turn_book.specs.Views.{BeginsWith}
use Rattle.turn_book.specs.Books.{mine, opened, seen}
use Rattle.flow_port.specs.Bursts.{passed_all}
use Rattle.flow_port.specs.Owners.{place_of}
use Rattle.flow_port.specs.Holding.{fixed_in, history_in, owner_by}
use Rattle.flow_port.proofs.Owning.{owns_more}
use Rattle.flow_port.proofs.Passing.{passed_owned}
use Rattle.flow_port.proofs.Standing.{Stands-later}
use Rattle.flow_port.proofs.port.turns.pass_in_turn.Goals as goal

pub done-requires-clause-gains : goal.done-requires-clause-gains
done-requires-clause-gains g c =
    let number = c.turn-turn.result.seat.now.number in
    let new = c.pass-passed.new.self in
    let at : place_of c.args.frames.now.caller.0 (fixed_in new).1 ≡ number
    = ap (λ f. place_of c.args.frames.now.caller.0 f.1) (c.pass-passed.ensures.fixed ∙ ap fixed_in c.value.ensures.value ∙ c.turn-turn.ensures.fixed) ∙ c.requires.place ∙ sym c.turn-turn.ensures.same.0 in (
      passed_all c.args.frames.now.caller c.args.frames.now.parcels.now c.pass-passed.new.verdicts.items,
      search rules,
      passed_owned (owner_by (fixed_in new)) c.args.frames.now.caller number (λ p v. at) c.args.frames.now.parcels.now c.pass-passed.new.verdicts.items,
    )

pub returns-clause-mine : goal.returns-clause-mine
returns-clause-mine g c =
    let left = passed_all c.args.frames.now.caller c.args.frames.now.parcels.now c.pass-passed.new.verdicts.items in
    let own : mine history_in fixed_in owner_by c.args.book.now c.done.new.self.1.0 ≡ mine history_in fixed_in owner_by c.args.book.now c.args.seat.now ++ left
    = owns_more c.args.book.now c.turn-turn.result.book.now c.args.seat.now c.turn-turn.result.seat.now c.done.new.self.1.0 left c.turn-turn.ensures.book (c.done.ensures.mine left (search rules)) c.turn-turn.ensures.mine in
    search (rules, own)

pub pass-passed-requires-clause-stands : goal.pass-passed-requires-clause-stands
pass-passed-requires-clause-stands g c =
    let limits = (opened c.args.book.now).adapter.limits in
    let value = c.value.result.now in
    let front = c.requires.stands in
    let more = c.turn-turn.ensures.continues in
    let same : value.adapter.limits ≡ limits = ap (λ f. f.0) (ap fixed_in c.value.ensures.value ∙ c.turn-turn.ensures.fixed) in
    let begins : BeginsWith (history_in value) (seen c.args.seat.now) = (more.0, ap history_in c.value.ensures.value ∙ more.1) in
    Stands-later limits value.adapter.limits front.0 (seen c.args.seat.now) (history_in value) c.args.replica.now same front.1 begins front.2
