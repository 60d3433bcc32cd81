use Rattle.std.proofs.Common.{◌≡◌, ◌∙◌, ◌++◌, append-nil}
use Rattle.std.proofs.lemmas.Result.{on_err_weaker}
use Rattle.flow_port.specs.Ports.{Grew, mine, seen}
use Rattle.flow_port.proofs.Asking.{begins-grown, left_at_err, left_at_ok}
use Rattle.flow_port.proofs.Owning.{behind_turn, mine_grows, mine_is}
use Rattle.flow_port.proofs.port.FlowPort.call.Goals as goal

pub returns-clause-own : goal.returns-clause-own
returns-clause-own g c = mine_is c.args.self.now (behind_turn c.args.seat.now c.ask_in_turn.new.seat)

pub returns-clause-ok : goal.returns-clause-ok
returns-clause-ok g c =
    left_at_ok c.args.seat.now.caller c.args.call.now c.ask_in_turn.result (Grew (seen c.args.seat.now) (seen (behind_turn c.args.seat.now c.ask_in_turn.new.seat))) c.ask_in_turn.ensures.grew

pub returns-clause-err : goal.returns-clause-err
returns-clause-err g c =
    let new = behind_turn c.args.seat.now c.ask_in_turn.new.seat in
    on_err_weaker c.ask_in_turn.result (begins-grown (seen c.args.seat.now) (seen new))
    (left_at_err c.args.seat.now.caller c.args.call.now c.ask_in_turn.result (Grew (seen c.args.seat.now) (seen new)) c.ask_in_turn.ensures.grew)

pub returns-clause-mine : goal.returns-clause-mine
returns-clause-mine g c =
    let port = c.args.self.now in
    let old = c.args.seat.now in
    left_at_ok old.caller c.args.call.now c.ask_in_turn.result (λ l. mine port (behind_turn old c.ask_in_turn.new.seat) ≡ mine port old ++ l)
    (mine_grows port old c.ask_in_turn.new.seat _ c.requires.seat c.ask_in_turn.ensures.seat c.ask_in_turn.ensures.same.0 c.ask_in_turn.ensures.mine)

pub returns-clause-same_mine : goal.returns-clause-same_mine
returns-clause-same_mine g c =
    let port = c.args.self.now in
    let old = c.args.seat.now in
    on_err_weaker c.ask_in_turn.result (λ e. e ∙ append-nil (mine port old))
    (left_at_err old.caller c.args.call.now c.ask_in_turn.result (λ l. mine port (behind_turn old c.ask_in_turn.new.seat) ≡ mine port old ++ l)
    (mine_grows port old c.ask_in_turn.new.seat _ c.requires.seat c.ask_in_turn.ensures.seat c.ask_in_turn.ensures.same.0 c.ask_in_turn.ensures.mine))
