use Rattle.std.proofs.Common.{◌∙◌}
use Rattle.std.proofs.lemmas.Result.{on_err_weaker}
use Rattle.flow_port.specs.Ports.{mine, seen}
use Rattle.flow_port.proofs.Owning.{behind_turn, mine_grows, mine_is}
use Rattle.flow_port.proofs.Passing.{added_nothing, grew_nothing, on_ok_always}
use Rattle.flow_port.proofs.port.FlowPort.burst.Goals as goal

pub returns-clause-own : goal.returns-clause-own
returns-clause-own g c = mine_is c.args.self.now (behind_turn c.args.seat.now c.pass_in_turn.new.seat)

pub returns-clause-mine : goal.returns-clause-mine
returns-clause-mine g c =
    on_ok_always c.pass_in_turn.result
    (mine_grows c.args.self.now c.args.seat.now c.pass_in_turn.new.seat _ c.requires.seat c.pass_in_turn.ensures.seat c.pass_in_turn.ensures.same.0 c.pass_in_turn.ensures.mine)

pub returns-clause-err : goal.returns-clause-err
returns-clause-err g c =
    on_err_weaker c.pass_in_turn.result
    (λ none. grew_nothing (seen c.args.seat.now) (seen (behind_turn c.args.seat.now c.pass_in_turn.new.seat)) c.args.seat.now.caller c.args.parcels.now c.pass_in_turn.new.verdicts.items none c.pass_in_turn.ensures.grew)
    c.pass_in_turn.ensures.none

pub returns-clause-same_mine : goal.returns-clause-same_mine
returns-clause-same_mine g c =
    on_err_weaker c.pass_in_turn.result
    (λ none. mine_grows c.args.self.now c.args.seat.now c.pass_in_turn.new.seat _ c.requires.seat c.pass_in_turn.ensures.seat c.pass_in_turn.ensures.same.0 c.pass_in_turn.ensures.mine
    ∙ added_nothing (mine c.args.self.now c.args.seat.now) c.args.seat.now.caller c.args.parcels.now c.pass_in_turn.new.verdicts.items none)
    c.pass_in_turn.ensures.none
