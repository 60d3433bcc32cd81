use Rattle.std.proofs.Common.{◌≡◌, ◌∙◌, All, drop, length, subst, sym, ap}
use Rattle.flow_rules.specs.declared.limits.Limits.{Limits}
use Rattle.flow_grammar.specs.declared.part.Part.TheVariants as parts
use Rattle.replica.specs.Caught.{ReplicaView}
use Rattle.turn_book.proofs.Mine.{drop_front}
use Rattle.whole_history.specs.Whole.{IsMiddle}
use Rattle.flow_port.specs.Ports.{opening_of, seats_in, since}
use Rattle.flow_port.specs.Standing.{Stands}
use Rattle.running_phase.specs.Actors.{IsClosing}
use Rattle.running_phase.specs.Copies.{parcels}
use Rattle.running_phase.specs.Sends.{AreKept, all_sent}
use Rattle.running_phase.proofs.Closes.{closed_lists, closed_middle}
use Rattle.running_phase.proofs.middle.finish.Goals as goal

pub returns-clause-middle : goal.returns-clause-middle
returns-clause-middle c =
    let port = c.args.port in
    let plan = c.args.plan.now in
    let close = c.close-adapter.ensures in
    let history = c.close-adapter.result.history in
    let left = c.in_ok-failed.ensures.left in
    let rest : since port history ≡ close.begins.0 = ap (drop (length (opening_of port))) close.begins.1 ∙ drop_front (opening_of port) close.begins.0 in (
      close.begins.0,
      close.begins.1,
      λ opening closing count. subst (IsMiddle plan.workers (parts.Phase opening count plan.phase.shell.now plan.phase.agents.now closing) (parcels plan.phase.frames.now)) rest
          (closed_middle port plan (seats_in c.hand_in.new.seats) (since port history) c.requires.plan c.requires.callers close.all close.own close.owned (left.did c.if-failed.false) opening closing count),
    )

pub returns-clause-stands : goal.returns-clause-stands
returns-clause-stands c =
    let close = c.close-adapter.ensures in
    let history = c.close-adapter.result.history in
    let closing : IsClosing c.args.port (seats_in c.hand_in.new.seats) history = record { begins = close.seen; own = close.own } in
    subst (λ (l : Limits). All (λ (r : ReplicaView). Stands l history r) c.hand_in.new.replicas.items) (sym close.limits) (c.in_ok-failed.ensures.left.stand history closing)

pub returns-clause-sent : goal.returns-clause-sent
returns-clause-sent c = λ look finds middle grows.
    let port = c.args.port in
    let plan = c.args.plan.now in
    let close = c.close-adapter.ensures in
    let adapter = c.close-adapter.result in
    let left = c.in_ok-failed.ensures.left in
    let closing : IsClosing port (seats_in c.hand_in.new.seats) adapter.history = record { begins = close.seen; own = close.own } in
    let rest : since port adapter.history ≡ middle = ap (drop (length (opening_of port))) grows ∙ drop_front (opening_of port) middle in
    subst (λ (l : Limits). AreKept (all_sent l look (opening_of port) middle) c.in_ok-sent.sent) close.limits
    (c.in_ok-sent.ensures.sent look (opening_of port) middle grows c.requires.from
    (λ keeps. closed_lists port plan (seats_in c.hand_in.new.seats) (since port adapter.history) c.requires.plan c.requires.callers close.all close.own close.owned (left.did c.if-failed.false)
    adapter.limits look finds adapter.history middle c.hand_in.new.lists.items close.limits rest rest (left.listed keeps) (left.sent c.if-failed.false look finds adapter.history closing)))
