use Rattle.std.proofs.Common.{sym, ap, ◌∙◌, rules}
use Rattle.flow_actions.specs.Spread.{queues_of, chosen}
use Rattle.flow_actions.proofs.Choice.{chosen-listed, chosen-none, chosen-all}
use Rattle.flow_actions.proofs.spread.queue_of.Goals as goal

pub returns-then-not-is_empty : goal.returns-then-not-is_empty
returns-then-not-is_empty c =
    chosen-listed c.as_slice-listed.result.now c.args.rxq c.args.hash (sym c.if-not-is_empty.true ∙ c.is_empty.ensures)
    ∙ ap (λ queues. chosen (queues_of queues c.args.rxq) c.args.hash) c.as_slice-listed.ensures.value

pub returns-then-rxq-eq0 : goal.returns-then-rxq-eq0
returns-then-rxq-eq0 c =
    chosen-none c.as_slice-listed.result.now c.args.rxq c.args.hash (sym c.if-not-is_empty.false ∙ c.is_empty.ensures) c.if-rxq-eq0.true
    ∙ ap (λ queues. chosen (queues_of queues c.args.rxq) c.args.hash) c.as_slice-listed.ensures.value

pub returns : goal.returns
returns c =
    chosen-all c.as_slice-listed.result.now c.args.rxq c.args.hash (sym c.if-not-is_empty.false ∙ c.is_empty.ensures) (search rules)
    ∙ ap (λ queues. chosen (queues_of queues c.args.rxq) c.args.hash) c.as_slice-listed.ensures.value
