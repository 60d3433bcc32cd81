use Rattle.std.proofs.Common.{◌≡◌}
use Rattle.crossbeam_queue.specs.Passes.{view}
use Rattle.frame_ring.specs.RingRule.{marked}
use Rattle.frame_ring.proofs.Calls.{ring_learns}
use Rattle.frame_ring.proofs.Making.{marks_from, unmarks_from, mark_is_ok, unmark_is_some, ok_tells, some_tells, unmarked}
use Rattle.frame_ring.proofs.ring.making.mark.Goals as goal

pub push_as-requires-clause-rule : goal.push_as-requires-clause-rule
push_as-requires-clause-rule g c = (marks_from _ _ _ _ c.requires.pass.1, ring_learns _ _)

pub unwrap-requires : goal.unwrap-requires
unwrap-requires g c = mark_is_ok _ _ _ _ _ c.push_as.result c.requires.pass.1 c.requires.room c.push_as.ensures.rule

pub pop_as-requires-clause-rule : goal.pop_as-requires-clause-rule
pop_as-requires-clause-rule g c =
    let there : view c.push_as.new.pass ≡ marked c.args.marker = ok_tells c.push_as.result _ _ _ c.unwrap.ensures c.push_as.ensures.rule in
    (unmarks_from _ c.args.marker _ there c.requires.passes, ring_learns _ _)

pub unwrap-requires-2 : goal.unwrap-requires-2
unwrap-requires-2 g c =
    let there : view c.push_as.new.pass ≡ marked c.args.marker = ok_tells c.push_as.result _ _ _ c.unwrap.ensures c.push_as.ensures.rule in
    unmark_is_some _ _ c.args.marker _ c.pop_as.result there c.pop_as.ensures.rule

pub returns-clause-begun : goal.returns-clause-begun
returns-clause-begun g c =
    let there : view c.push_as.new.pass ≡ marked c.args.marker = ok_tells c.push_as.result _ _ _ c.unwrap.ensures c.push_as.ensures.rule in
    (unmarked _ _ c.args.marker c.unwrap-2.result there (some_tells c.pop_as.result c.unwrap-2.result _ _ c.unwrap-2.ensures c.pop_as.ensures.rule)).0

pub returns-clause-same : goal.returns-clause-same
returns-clause-same g c =
    let there : view c.push_as.new.pass ≡ marked c.args.marker = ok_tells c.push_as.result _ _ _ c.unwrap.ensures c.push_as.ensures.rule in
    (unmarked _ _ c.args.marker c.unwrap-2.result there (some_tells c.pop_as.result c.unwrap-2.result _ _ c.unwrap-2.ensures c.pop_as.ensures.rule)).1
