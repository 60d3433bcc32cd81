use Rattle.std.proofs.Common.{◌∙◌, sym, ap, Option}
use Rattle.std.specs.Result.{result_err}
use Rattle.flow_rules.specs.declared.fault.Fault.{Fault}
use Rattle.port_state.specs.KeptState.{state_in}
use Rattle.flow_calls.specs.declared.reply.Reply.TheVariants as replies
use Rattle.flow_calls.specs.declared.reply.OpKind.TheVariants as kinds
use Rattle.port_state.specs.Reply.{unless}
use Rattle.port_state.specs.Effect.{done, changes_done}
use Rattle.port_state.proofs.Places.{at-ok, ok-same, no-faults}
use Rattle.port_state.proofs.RuleHeld.{held-state, held-changes}
use Rattle.port_state.proofs.queue_calls.rule_held.Goals as goal

pub returns-in-Ok-clause-reply : goal.returns-in-Ok-clause-reply
returns-in-Ok-clause-reply c =
    let s = state_in c.args.state.now in
    let room = sym c.full_fault.ensures ∙ c.in_default.is in
    let fine = sym c.table_rule.ensures.fault ∙ ap result_err c.in-Ok.is in
    ok-same c.creation_held.result (λ j. j.reply) _ _ (sym (ap (λ (o : Option Fault). unless o (replies.Enqueued kinds.RuleCreate s.ids)) (no-faults _ _ room fine))) c.creation_held.ensures.reply

pub returns-in-Ok-clause-effect : goal.returns-in-Ok-clause-effect
returns-in-Ok-clause-effect c =
    let s = state_in c.args.state.now in
    let room = sym c.full_fault.ensures ∙ c.in_default.is in
    let fine = sym c.table_rule.ensures.fault ∙ ap result_err c.in-Ok.is in
    let there = at-ok c.table_rule.result c.in-Ok.rule c.in-Ok.is _ c.table_rule.ensures.bound in
    let is = at-ok c.table_rule.result c.in-Ok.rule c.in-Ok.is _ c.table_rule.ensures.rule in
    ok-same c.creation_held.result (λ j. done s j.effect) _ _
    (held-state c.args.limits.now s c.args.place.queue c.args.place.postpone c.args.table c.args.pt c.args.act c.args.lists.now c.in-Ok.rule room fine there is)
    c.creation_held.ensures.effect

pub returns-in-Ok-clause-changes : goal.returns-in-Ok-clause-changes
returns-in-Ok-clause-changes c =
    let s = state_in c.args.state.now in
    let room = sym c.full_fault.ensures ∙ c.in_default.is in
    let fine = sym c.table_rule.ensures.fault ∙ ap result_err c.in-Ok.is in
    let there = at-ok c.table_rule.result c.in-Ok.rule c.in-Ok.is _ c.table_rule.ensures.bound in
    let is = at-ok c.table_rule.result c.in-Ok.rule c.in-Ok.is _ c.table_rule.ensures.rule in
    ok-same c.creation_held.result (λ j. changes_done s j.effect) _ _
    (held-changes c.args.limits.now s c.args.place.queue c.args.place.postpone c.args.table c.args.pt c.args.act c.args.lists.now c.in-Ok.rule room fine there is)
    c.creation_held.ensures.changes
