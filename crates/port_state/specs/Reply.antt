-- The reply to a call: the first refusal whose condition holds, else what the call does.
use Rattle.std.specs.Prelude.{ℕ, Bool, true, false, List, map, Option, None, Some}
use Rattle.std.specs.List.{list_any}
use Rattle.flow_rules.specs.declared.limits.Limits.{Limits}
use Rattle.flow_rules.specs.declared.fault.Fault.{Fault}
use Rattle.flow_rules.specs.declared.fault.Cause.TheVariants as causes
use Rattle.flow_rules.specs.Faults.{first, first_fault, is_count}
use Rattle.flow_calls.specs.declared.call.Op.{Op}
use Rattle.flow_calls.specs.declared.call.Op.TheVariants as ops
use Rattle.flow_calls.specs.declared.reply.Reply.{Reply}
use Rattle.flow_calls.specs.declared.reply.Reply.TheVariants as replies
use Rattle.flow_calls.specs.declared.reply.OpKind.TheVariants as kinds
use Rattle.flow_calls.specs.declared.entry.Entry.{Entry}
use Rattle.flow_actions.specs.declared.action.Action.{Action}
use Rattle.flow_rules.specs.declared.counter.Counter.TheVariants as counters
use Rattle.flow_rules.specs.declared.counter.Count.{Count}
use Rattle.flow_rules.specs.RuleView.{RuleView}
use Rattle.flow_rules.specs.Naming.{rule_at}
use Rattle.flow_rules.specs.Shared.{shared_at}
use Rattle.object_ids.specs.Ids.{id_for}
use Rattle.indirect_counters.specs.Refusals as shared_calls
use Rattle.template_tables.specs.Refusals.{pattern_refusals, actions_refusals, table_refusals, pattern_end_refusals, actions_end_refusals, table_end_refusals}
use Rattle.flow_calls.specs.declared.rows.ListRow.{ListRow}
use Rattle.port_state.specs.State.{Placed, first_of, configure_refusals, full_fault, queue_fault, table_rule_fault, queue_at, create_fault, is_in_effect, objects, kinds_in, plain, rule_in, templates_in}
use Rattle.port_state.specs.Standing.{Standing, standing_of}
use Rattle.flow_calls.specs.Rows.{row_of}

-- this reply, or the fault if there is one
abbrev pub unless : Option Fault → Reply → Reply
unless None reply = reply
unless (Some fault) reply = replies.Fault fault

abbrev pub reply_to_destroy : ℕ → Bool → Reply
reply_to_destroy id true = replies.Destroyed id
reply_to_destroy id false = replies.Fault (plain causes.NoRule)

-- what a counter stands at, where it is there
abbrev pub reply_of_count : Bool → Count → Reply
reply_of_count true n = replies.Counted n.hits n.bytes
reply_of_count false n = replies.Fault (plain causes.NoCounter)

-- a rule is asked for its own COUNT
abbrev pub reply_to_query : Option RuleView → Count → Reply
reply_to_query None n = replies.Fault (plain causes.NoRule)
reply_to_query (Some rule) n = reply_of_count (list_any is_count rule.actions) n

abbrev pub reply_to_shared_query : Option Action → Count → Reply
reply_to_shared_query None n = replies.Fault (plain causes.NoObject)
reply_to_shared_query (Some value) n = reply_of_count (is_count value) n

-- the row of a rule in effect
abbrev pub row_in : Placed → ListRow
row_in r = row_of r.rule

-- the reply that a standing gives
abbrev pub answer_of : Limits → Standing → Op → Reply
answer_of limits at (ops.Validate spec) = unless (first_fault limits (kinds_in at.state) spec) replies.Validated
answer_of limits at (ops.Create spec) = unless (create_fault limits at.state spec) (replies.Created at.state.ids)
answer_of limits at (ops.Destroy id) = reply_to_destroy id (is_in_effect id at.state)
answer_of limits at ops.Flush = replies.Flushed
answer_of limits at (ops.Query id) = reply_to_query (rule_at id (map rule_in at.state.rules)) (at.count (counters.Rule id))
answer_of limits at ops.List = replies.Listed (map row_in at.state.rules)
answer_of limits at (ops.Isolate on) = replies.Isolated on
answer_of limits at (ops.IndirectCreate id attr action) =
    unless (shared_calls.create_fault at.state.rxq (objects at.state) id attr action) (replies.IndirectCreated (id_for id (objects at.state)))
answer_of limits at (ops.IndirectUpdate id action) = unless (shared_calls.update_fault at.state.rxq (objects at.state) id action) (replies.IndirectUpdated id)
answer_of limits at (ops.IndirectDestroy id) = unless (shared_calls.destroy_fault (objects at.state) id) (replies.IndirectDestroyed id)
answer_of limits at (ops.IndirectQuery id) = reply_to_shared_query (shared_at id at.state.shared) (at.count (counters.Shared id))
answer_of limits at (ops.PatternTemplateCreate id attr pattern) =
    unless (first (pattern_refusals (templates_in at.state) id attr pattern)) (replies.PatternTemplateCreated (id_for id at.state.templates.patterns))
answer_of limits at (ops.PatternTemplateDestroy id) = unless (first (pattern_end_refusals (templates_in at.state) id)) (replies.PatternTemplateDestroyed id)
answer_of limits at (ops.ActionsTemplateCreate id attr lists) =
    unless (first (actions_refusals (templates_in at.state) id attr lists.actions lists.masks)) (replies.ActionsTemplateCreated (id_for id at.state.templates.actions))
answer_of limits at (ops.ActionsTemplateDestroy id) = unless (first (actions_end_refusals (templates_in at.state) id)) (replies.ActionsTemplateDestroyed id)
answer_of limits at (ops.TableCreate id attr rules_number templates) =
    unless (first (table_refusals (templates_in at.state) id attr rules_number templates.patterns.items templates.actions.items)) (replies.TableCreated (id_for id at.state.templates.tables))
answer_of limits at (ops.TableDestroy id) = unless (first (table_end_refusals (templates_in at.state) id)) (replies.TableDestroyed id)
answer_of limits at (ops.Configure queues size) = unless (first (configure_refusals at.state queues size)) (replies.Configured queues size)
answer_of limits at (ops.QueueCreate q postpone table pt act lists) =
    unless (first_of (full_fault at.state q) (table_rule_fault limits at.state table pt act lists)) (replies.Enqueued kinds.RuleCreate at.state.ids)
answer_of limits at (ops.QueueDestroy q postpone rule) = unless (full_fault at.state q) (replies.Enqueued kinds.RuleDestroy rule)
answer_of limits at (ops.QueueIndirectCreate q postpone id attr action) =
    unless (first_of (full_fault at.state q) (shared_calls.create_fault at.state.rxq (objects at.state) id attr action))
    (replies.Enqueued kinds.IndirectCreate (id_for id (objects at.state)))
answer_of limits at (ops.QueueIndirectUpdate q postpone id action) =
    unless (first_of (full_fault at.state q) (shared_calls.queued_update_fault at.state.rxq action)) (replies.Enqueued kinds.IndirectUpdate id)
answer_of limits at (ops.QueueIndirectDestroy q postpone id) = unless (full_fault at.state q) (replies.Enqueued kinds.IndirectDestroy id)
answer_of limits at (ops.Push q) = unless (queue_fault at.state q) (replies.Pushed q)
answer_of limits at (ops.Pull q) = unless (queue_fault at.state q) (replies.Pulled q (queue_at q at.state).results)
answer_of limits at (ops.Start _) = replies.Started
answer_of limits at ops.Stop = replies.Stopped at.totals
answer_of limits at ops.Quit = replies.Bye
answer_of limits at (ops.Bad kind) = replies.Bad kind

-- the reply to a call behind a history
unfoldable pub reply_to : Limits → List Entry → Op → Reply
reply_to limits history op = answer_of limits (standing_of limits history) op
