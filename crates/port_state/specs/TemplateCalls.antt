-- What a change of templates and tables is refused for, and what it is answered.
use Rattle.std.specs.Prelude.{List}
use Rattle.flow_rules.specs.declared.fault.Fault.{Fault}
use Rattle.flow_calls.specs.declared.reply.Reply.{Reply}
use Rattle.flow_calls.specs.declared.reply.Reply.TheVariants as replies
use Rattle.object_ids.specs.Ids.{id_for}
use Rattle.template_tables.specs.Refusals.{pattern_refusals, actions_refusals, table_refusals, pattern_end_refusals, actions_end_refusals, table_end_refusals}
use Rattle.port_state.specs.declared.effect.TemplateEffect.{TemplateEffect}
use Rattle.port_state.specs.declared.effect.TemplateEffect.TheVariants as templates
use Rattle.port_state.specs.State.{State, templates_in}

-- the faults of a change, in order
abbrev pub template_refusals : State → TemplateEffect → List Fault
template_refusals s (templates.PatternMade id attr pattern) = pattern_refusals (templates_in s) id attr pattern
template_refusals s (templates.PatternGone id) = pattern_end_refusals (templates_in s) id
template_refusals s (templates.ActionsMade id attr lists) = actions_refusals (templates_in s) id attr lists.actions lists.masks
template_refusals s (templates.ActionsGone id) = actions_end_refusals (templates_in s) id
template_refusals s (templates.TableMade id attr rules_number named) = table_refusals (templates_in s) id attr rules_number named.patterns.items named.actions.items
template_refusals s (templates.TableGone id) = table_end_refusals (templates_in s) id

-- the reply to one without a fault
abbrev pub template_reply : State → TemplateEffect → Reply
template_reply s (templates.PatternMade id attr pattern) = replies.PatternTemplateCreated (id_for id s.templates.patterns)
template_reply s (templates.PatternGone id) = replies.PatternTemplateDestroyed id
template_reply s (templates.ActionsMade id attr lists) = replies.ActionsTemplateCreated (id_for id s.templates.actions)
template_reply s (templates.ActionsGone id) = replies.ActionsTemplateDestroyed id
template_reply s (templates.TableMade id attr rules_number named) = replies.TableCreated (id_for id s.templates.tables)
template_reply s (templates.TableGone id) = replies.TableDestroyed id
