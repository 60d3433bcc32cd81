-- The table of the texts of replies, each with its numbers written `0`.
use Rattle.std.specs.Prelude.{ℕ, Bool, true, false, List, [], ◌∷◌, length, count_by, codes}
use Rattle.flow_calls.specs.declared.call.BadKind.TheVariants as bads
use Rattle.flow_calls.specs.declared.reply.OpKind.{OpKind}
use Rattle.flow_calls.specs.declared.reply.OpKind.TheVariants as opkinds
use Rattle.flow_calls.specs.declared.reply.Reply.{Reply}
use Rattle.flow_calls.specs.declared.reply.Reply.TheVariants as replies
use Rattle.history_text.specs.declared.kind.Kind.{Kind}
use Rattle.history_text.specs.declared.kind.Kind.TheVariants as kinds
use Rattle.history_text.specs.Causes.{refusal_form, refusal_numbers}
use Rattle.history_text.specs.Pulled.{is_outcome}

-- the text of an operation that a flow queue holds
abbrev pub enqueued_form : OpKind → List ℕ
enqueued_form opkinds.RuleCreate = codes "Flow rule #0 creation enqueued"
enqueued_form opkinds.RuleDestroy = codes "Flow rule #0 destruction enqueued"
enqueued_form opkinds.IndirectCreate = codes "Indirect action #0 creation enqueued"
enqueued_form opkinds.IndirectUpdate = codes "Indirect action #0 update enqueued"
enqueued_form opkinds.IndirectDestroy = codes "Indirect action #0 destruction enqueued"

abbrev pub kind_form : Kind → List ℕ
kind_form kinds.Validated = codes "Flow rule validated"
kind_form kinds.Created = codes "Flow rule #0 created"
kind_form kinds.Destroyed = codes "Flow rule #0 destroyed"
kind_form kinds.Flushed = codes "Flow rules flushed"
kind_form kinds.Counted = codes "COUNT: hits 0 bytes 0"
kind_form kinds.Listed = codes "ID\tGroup\tPrio\tAttr\tRule"
kind_form (kinds.Isolated true) = codes "Ingress traffic is restricted to the defined flow rules"
kind_form (kinds.Isolated false) = codes "Ingress traffic is not restricted"
kind_form kinds.IndirectCreated = codes "Indirect action #0 created"
kind_form kinds.IndirectUpdated = codes "Indirect action #0 updated"
kind_form kinds.IndirectDestroyed = codes "Indirect action #0 destroyed"
kind_form kinds.PatternTemplateCreated = codes "Pattern template #0 created"
kind_form kinds.PatternTemplateDestroyed = codes "Pattern template #0 destroyed"
kind_form kinds.ActionsTemplateCreated = codes "Actions template #0 created"
kind_form kinds.ActionsTemplateDestroyed = codes "Actions template #0 destroyed"
kind_form kinds.TableCreated = codes "Template table #0 created"
kind_form kinds.TableDestroyed = codes "Template table #0 destroyed"
kind_form kinds.Configured = codes "Port 0 configured: 0 queues of 0 entries"
kind_form (kinds.Enqueued kind) = enqueued_form kind
kind_form kinds.Pushed = codes "Queue #0 operations pushed"
kind_form kinds.Pulled = codes "Queue #0 pulled 0 operations (0 failed, 0 succeeded) ["
kind_form kinds.Started = codes "Packet forwarding started"
kind_form kinds.Stopped = codes "Packet forwarding stopped: "
kind_form kinds.Bye = codes "Bye"
kind_form (kinds.Bad bads.Arguments) = codes "Bad arguments"
kind_form (kinds.Bad bads.Port) = codes "Invalid port"
kind_form (kinds.Bad bads.NotStarted) = codes "Packet forwarding not started"
kind_form (kinds.Bad bads.AlreadyStarted) = codes "Packet forwarding already started"
kind_form (kinds.Refused cause) = refusal_form cause

-- the text of a reply, and the numbers in it
pub record Spelled : Type 0 where
  pub kind : Kind
  pub numbers : List ℕ

abbrev pub plain : Kind → Spelled
plain kind = record { kind = kind; numbers = [] }

abbrev pub numbered : Kind → ℕ → Spelled
numbered kind number = record { kind = kind; numbers = number ∷ [] }

-- a counter's frames, and their bytes
abbrev pub counted : ℕ → ℕ → Spelled
counted hits bytes = record { kind = kinds.Counted; numbers = hits ∷ bytes ∷ [] }

-- flow queues of port 0
abbrev pub configured : ℕ → ℕ → Spelled
configured queues size = record { kind = kinds.Configured; numbers = 0 ∷ queues ∷ size ∷ [] }

-- a flow queue's results: how many there are, how many failed, and how many succeeded
abbrev pub pulled : ℕ → List Bool → Spelled
pulled queue outcomes = record {
  kind = kinds.Pulled;
  numbers = queue ∷ length outcomes ∷ count_by (is_outcome false) outcomes ∷ count_by (is_outcome true) outcomes ∷ [];
}

abbrev pub spell : Reply → Spelled
spell replies.Validated = plain kinds.Validated
spell (replies.Created id) = numbered kinds.Created id
spell (replies.Destroyed id) = numbered kinds.Destroyed id
spell replies.Flushed = plain kinds.Flushed
spell (replies.Counted hits bytes) = counted hits bytes
spell (replies.Listed rows) = plain kinds.Listed
spell (replies.Isolated on) = plain (kinds.Isolated on)
spell (replies.IndirectCreated id) = numbered kinds.IndirectCreated id
spell (replies.IndirectUpdated id) = numbered kinds.IndirectUpdated id
spell (replies.IndirectDestroyed id) = numbered kinds.IndirectDestroyed id
spell (replies.PatternTemplateCreated id) = numbered kinds.PatternTemplateCreated id
spell (replies.PatternTemplateDestroyed id) = numbered kinds.PatternTemplateDestroyed id
spell (replies.ActionsTemplateCreated id) = numbered kinds.ActionsTemplateCreated id
spell (replies.ActionsTemplateDestroyed id) = numbered kinds.ActionsTemplateDestroyed id
spell (replies.TableCreated id) = numbered kinds.TableCreated id
spell (replies.TableDestroyed id) = numbered kinds.TableDestroyed id
spell (replies.Configured queues size) = configured queues size
spell (replies.Enqueued kind id) = numbered (kinds.Enqueued kind) id
spell (replies.Pushed queue) = numbered kinds.Pushed queue
spell (replies.Pulled queue outcomes) = pulled queue outcomes
spell replies.Started = plain kinds.Started
spell (replies.Stopped totals) = plain kinds.Stopped
spell replies.Bye = plain kinds.Bye
spell (replies.Bad kind) = plain (kinds.Bad kind)
spell (replies.Fault fault) = record { kind = kinds.Refused fault.cause; numbers = refusal_numbers fault }
