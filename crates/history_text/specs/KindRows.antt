-- The table of the texts of replies as a list of rows, by which a text is read.
use Rattle.std.specs.Prelude.{ℕ, true, false, List, [], ◌∷◌, ◌++◌, map, Some}
use Rattle.flow_rules.specs.declared.fault.Cause.{Cause}
use Rattle.flow_rules.specs.declared.fault.Cause.TheVariants as causes
use Rattle.flow_calls.specs.declared.call.BadKind.TheVariants as bads
use Rattle.flow_calls.specs.declared.reply.OpKind.{OpKind}
use Rattle.flow_calls.specs.declared.reply.OpKind.TheVariants as opkinds
use Rattle.history_text.specs.declared.kind.Kind.{Kind}
use Rattle.history_text.specs.declared.kind.Kind.TheVariants as kinds
use Rattle.history_text.specs.Kinds.{kind_form}
use Rattle.history_text.specs.Reading.{Row}

abbrev pub all_causes : List Cause
all_causes = causes.GroupRange ∷ causes.PriorityRange ∷ causes.NoIngress ∷ causes.Egress ∷ causes.Transfer
    ∷ causes.RulesNumber ∷ causes.TooManyItems ∷ causes.SpecMissing ∷ causes.SpecNeeded ∷ causes.LastBelow
    ∷ causes.LastInTemplate ∷ causes.ItemOrder ∷ causes.ItemDiffers ∷ causes.TooManyActions ∷ causes.ActionConf
    ∷ causes.NoIndirect ∷ causes.ItemNeeded ∷ causes.SecondFate ∷ causes.SecondCount ∷ causes.ActionDiffers
    ∷ causes.KindNotIndirect ∷ causes.KindDiffers ∷ causes.CannotUpdate ∷ causes.NoCounter ∷ causes.NoRule
    ∷ causes.NoObject ∷ causes.NoQueue ∷ causes.TemplateIndex ∷ causes.IdInUse ∷ causes.StoreFull
    ∷ causes.TableFull ∷ causes.QueueFull ∷ causes.QueueRange ∷ causes.TooMany ∷ causes.Busy
    ∷ causes.AlreadyConfigured ∷ []

abbrev pub all_op_kinds : List OpKind
all_op_kinds = opkinds.RuleCreate ∷ opkinds.RuleDestroy ∷ opkinds.IndirectCreate ∷ opkinds.IndirectUpdate ∷ opkinds.IndirectDestroy ∷ []

abbrev pub all_kinds : List Kind
all_kinds = kinds.Validated ∷ kinds.Created ∷ kinds.Destroyed ∷ kinds.Flushed ∷ kinds.Counted ∷ kinds.Listed
    ∷ kinds.Isolated true ∷ kinds.Isolated false ∷ kinds.IndirectCreated ∷ kinds.IndirectUpdated ∷ kinds.IndirectDestroyed
    ∷ kinds.PatternTemplateCreated ∷ kinds.PatternTemplateDestroyed ∷ kinds.ActionsTemplateCreated ∷ kinds.ActionsTemplateDestroyed
    ∷ kinds.TableCreated ∷ kinds.TableDestroyed ∷ kinds.Configured ∷ kinds.Pushed ∷ kinds.Pulled ∷ kinds.Started ∷ kinds.Stopped ∷ kinds.Bye ∷ kinds.Bad bads.Arguments
    ∷ kinds.Bad bads.Port ∷ kinds.Bad bads.NotStarted ∷ kinds.Bad bads.AlreadyStarted
    ∷ (map kinds.Enqueued all_op_kinds ++ map kinds.Refused all_causes)

-- a text of that kind tells the kind and the numbers in it
abbrev pub kind_row : Kind → Row (Kind × List ℕ)
kind_row kind = record { text = kind_form kind; make = λ ns. Some (kind, ns) }

abbrev pub kind_rows : List (Row (Kind × List ℕ))
kind_rows = map kind_row all_kinds
