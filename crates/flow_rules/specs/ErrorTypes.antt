-- What each cause of a refusal is about.
use Rattle.flow_rules.specs.declared.fault.Cause.{Cause}
use Rattle.flow_rules.specs.declared.fault.Cause.TheVariants as causes
use Rattle.flow_rules.specs.declared.fault.ErrorType.{ErrorType}
use Rattle.flow_rules.specs.declared.fault.ErrorType.TheVariants as types

abbrev pub error_type : Cause → ErrorType
error_type causes.GroupRange = types.AttrGroup
error_type causes.PriorityRange = types.AttrPriority
error_type causes.NoIngress = types.AttrIngress
error_type causes.Egress = types.AttrEgress
error_type causes.Transfer = types.AttrTransfer
error_type causes.RulesNumber = types.Attr
error_type causes.TooManyItems = types.ItemNum
error_type causes.SpecMissing = types.ItemSpec
error_type causes.SpecNeeded = types.ItemSpec
error_type causes.LastBelow = types.ItemLast
error_type causes.LastInTemplate = types.ItemLast
error_type causes.ItemOrder = types.Item
error_type causes.ItemDiffers = types.Item
error_type causes.TooManyActions = types.ActionNum
error_type causes.ActionConf = types.ActionConf
error_type causes.NoIndirect = types.ActionConf
error_type causes.ItemNeeded = types.Action
error_type causes.SecondFate = types.Action
error_type causes.SecondCount = types.Action
error_type causes.ActionDiffers = types.Action
error_type causes.KindNotIndirect = types.Action
error_type causes.KindDiffers = types.Action
error_type causes.CannotUpdate = types.Action
error_type causes.NoCounter = types.Action
error_type causes.NoRule = types.Handle
error_type causes.NoObject = types.Handle
error_type causes.NoQueue = types.Handle
error_type causes.TemplateIndex = types.Handle
error_type causes.IdInUse = types.Handle
error_type causes.StoreFull = types.Unspecified
error_type causes.TableFull = types.Unspecified
error_type causes.QueueFull = types.Unspecified
error_type causes.QueueRange = types.Unspecified
error_type causes.TooMany = types.Unspecified
error_type causes.Busy = types.State
error_type causes.AlreadyConfigured = types.State
