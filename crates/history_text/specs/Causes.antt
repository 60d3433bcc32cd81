-- Refusals: the number and name of each error type (after the rte_flow guide's), of each cause the kind of place that it
-- names and its text, and the text that is made of both.
use Rattle.std.specs.Prelude.{ℕ, List, [], ◌∷◌, ◌++◌, Option, None, Some, codes}
use Rattle.std.specs.List.{concat}
use Rattle.flow_rules.specs.declared.fault.Cause.{Cause}
use Rattle.flow_rules.specs.declared.fault.Cause.TheVariants as causes
use Rattle.flow_rules.specs.declared.fault.ErrorType.{ErrorType}
use Rattle.flow_rules.specs.declared.fault.ErrorType.TheVariants as types
use Rattle.flow_rules.specs.declared.fault.Fault.{Fault}
use Rattle.flow_rules.specs.ErrorTypes.{error_type}
use Rattle.history_text.specs.declared.cause.FaultPlace.{FaultPlace}
use Rattle.history_text.specs.declared.cause.FaultPlace.TheVariants as places

-- an error type's number, and its name behind `RTE_FLOW_ERROR_TYPE_`
pub record TypeRow : Type 0 where
  pub number : ℕ
  pub name : List ℕ

abbrev pub type_row : ErrorType → TypeRow
type_row types.Unspecified = record { number = 1; name = codes "UNSPECIFIED" }
type_row types.Handle = record { number = 2; name = codes "HANDLE" }
type_row types.AttrGroup = record { number = 3; name = codes "ATTR_GROUP" }
type_row types.AttrPriority = record { number = 4; name = codes "ATTR_PRIORITY" }
type_row types.AttrIngress = record { number = 5; name = codes "ATTR_INGRESS" }
type_row types.AttrEgress = record { number = 6; name = codes "ATTR_EGRESS" }
type_row types.AttrTransfer = record { number = 7; name = codes "ATTR_TRANSFER" }
type_row types.Attr = record { number = 8; name = codes "ATTR" }
type_row types.ItemNum = record { number = 9; name = codes "ITEM_NUM" }
type_row types.ItemSpec = record { number = 10; name = codes "ITEM_SPEC" }
type_row types.ItemLast = record { number = 11; name = codes "ITEM_LAST" }
type_row types.ItemMask = record { number = 12; name = codes "ITEM_MASK" }
type_row types.Item = record { number = 13; name = codes "ITEM" }
type_row types.ActionNum = record { number = 14; name = codes "ACTION_NUM" }
type_row types.ActionConf = record { number = 15; name = codes "ACTION_CONF" }
type_row types.Action = record { number = 16; name = codes "ACTION" }
type_row types.State = record { number = 17; name = codes "STATE" }

-- the kind of place that a cause names, and its text, with the number in it written `0`, where it has one
pub record Told : Type 0 where
  pub place : FaultPlace
  pub text : List ℕ
  pub number : Option ℕ

abbrev pub nowhere : List ℕ → Told
nowhere text = record { place = places.Nowhere; text = text; number = None }

abbrev pub counted : List ℕ → ℕ → Told
counted text number = record { place = places.Nowhere; text = text; number = Some number }

abbrev pub in_item : List ℕ → Told
in_item text = record { place = places.Item; text = text; number = None }

abbrev pub in_action : List ℕ → Told
in_action text = record { place = places.Action; text = text; number = None }

abbrev pub told_of : Cause → Told
told_of causes.GroupRange = nowhere (codes "group out of range")
told_of causes.PriorityRange = nowhere (codes "priority out of range")
told_of causes.NoIngress = nowhere (codes "ingress is required")
told_of causes.Egress = nowhere (codes "egress is not supported")
told_of causes.Transfer = nowhere (codes "transfer is not supported")
told_of causes.RulesNumber = nowhere (codes "rules number out of range")
told_of causes.TooManyItems = counted (codes "more than 0 items") 16
told_of causes.SpecMissing = in_item (codes "last or mask without spec")
told_of causes.SpecNeeded = in_item (codes "spec is required")
told_of causes.LastBelow = in_item (codes "last below spec")
told_of causes.LastInTemplate = in_item (codes "last is not supported here")
told_of causes.ItemOrder = in_item (codes "does not follow the item before it")
told_of causes.ItemDiffers = in_item (codes "differs from the template")
told_of causes.TooManyActions = counted (codes "more than 0 actions") 16
told_of causes.ActionConf = in_action (codes "bad value")
told_of causes.NoIndirect = in_action (codes "no such indirect action")
told_of causes.ItemNeeded = in_action (codes "needs an item in the pattern")
told_of causes.SecondFate = in_action (codes "second fate")
told_of causes.SecondCount = in_action (codes "counter named twice")
told_of causes.ActionDiffers = in_action (codes "differs from the template")
told_of causes.KindNotIndirect = nowhere (codes "action cannot be indirect")
told_of causes.KindDiffers = nowhere (codes "kind differs")
told_of causes.CannotUpdate = nowhere (codes "action cannot be updated")
told_of causes.NoCounter = nowhere (codes "no counter to query")
told_of causes.NoRule = nowhere (codes "no such rule")
told_of causes.NoObject = nowhere (codes "no such object")
told_of causes.NoQueue = nowhere (codes "no such queue")
told_of causes.TemplateIndex = nowhere (codes "no such template index")
told_of causes.IdInUse = nowhere (codes "id in use")
told_of causes.StoreFull = nowhere (codes "store full")
told_of causes.TableFull = nowhere (codes "table full")
told_of causes.QueueFull = nowhere (codes "queue full")
told_of causes.QueueRange = nowhere (codes "queues out of range")
told_of causes.TooMany = nowhere (codes "too many objects")
told_of causes.Busy = nowhere (codes "in use")
told_of causes.AlreadyConfigured = nowhere (codes "already configured")

abbrev pub place_form : FaultPlace → List ℕ
place_form places.Nowhere = []
place_form places.Item = codes "item 0: "
place_form places.Action = codes "action 0: "

abbrev pub place_numbers : FaultPlace → ℕ → List ℕ
place_numbers places.Nowhere at = []
place_numbers places.Item at = at ∷ []
place_numbers places.Action at = at ∷ []

-- the number, where there is one
abbrev pub number_in : Option ℕ → List ℕ
number_in None = []
number_in (Some number) = number ∷ []

-- the text of a refusal, with its numbers written `0`
abbrev pub refusal_form : Cause → List ℕ
refusal_form cause = let told = told_of cause in
    concat (codes "Caught error type 0 (" ∷ (type_row (error_type cause)).name ∷ codes "): " ∷ place_form told.place ∷ told.text ∷ [])

-- the error type's, the place, and the text's own
abbrev pub refusal_numbers : Fault → List ℕ
refusal_numbers fault = let told = told_of fault.cause in
    (type_row (error_type fault.cause)).number ∷ (place_numbers told.place fault.at ++ number_in told.number)
