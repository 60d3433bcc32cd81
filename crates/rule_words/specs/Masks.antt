-- The mask list of an actions template. It is written as actions are. An action is set where its value isn't 0, and RSS where a list
-- stands in it that says something.
use Rattle.std.specs.Prelude.{ℕ, ◌+◌, ◌-◌, ◌^◌, ◌==◌, ◌||◌, Bool, false, not, min, nat_lt, replicate, slice_set, List, [], ◌∷◌, ◌++◌, length, codes, Option, option_map, if◌then◌else◌}
use Rattle.packet_headers.specs.declared.edits.Edit.{Edit}
use Rattle.packet_headers.specs.declared.edits.Edit.TheVariants as edits
use Rattle.flow_actions.specs.Kinds.{kind_of, is_void}
use Rattle.flow_actions.specs.declared.action.Action.{Action}
use Rattle.flow_actions.specs.declared.action.Action.TheVariants as actions
use Rattle.flow_actions.specs.declared.rss.Rss.{Rss}
use Rattle.rule_binding.specs.declared.template.Masks.{Masks}
use Rattle.rule_words.specs.Actions.{action_from}
use Rattle.rule_words.specs.Turns.{up_to}

-- The types of RSS of which no list is read yet: the six types are numbers up to 63, so 64 is none that a list says.
abbrev pub no_types_said : ℕ
no_types_said = 64

-- an empty list of queues says nothing, and a list of types always says something
abbrev pub is_said : Rss → Bool
is_said rss = nat_lt 0 (length rss.queues.items) || not (rss.types == no_types_said)

abbrev pub edit_value : Edit → ℕ
edit_value (edits.MacSrc value) = value
edit_value (edits.MacDst value) = value
edit_value (edits.Ipv4Src value) = value
edit_value (edits.Ipv4Dst value) = value
edit_value (edits.Ipv6Src value) = value
edit_value (edits.Ipv6Dst value) = value
edit_value (edits.PortSrc value) = value
edit_value (edits.PortDst value) = value
edit_value edits.DecTtl = 0
edit_value (edits.SetTtl value) = value
edit_value (edits.SetVid value) = value

abbrev pub is_set : Action → Bool
is_set actions.Void = false
is_set (actions.Queue queue) = not (queue == 0)
is_set (actions.Rss rss) = is_said rss
is_set actions.Drop = false
is_set (actions.Jump group) = not (group == 0)
is_set (actions.Mark mark) = not (mark == 0)
is_set actions.Count = false
is_set (actions.Indirect id) = not (id == 0)
is_set (actions.Set edit) = not (edit_value edit == 0)

abbrev pub no_masks : Masks
no_masks = record { kinds = record { items = [] }; set = replicate 16 false; more = 0 }

-- one more action: the first 16 are kept, and those behind them counted; `void` isn't kept
abbrev pub with_mask : Masks → Action → Masks
with_mask masks action =
    if is_void action then masks
    else (if nat_lt (length masks.kinds.items) 16
    then record masks { kinds = record { items = masks.kinds.items ++ kind_of action ∷ [] }; set = slice_set masks.set (length masks.kinds.items) (is_set action) }
    else record masks { more = min (masks.more + 1) (2 ^ 16 - 1) })

abbrev pub mask_turn : Masks → List (List ℕ) → Option (Masks × List (List ℕ))
mask_turn so_far rest = option_map (λ read. (with_mask so_far read.0, read.1)) (action_from no_types_said rest)

-- the mask list that words make up to `end`, and the words behind it
abbrev pub masks_of : List (List ℕ) → Option (Masks × List (List ℕ))
masks_of rest = up_to (codes "end") mask_turn no_masks rest
