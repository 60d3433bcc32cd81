-- The kind of an action and the number of a kind; which kinds say where a frame goes, and which rules can share.
use Rattle.std.specs.Prelude.{ℕ, Bool, true, false}
use Rattle.packet_headers.specs.declared.edits.Edit.{Edit}
use Rattle.packet_headers.specs.declared.edits.Edit.TheVariants as edits
use Rattle.flow_actions.specs.declared.action.Action.{Action}
use Rattle.flow_actions.specs.declared.action.Action.TheVariants as actions
use Rattle.flow_actions.specs.declared.action.ActionKind.{ActionKind}
use Rattle.flow_actions.specs.declared.action.ActionKind.TheVariants as kinds

abbrev pub kind_of_edit : Edit → ActionKind
kind_of_edit (edits.MacSrc n) = kinds.MacSrc
kind_of_edit (edits.MacDst n) = kinds.MacDst
kind_of_edit (edits.Ipv4Src n) = kinds.Ipv4Src
kind_of_edit (edits.Ipv4Dst n) = kinds.Ipv4Dst
kind_of_edit (edits.Ipv6Src n) = kinds.Ipv6Src
kind_of_edit (edits.Ipv6Dst n) = kinds.Ipv6Dst
kind_of_edit (edits.PortSrc n) = kinds.PortSrc
kind_of_edit (edits.PortDst n) = kinds.PortDst
kind_of_edit edits.DecTtl = kinds.DecTtl
kind_of_edit (edits.SetTtl n) = kinds.SetTtl
kind_of_edit (edits.SetVid n) = kinds.SetVid

abbrev pub kind_of : Action → ActionKind
kind_of actions.Void = kinds.Void
kind_of (actions.Queue queue) = kinds.Queue
kind_of (actions.Rss rss) = kinds.Rss
kind_of actions.Drop = kinds.Drop
kind_of (actions.Jump group) = kinds.Jump
kind_of (actions.Mark mark) = kinds.Mark
kind_of actions.Count = kinds.Count
kind_of (actions.Indirect id) = kinds.Indirect
kind_of (actions.Set edit) = kind_of_edit edit

-- the number of a kind; two kinds that have one number are the same
abbrev pub action_number : ActionKind → ℕ
action_number kinds.Void = 0
action_number kinds.Queue = 1
action_number kinds.Rss = 2
action_number kinds.Drop = 3
action_number kinds.Jump = 4
action_number kinds.Mark = 5
action_number kinds.Count = 6
action_number kinds.Indirect = 7
action_number kinds.MacSrc = 8
action_number kinds.MacDst = 9
action_number kinds.Ipv4Src = 10
action_number kinds.Ipv4Dst = 11
action_number kinds.Ipv6Src = 12
action_number kinds.Ipv6Dst = 13
action_number kinds.PortSrc = 14
action_number kinds.PortDst = 15
action_number kinds.DecTtl = 16
action_number kinds.SetTtl = 17
action_number kinds.SetVid = 18

abbrev pub is_fate : ActionKind → Bool
is_fate kinds.Queue = true
is_fate kinds.Rss = true
is_fate kinds.Drop = true
is_fate kinds.Jump = true
is_fate _ = false

-- rules can share an action of this kind
abbrev pub is_shareable : ActionKind → Bool
is_shareable kinds.Queue = true
is_shareable kinds.Rss = true
is_shareable kinds.Mark = true
is_shareable kinds.Count = true
is_shareable _ = false

-- the action does nothing
abbrev pub is_void : Action → Bool
is_void actions.Void = true
is_void _ = false
