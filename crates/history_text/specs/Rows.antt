-- The rows of a list of rules.
use Rattle.std.specs.Prelude.{ℕ, List, [], ◌∷◌, ◌++◌, codes}
use Rattle.std.specs.List.{flat_map}
use Rattle.packet_headers.specs.declared.items.ItemKind.{ItemKind}
use Rattle.packet_headers.specs.declared.items.ItemKind.TheVariants as items
use Rattle.flow_actions.specs.declared.action.ActionKind.{ActionKind}
use Rattle.flow_actions.specs.declared.action.ActionKind.TheVariants as actions
use Rattle.flow_calls.specs.declared.rows.ListRow.{ListRow}
use Rattle.history_text.specs.Forms.{filled}

-- an item's name and a space
abbrev pub item_text : ItemKind → List ℕ
item_text items.Void = codes "VOID "
item_text items.Eth = codes "ETH "
item_text items.Vlan = codes "VLAN "
item_text items.Ipv4 = codes "IPV4 "
item_text items.Ipv6 = codes "IPV6 "
item_text items.Tcp = codes "TCP "
item_text items.Udp = codes "UDP "
item_text items.Vxlan = codes "VXLAN "

-- a space and an action's name
abbrev pub action_text : ActionKind → List ℕ
action_text actions.Void = codes " VOID"
action_text actions.Queue = codes " QUEUE"
action_text actions.Rss = codes " RSS"
action_text actions.Drop = codes " DROP"
action_text actions.Jump = codes " JUMP"
action_text actions.Mark = codes " MARK"
action_text actions.Count = codes " COUNT"
action_text actions.Indirect = codes " INDIRECT"
action_text actions.MacSrc = codes " SET_MAC_SRC"
action_text actions.MacDst = codes " SET_MAC_DST"
action_text actions.Ipv4Src = codes " SET_IPV4_SRC"
action_text actions.Ipv4Dst = codes " SET_IPV4_DST"
action_text actions.Ipv6Src = codes " SET_IPV6_SRC"
action_text actions.Ipv6Dst = codes " SET_IPV6_DST"
action_text actions.PortSrc = codes " SET_TP_SRC"
action_text actions.PortDst = codes " SET_TP_DST"
action_text actions.DecTtl = codes " DEC_TTL"
action_text actions.SetTtl = codes " SET_TTL"
action_text actions.SetVid = codes " OF_SET_VLAN_VID"

-- a line behind the columns' names: id, group and priority, and the names of items and actions
abbrev pub row_text : ListRow → List ℕ
row_text row = filled (codes "\n0\t0\t0\ti--\t") (row.id ∷ row.group ∷ row.priority ∷ [])
    ++ (flat_map item_text row.items.items ++ (codes "=>" ++ flat_map action_text row.actions.items))
