-- Which item may stand behind which: the order of headers in a frame.
use Rattle.std.specs.Prelude.{◌+◌, Bool, true, false, ◌&&◌, not, nat_lt, Option, None, Some}
use Rattle.packet_headers.specs.declared.items.ItemKind.{ItemKind}
use Rattle.packet_headers.specs.declared.items.ItemKind.TheVariants as kind
use Rattle.pattern_items.specs.declared.order.Before.{Before}

abbrev pub nothing_before : Before
nothing_before = record { last = None; tags = 0; tunnel = false }

abbrev pub is_vlan : ItemKind → Bool
is_vlan kind.Vlan = true
is_vlan _ = false

abbrev pub is_vxlan : ItemKind → Bool
is_vxlan kind.Vxlan = true
is_vxlan _ = false

abbrev pub before_next : Before → ItemKind → Before
before_next b k = record { last = Some k; tags = elim (is_vlan k) [ true ↦ b.tags + 1 | false ↦ 0 ]; tunnel = elim (is_vxlan k) [ true ↦ true | false ↦ b.tunnel ] }

-- an item of the second kind may stand behind one of the first
abbrev pub follows : ItemKind → ItemKind → Bool
follows kind.Eth kind.Vlan = true
follows kind.Eth kind.Ipv4 = true
follows kind.Eth kind.Ipv6 = true
follows kind.Vlan kind.Vlan = true
follows kind.Vlan kind.Ipv4 = true
follows kind.Vlan kind.Ipv6 = true
follows kind.Ipv4 kind.Tcp = true
follows kind.Ipv4 kind.Udp = true
follows kind.Ipv6 kind.Tcp = true
follows kind.Ipv6 kind.Udp = true
follows kind.Udp kind.Vxlan = true
follows kind.Vxlan kind.Eth = true
follows _ _ = false

-- the first item may be of any kind
abbrev pub follows_last : Option ItemKind → ItemKind → Bool
follows_last None k = true
follows_last (Some last) k = follows last k

-- at most two tags in a row, and one VXLAN in a pattern
abbrev pub may_stand : Before → ItemKind → Bool
may_stand b k = follows_last b.last k && (not (is_vlan k && nat_lt 1 b.tags) && not (is_vxlan k && b.tunnel))
