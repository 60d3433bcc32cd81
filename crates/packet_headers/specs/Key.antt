-- The layers that a key holds, and the key that holds given layers.
use Rattle.std.specs.Prelude.{ℕ, Bool, nat_eq, slice_index, if◌then◌else◌, Option, Some, None, List, [], ◌∷◌, ◌++◌}
use Rattle.packet_headers.specs.declared.items.ItemKind.{ItemKind}
use Rattle.packet_headers.specs.declared.items.ItemKind.TheVariants as kind
use Rattle.packet_headers.specs.declared.items.LayerAt.{LayerAt}
use Rattle.packet_headers.specs.declared.headers.Eth.{Eth}
use Rattle.packet_headers.specs.declared.headers.Tag.{Tag}
use Rattle.packet_headers.specs.declared.headers.Ipv4.{Ipv4}
use Rattle.packet_headers.specs.declared.headers.Ipv6.{Ipv6}
use Rattle.packet_headers.specs.declared.headers.Tcp.{Tcp}
use Rattle.packet_headers.specs.declared.headers.Udp.{Udp}
use Rattle.packet_headers.specs.declared.headers.Vxlan.{Vxlan}
use Rattle.packet_headers.specs.declared.stacks.Tags.{Tags}
use Rattle.packet_headers.specs.declared.stacks.Tags.TheVariants as tags
use Rattle.packet_headers.specs.declared.stacks.Network.{Network}
use Rattle.packet_headers.specs.declared.stacks.Network.TheVariants as network
use Rattle.packet_headers.specs.declared.stacks.Transport.{Transport}
use Rattle.packet_headers.specs.declared.stacks.Transport.TheVariants as transport
use Rattle.packet_headers.specs.declared.stacks.Stack.{Stack}
use Rattle.packet_headers.specs.declared.stacks.Tunnel.{Tunnel}
use Rattle.packet_headers.specs.declared.keys.Key.TheInside.{Inside}
use Rattle.packet_headers.specs.Stack.{outer_layers, tunnel_layers}

-- the layers that a key holds
abbrev pub layers_of : Inside → List LayerAt
layers_of k = outer_layers k.outer ++ tunnel_layers k.tunnel

-- the other way

abbrev pub kind_number : ItemKind → ℕ
kind_number kind.Void = 0
kind_number kind.Eth = 1
kind_number kind.Vlan = 2
kind_number kind.Ipv4 = 3
kind_number kind.Ipv6 = 4
kind_number kind.Tcp = 5
kind_number kind.Udp = 6
kind_number kind.Vxlan = 7

abbrev pub is_of : ItemKind → LayerAt → Bool
is_of k l = nat_eq (kind_number l.layer.kind) (kind_number k)

-- the layers of a kind
abbrev pub of_kind : ItemKind → List LayerAt → List LayerAt
of_kind k [] = []
of_kind k (l ∷ ls) = if is_of k l then l ∷ of_kind k ls else of_kind k ls

-- the layers in front of the first VXLAN layer, and those from it on
abbrev pub in_front : List LayerAt → List LayerAt
in_front [] = []
in_front (l ∷ ls) = if is_of kind.Vxlan l then [] else l ∷ in_front ls

abbrev pub from_vxlan : List LayerAt → List LayerAt
from_vxlan [] = []
from_vxlan (l ∷ ls) = if is_of kind.Vxlan l then l ∷ ls else from_vxlan ls

abbrev pub field : LayerAt → ℕ → ℕ
field l i = slice_index l.layer.v i

abbrev pub eth_in : LayerAt → Eth
eth_in l = record { dst = field l 0; src = field l 1; ether_type = field l 2; has_vlan = nat_eq (field l 3) 1; offset = l.offset }

abbrev pub tag_in : LayerAt → Tag
tag_in l = record { vid = field l 2; inner_type = field l 3; pcp = field l 0; dei = field l 1; has_more_vlan = nat_eq (field l 4) 1; offset = l.offset }

abbrev pub ipv4_in : LayerAt → Ipv4
ipv4_in l = record { src = field l 3; dst = field l 4; tos = field l 0; ttl = field l 1; proto = field l 2; offset = l.offset }

abbrev pub ipv6_in : LayerAt → Ipv6
ipv6_in l = record { src = field l 4; dst = field l 5; flow = field l 1; tc = field l 0; proto = field l 2; hop = field l 3; offset = l.offset }

abbrev pub tcp_in : LayerAt → Tcp
tcp_in l = record { src = field l 0; dst = field l 1; flags = field l 2; offset = l.offset }

abbrev pub udp_in : LayerAt → Udp
udp_in l = record { src = field l 0; dst = field l 1; offset = l.offset }

abbrev pub vxlan_in : LayerAt → Vxlan
vxlan_in l = record { vni = field l 0; offset = l.offset }

abbrev pub tags_in : List LayerAt → Tags
tags_in [] = tags.None
tags_in (a ∷ []) = tags.One (tag_in a)
tags_in (a ∷ b ∷ ls) = tags.Two (tag_in a) (tag_in b)

abbrev pub ipv6_or_none : List LayerAt → Network
ipv6_or_none [] = network.None
ipv6_or_none (l ∷ ls) = network.V6 (ipv6_in l)

abbrev pub network_in : List LayerAt → List LayerAt → Network
network_in [] sixes = ipv6_or_none sixes
network_in (l ∷ ls) sixes = network.V4 (ipv4_in l)

abbrev pub udp_or_none : List LayerAt → Transport
udp_or_none [] = transport.None
udp_or_none (l ∷ ls) = transport.Udp (udp_in l)

abbrev pub transport_in : List LayerAt → List LayerAt → Transport
transport_in [] udps = udp_or_none udps
transport_in (l ∷ ls) udps = transport.Tcp (tcp_in l)

abbrev pub outer_in : List LayerAt → Option Stack
outer_in [] = None
outer_in (l ∷ ls) = Some (record {
  eth = eth_in l;
  network = network_in (of_kind kind.Ipv4 ls) (of_kind kind.Ipv6 ls);
  tags = tags_in (of_kind kind.Vlan ls);
  transport = transport_in (of_kind kind.Tcp ls) (of_kind kind.Udp ls);
})

abbrev pub tunnel_in : List LayerAt → Option Tunnel
tunnel_in [] = None
tunnel_in (l ∷ ls) = Some (record { inner = outer_in ls; vxlan = vxlan_in l })

-- the key that holds these layers, if a key does
abbrev pub key_of : List LayerAt → Inside
key_of ls = record { outer = outer_in (in_front ls); tunnel = tunnel_in (from_vxlan ls) }
