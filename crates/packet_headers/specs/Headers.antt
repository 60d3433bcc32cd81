-- The layer that each header of a key is.
use Rattle.std.specs.Prelude.{ℕ, List, [], ◌∷◌}
use Rattle.packet_headers.specs.declared.items.ItemKind.{ItemKind}
use Rattle.packet_headers.specs.declared.items.ItemKind.TheVariants as kind
use Rattle.packet_headers.specs.declared.items.LayerAt.{LayerAt}
use Rattle.packet_headers.specs.declared.headers.Eth.{Eth}
use Rattle.packet_headers.specs.declared.headers.Tag.{Tag}
use Rattle.packet_headers.specs.declared.headers.Ipv4.{Ipv4}
use Rattle.packet_headers.specs.declared.headers.Ipv6.{Ipv6}
use Rattle.packet_headers.specs.declared.headers.Tcp.{Tcp}
use Rattle.packet_headers.specs.declared.headers.Udp.{Udp}
use Rattle.packet_headers.specs.declared.headers.Vxlan.{Vxlan}
use Rattle.packet_headers.specs.Fields.{number_of}
use Rattle.packet_headers.specs.Fields.{number_of}

-- a layer of this kind, with these numbers
abbrev pub layer_at : ItemKind → ℕ → List ℕ → LayerAt
layer_at k offset v = record { layer = record { kind = k; v = v }; offset = offset }

abbrev pub eth_layer : Eth → LayerAt
eth_layer h = layer_at kind.Eth h.offset (h.dst ∷ h.src ∷ h.ether_type ∷ number_of h.has_vlan ∷ 0 ∷ 0 ∷ [])

abbrev pub tag_layer : Tag → LayerAt
tag_layer h = layer_at kind.Vlan h.offset (h.pcp ∷ h.dei ∷ h.vid ∷ h.inner_type ∷ number_of h.has_more_vlan ∷ 0 ∷ [])

abbrev pub ipv4_layer : Ipv4 → LayerAt
ipv4_layer h = layer_at kind.Ipv4 h.offset (h.tos ∷ h.ttl ∷ h.proto ∷ h.src ∷ h.dst ∷ 0 ∷ [])

abbrev pub ipv6_layer : Ipv6 → LayerAt
ipv6_layer h = layer_at kind.Ipv6 h.offset (h.tc ∷ h.flow ∷ h.proto ∷ h.hop ∷ h.src ∷ h.dst ∷ [])

abbrev pub tcp_layer : Tcp → LayerAt
tcp_layer h = layer_at kind.Tcp h.offset (h.src ∷ h.dst ∷ h.flags ∷ 0 ∷ 0 ∷ 0 ∷ [])

abbrev pub udp_layer : Udp → LayerAt
udp_layer h = layer_at kind.Udp h.offset (h.src ∷ h.dst ∷ 0 ∷ 0 ∷ 0 ∷ 0 ∷ [])

abbrev pub vxlan_layer : Vxlan → LayerAt
vxlan_layer h = layer_at kind.Vxlan h.offset (h.vni ∷ 0 ∷ 0 ∷ 0 ∷ 0 ∷ 0 ∷ [])
