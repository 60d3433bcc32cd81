-- The layers of an Ethernet frame's headers, and those of a tunnel.
use Rattle.std.specs.Prelude.{Option, Some, None, List, [], ◌∷◌, ◌++◌}
use Rattle.packet_headers.specs.declared.items.LayerAt.{LayerAt}
use Rattle.packet_headers.specs.declared.stacks.Tags.{Tags}
use Rattle.packet_headers.specs.declared.stacks.Tags.TheVariants as tags
use Rattle.packet_headers.specs.declared.stacks.Network.{Network}
use Rattle.packet_headers.specs.declared.stacks.Network.TheVariants as network
use Rattle.packet_headers.specs.declared.stacks.Transport.{Transport}
use Rattle.packet_headers.specs.declared.stacks.Transport.TheVariants as transport
use Rattle.packet_headers.specs.declared.stacks.Stack.{Stack}
use Rattle.packet_headers.specs.declared.stacks.Tunnel.{Tunnel}
use Rattle.packet_headers.specs.Headers.{eth_layer, tag_layer, ipv4_layer, ipv6_layer, tcp_layer, udp_layer, vxlan_layer}

abbrev pub tag_layers : Tags → List LayerAt
tag_layers tags.None = []
tag_layers (tags.One a) = tag_layer a ∷ []
tag_layers (tags.Two a b) = tag_layer a ∷ tag_layer b ∷ []

abbrev pub network_layers : Network → List LayerAt
network_layers network.None = []
network_layers (network.V4 h) = ipv4_layer h ∷ []
network_layers (network.V6 h) = ipv6_layer h ∷ []

abbrev pub transport_layers : Transport → List LayerAt
transport_layers transport.None = []
transport_layers (transport.Tcp h) = tcp_layer h ∷ []
transport_layers (transport.Udp h) = udp_layer h ∷ []

-- the layers of one Ethernet frame
abbrev pub stack_layers : Stack → List LayerAt
stack_layers s = eth_layer s.eth ∷ (tag_layers s.tags ++ (network_layers s.network ++ transport_layers s.transport))

abbrev pub outer_layers : Option Stack → List LayerAt
outer_layers None = []
outer_layers (Some s) = stack_layers s

abbrev pub tunnel_layers : Option Tunnel → List LayerAt
tunnel_layers None = []
tunnel_layers (Some t) = vxlan_layer t.vxlan ∷ outer_layers t.inner
