-- A key is what its layers say: the layers of a key give back the key.
use Rattle.std.proofs.Common.{◌≡◌, Bool, true, false, refl, ap, sym, ◌∙◌, subst, if◌then◌else◌, Option, Some, None, List, [], ◌∷◌, ◌++◌, nat_eq}
use Rattle.packet_headers.specs.declared.items.ItemKind.TheVariants as kind
use Rattle.packet_headers.specs.declared.items.LayerAt.{LayerAt}
use Rattle.packet_headers.specs.declared.headers.Eth.{Eth}
use Rattle.packet_headers.specs.declared.headers.Tag.{Tag}
use Rattle.packet_headers.specs.declared.stacks.Tags.{Tags}
use Rattle.packet_headers.specs.declared.stacks.Tags.TheVariants as tags
use Rattle.packet_headers.specs.declared.stacks.Network.{Network}
use Rattle.packet_headers.specs.declared.stacks.Network.TheVariants as network
use Rattle.packet_headers.specs.declared.stacks.Transport.{Transport}
use Rattle.packet_headers.specs.declared.stacks.Transport.TheVariants as transport
use Rattle.packet_headers.specs.declared.stacks.Stack.{Stack}
use Rattle.packet_headers.specs.declared.stacks.Tunnel.{Tunnel}
use Rattle.packet_headers.specs.declared.keys.Key.TheInside.{Inside}
use Rattle.packet_headers.specs.Fields.{number_of}
use Rattle.packet_headers.specs.Headers.{eth_layer, tag_layer}
use Rattle.packet_headers.specs.Stack.{tag_layers, network_layers, transport_layers, outer_layers, tunnel_layers}
use Rattle.packet_headers.specs.Key.{layers_of, is_of, of_kind, in_front, from_vxlan, eth_in, tag_in, tags_in, network_in, transport_in, outer_in, tunnel_in, key_of}

flag-number : (b : Bool) → nat_eq (number_of b) 1 ≡ b
flag-number true = refl
flag-number false = refl

eth_in-layer : (h : Eth) → eth_in (eth_layer h) ≡ h
eth_in-layer h = ap (λ b. record h { has_vlan = b }) (flag-number h.has_vlan)

tag_in-layer : (h : Tag) → tag_in (tag_layer h) ≡ h
tag_in-layer h = ap (λ b. record h { has_more_vlan = b }) (flag-number h.has_more_vlan)

tags_in-layers : (t : Tags) → tags_in (tag_layers t) ≡ t
tags_in-layers tags.None = refl
tags_in-layers (tags.One a) = ap tags.One (tag_in-layer a)
tags_in-layers (tags.Two a b) = ap (λ x. tags.Two x (tag_in (tag_layer b))) (tag_in-layer a) ∙ ap (tags.Two a) (tag_in-layer b)

abbrev NoVxlan : List LayerAt → Type 0
NoVxlan [] = Unit {0}
NoVxlan (l ∷ ls) = (is_of kind.Vxlan l ≡ false) × NoVxlan ls

-- these layers are a network and a transport header
record AreUpper (n : Network) (u : Transport) (ls : List LayerAt) : Type 0 where
  no_tags : of_kind kind.Vlan ls ≡ []
  networks : network_in (of_kind kind.Ipv4 ls) (of_kind kind.Ipv6 ls) ≡ n
  transports : transport_in (of_kind kind.Tcp ls) (of_kind kind.Udp ls) ≡ u
  no_vxlan : NoVxlan ls

AreUpper-layers : (n : Network) (u : Transport) → AreUpper n u (network_layers n ++ transport_layers u)
AreUpper-layers network.None transport.None = record { no_tags = refl; networks = refl; transports = refl; no_vxlan = tt }
AreUpper-layers network.None (transport.Tcp t) = record { no_tags = refl; networks = refl; transports = refl; no_vxlan = (refl, tt) }
AreUpper-layers network.None (transport.Udp t) = record { no_tags = refl; networks = refl; transports = refl; no_vxlan = (refl, tt) }
AreUpper-layers (network.V4 h) transport.None = record { no_tags = refl; networks = refl; transports = refl; no_vxlan = (refl, tt) }
AreUpper-layers (network.V4 h) (transport.Tcp t) = record { no_tags = refl; networks = refl; transports = refl; no_vxlan = (refl, (refl, tt)) }
AreUpper-layers (network.V4 h) (transport.Udp t) = record { no_tags = refl; networks = refl; transports = refl; no_vxlan = (refl, (refl, tt)) }
AreUpper-layers (network.V6 h) transport.None = record { no_tags = refl; networks = refl; transports = refl; no_vxlan = (refl, tt) }
AreUpper-layers (network.V6 h) (transport.Tcp t) = record { no_tags = refl; networks = refl; transports = refl; no_vxlan = (refl, (refl, tt)) }
AreUpper-layers (network.V6 h) (transport.Udp t) = record { no_tags = refl; networks = refl; transports = refl; no_vxlan = (refl, (refl, tt)) }

abbrev made : Eth → Tags → Network → Transport → Option Stack
made e t n u = Some (record { eth = e; network = n; tags = t; transport = u })

made-parts : (e f : Eth) (t s : Tags) (n m : Network) (u v : Transport) → e ≡ f → t ≡ s → n ≡ m → u ≡ v → made e t n u ≡ made f s m v
made-parts e f t s n m u v p q r w =
    ap (λ x. made x t n u) p ∙ (ap (λ x. made f x n u) q ∙ (ap (λ x. made f s x u) r ∙ ap (λ x. made f s m x) w))

outer_in-stack : (e : Eth) (t : Tags) (n : Network) (u : Transport) (ls : List LayerAt)
    → AreUpper n u ls → outer_in (eth_layer e ∷ (tag_layers t ++ ls)) ≡ made e t n u
outer_in-stack e tags.None n u ls h =
    made-parts _ _ _ _ _ _ _ _ (eth_in-layer e) (ap tags_in h.no_tags) h.networks h.transports
outer_in-stack e (tags.One a) n u ls h =
    made-parts _ _ _ _ _ _ _ _ (eth_in-layer e) (ap (λ x. tags_in (tag_layer a ∷ x)) h.no_tags ∙ tags_in-layers (tags.One a)) h.networks h.transports
outer_in-stack e (tags.Two a b) n u ls h =
    made-parts _ _ _ _ _ _ _ _ (eth_in-layer e) (tags_in-layers (tags.Two a b)) h.networks h.transports

outer_in-layers : (o : Option Stack) → outer_in (outer_layers o) ≡ o
outer_in-layers None = refl
outer_in-layers (Some s) =
    outer_in-stack s.eth s.tags s.network s.transport (network_layers s.network ++ transport_layers s.transport) (AreUpper-layers s.network s.transport)

tunnel_in-layers : (t : Option Tunnel) → tunnel_in (tunnel_layers t) ≡ t
tunnel_in-layers None = refl
tunnel_in-layers (Some t) = ap (λ x. Some (record t { inner = x })) (outer_in-layers t.inner)

NoVxlan-tags : (t : Tags) (ls : List LayerAt) → NoVxlan ls → NoVxlan (tag_layers t ++ ls)
NoVxlan-tags tags.None ls h = h
NoVxlan-tags (tags.One a) ls h = (refl, h)
NoVxlan-tags (tags.Two a b) ls h = (refl, (refl, h))

NoVxlan-outer : (o : Option Stack) → NoVxlan (outer_layers o)
NoVxlan-outer None = tt
NoVxlan-outer (Some s) =
    (refl, NoVxlan-tags s.tags (network_layers s.network ++ transport_layers s.transport) (AreUpper-layers s.network s.transport).no_vxlan)

in_front-layers : (ls : List LayerAt) (t : Option Tunnel) → NoVxlan ls → in_front (ls ++ tunnel_layers t) ≡ ls
in_front-layers [] None h = refl
in_front-layers [] (Some t) h = refl
in_front-layers (l ∷ ls) t h =
    let P : Bool → Type 0 = λ b. (if b then [] else l ∷ in_front (ls ++ tunnel_layers t)) ≡ l ∷ ls in
    subst P (sym h.0) (ap (λ x. l ∷ x) (in_front-layers ls t h.1))

from_vxlan-layers : (ls : List LayerAt) (t : Option Tunnel) → NoVxlan ls → from_vxlan (ls ++ tunnel_layers t) ≡ tunnel_layers t
from_vxlan-layers [] None h = refl
from_vxlan-layers [] (Some t) h = refl
from_vxlan-layers (l ∷ ls) t h =
    let P : Bool → Type 0 = λ b. (if b then l ∷ (ls ++ tunnel_layers t) else from_vxlan (ls ++ tunnel_layers t)) ≡ tunnel_layers t in
    subst P (sym h.0) (from_vxlan-layers ls t h.1)

abbrev key : Option Stack → Option Tunnel → Inside
key o t = record { outer = o; tunnel = t }

pub key_of-layers_of : (k : Inside) → key_of (layers_of k) ≡ k
key_of-layers_of k =
    let clear = NoVxlan-outer k.outer in
    ap (λ ls. key (outer_in ls) (tunnel_in (from_vxlan (layers_of k)))) (in_front-layers (outer_layers k.outer) k.tunnel clear)
    ∙ (ap (λ ls. key (outer_in (outer_layers k.outer)) (tunnel_in ls)) (from_vxlan-layers (outer_layers k.outer) k.tunnel clear)
    ∙ (ap (λ o. key o (tunnel_in (tunnel_layers k.tunnel))) (outer_in-layers k.outer)
    ∙ ap (λ t. key k.outer t) (tunnel_in-layers k.tunnel)))
