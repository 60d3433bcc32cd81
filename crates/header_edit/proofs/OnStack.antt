-- An edit of a stack's layers is an edit of one of its headers.
use Rattle.std.proofs.Common.{◌≡◌, Bool, true, false, if◌then◌else◌, Option, Some, None, is_some, List, [], ◌∷◌, ◌++◌, refl, sym, ap, subst}
use Rattle.std.specs.Option.{option_to_list}
use Rattle.packet_headers.specs.declared.items.ItemKind.TheVariants as kind
use Rattle.packet_headers.specs.declared.items.LayerAt.{LayerAt}
use Rattle.packet_headers.specs.declared.edits.Edit.{Edit}
use Rattle.packet_headers.specs.declared.stacks.Tags.{Tags}
use Rattle.packet_headers.specs.declared.stacks.Tags.TheVariants as tags
use Rattle.packet_headers.specs.declared.stacks.Network.{Network}
use Rattle.packet_headers.specs.declared.stacks.Network.TheVariants as network
use Rattle.packet_headers.specs.declared.stacks.Transport.{Transport}
use Rattle.packet_headers.specs.declared.stacks.Transport.TheVariants as transport
use Rattle.packet_headers.specs.declared.stacks.Stack.{Stack}
use Rattle.packet_headers.specs.declared.stacks.Tunnel.{Tunnel}
use Rattle.packet_headers.specs.Key.{is_of}
use Rattle.packet_headers.specs.Stack.{stack_layers, tag_layers, network_layers, transport_layers, tunnel_layers}
use Rattle.header_edit.specs.Field.{Field, field_in, has_field}
use Rattle.header_edit.specs.Layers.{with_field, edited, edit_layers, first, is_transport}

-- a layer in front of others that the edit leaves alone
pub edit_layers-alone : (e : Edit) (l : LayerAt) (ls : List LayerAt) → is_of kind.Vxlan l ≡ false → edit_layers e ls ≡ ls
    → edited e l ∷ ls ≡ edit_layers e (l ∷ ls)
edit_layers-alone e l ls v h =
    let P : Bool → Type 0 = λ b. edited e l ∷ ls ≡ (if b then l ∷ ls else (if has_field e l.layer.kind then edited e l ∷ ls else l ∷ edit_layers e ls)) in
    let Q : Option Field → Type 0 = λ f. with_field e l f ∷ ls ≡ (if is_some f then with_field e l f ∷ ls else l ∷ edit_layers e ls) in
    let all : (f : Option Field) → Q f = λ f. elim f as Q [ None ↦ ap (λ r. l ∷ r) (sym h) | Some x ↦ refl ] in
    subst P (sym v) (all (field_in e l.layer.kind))

-- the transport header of a stack
pub first-transport : (u : Transport) → option_to_list (first is_transport (transport_layers u)) ≡ transport_layers u
first-transport transport.None = refl
first-transport (transport.Tcp a) = refl
first-transport (transport.Udp a) = refl

-- what stands from a VXLAN header on isn't edited

abbrev pub NoVxlan : List LayerAt → Type 0
NoVxlan [] = Unit {0}
NoVxlan (l ∷ ls) = (is_of kind.Vxlan l ≡ false) × NoVxlan ls

NoVxlan-append : (ls ms : List LayerAt) → NoVxlan ls → NoVxlan ms → NoVxlan (ls ++ ms)
NoVxlan-append [] ms h k = k
NoVxlan-append (l ∷ ls) ms h k = (h.0, NoVxlan-append ls ms h.1 k)

NoVxlan-tags : (t : Tags) → NoVxlan (tag_layers t)
NoVxlan-tags tags.None = tt
NoVxlan-tags (tags.One a) = (refl, tt)
NoVxlan-tags (tags.Two a b) = (refl, (refl, tt))

NoVxlan-network : (n : Network) → NoVxlan (network_layers n)
NoVxlan-network network.None = tt
NoVxlan-network (network.V4 a) = (refl, tt)
NoVxlan-network (network.V6 a) = (refl, tt)

NoVxlan-transport : (u : Transport) → NoVxlan (transport_layers u)
NoVxlan-transport transport.None = tt
NoVxlan-transport (transport.Tcp a) = (refl, tt)
NoVxlan-transport (transport.Udp a) = (refl, tt)

pub NoVxlan-stack : (s : Stack) → NoVxlan (stack_layers s)
NoVxlan-stack s = (
  refl,
  NoVxlan-append (tag_layers s.tags) _ (NoVxlan-tags s.tags)
      (NoVxlan-append (network_layers s.network) _ (NoVxlan-network s.network) (NoVxlan-transport s.transport)),
)

pub edit_layers-tunnel : (e : Edit) (ls : List LayerAt) (t : Option Tunnel) → NoVxlan ls
    → edit_layers e (ls ++ tunnel_layers t) ≡ edit_layers e ls ++ tunnel_layers t
edit_layers-tunnel e [] None h = refl
edit_layers-tunnel e [] (Some t) h = refl
edit_layers-tunnel e (l ∷ ls) t h =
    let ms = tunnel_layers t in
    let P : Bool → Type 0 = λ b. (if b then l ∷ (ls ++ ms) else (if has_field e l.layer.kind then edited e l ∷ (ls ++ ms) else l ∷ edit_layers e (ls ++ ms)))
    ≡ (if b then l ∷ ls else (if has_field e l.layer.kind then edited e l ∷ ls else l ∷ edit_layers e ls)) ++ ms in
    let Q : Bool → Type 0 = λ b. (if b then edited e l ∷ (ls ++ ms) else l ∷ edit_layers e (ls ++ ms)) ≡ (if b then edited e l ∷ ls else l ∷ edit_layers e ls) ++ ms in
    let all : (b : Bool) → Q b = λ b. elim b as Q [ true ↦ refl | false ↦ ap (λ r. l ∷ r) (edit_layers-tunnel e ls t h.1) ] in
    subst P (sym h.0) (all (has_field e l.layer.kind))
