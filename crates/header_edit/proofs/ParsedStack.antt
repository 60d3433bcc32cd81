-- Where a transport header is found in a frame's outer stack, it is the stack's one and last, behind one
-- network header.
use Rattle.std.proofs.Common.{◌≡◌, ◌⊎◌, inl, inr, ℕ, zero, suc, ◌+◌, ◌*◌, ◌==◌, nat_le, true, false, if◌then◌else◌, Some, None, unwrap_or, List, [], ◌∷◌, length, drop, refl, sym, ap, ◌∙◌, subst}
use Rattle.std.proofs.lemmas.Bool.{cond_both}
use Rattle.std.proofs.lemmas.List.Elements.{All-nil, All-cons}
use Rattle.packet_headers.specs.declared.items.ItemKind.TheVariants as kind
use Rattle.packet_headers.specs.declared.items.LayerAt.{LayerAt}
use Rattle.packet_headers.specs.Fields.{number_at}
use Rattle.packet_headers.specs.Layers.{header, words, is_ipv4, is_ipv6, is_first_fragment, tag_follows, transport_layers, network_layers, typed_layers, frame_layers, is_vxlan, vxlan_layers, layers}
use Rattle.header_edit.specs.Layers.{first, is_transport}
use Rattle.header_edit.specs.Right.{is_network, is_link, EndsStack, HasOneStack}
use Rattle.header_edit.proofs.StackOrder.{first-transport}

abbrev None-yet : List LayerAt → Type 0
None-yet ls = first is_transport ls ≡ None

-- no transport header, or one in front of nothing else
abbrev Transport : List LayerAt → Type 0
Transport ls = None-yet ls ⊎ ((t : LayerAt) × (behind : List LayerAt) × (ls ≡ t ∷ behind) × (is_transport t.layer.kind ≡ true) × EndsStack behind)

port-ends : (port offset : ℕ) (rest : List ℕ) → EndsStack (if port == 4789 then vxlan_layers offset rest else [])
unfolding header
port-ends port offset rest =
    cond_both (port == 4789) _ _ EndsStack
    (λ _. cond_both (is_vxlan rest) _ _ EndsStack (λ _. refl) (λ _. tt)) (λ _. tt)

transport-found : (protocol offset : ℕ) (rest : List ℕ) → Transport (transport_layers vxlan_layers protocol offset rest)
unfolding header
transport-found protocol offset rest =
    cond_both (protocol == 6) _ _ Transport
    (λ _. cond_both (nat_le 20 (length rest)) _ _ Transport (λ _. inr (header kind.Tcp offset false rest, [], refl, refl, tt)) (λ _. inl refl))
    (λ _. cond_both (protocol == 17) _ _ Transport
    (λ _. cond_both (nat_le 8 (length rest)) _ _ Transport
    (λ _. inr (
      header kind.Udp offset false rest,
      (if number_at 2 2 rest == 4789 then vxlan_layers (offset + 8) (drop 8 rest) else []),
      refl,
      refl,
      port-ends (number_at 2 2 rest) (offset + 8) (drop 8 rest),
    ))
    (λ _. inl refl))
    (λ _. inl refl))

abbrev Found : List LayerAt → Type 0
Found ls = None-yet ls ⊎ ((t : LayerAt) × HasOneStack ls t)

abbrev IsLink : LayerAt → Type 0
IsLink l = is_link l.layer.kind ≡ true

-- a network header in front of a transport header
network-front : (n : LayerAt) (ls : List LayerAt) → is_network n.layer.kind ≡ true → (None-yet ls → None-yet (n ∷ ls)) → Transport ls → Found (n ∷ ls)
network-front n ls is past (inl none) = inl (past none)
network-front n ls is past (inr w) = inr (
  w.0,
  record {
    below = [];
    network = n;
    between = [];
    behind = w.1;
    layers_are = ap (λ xs. n ∷ xs) w.2;
    stack = record {
      links_below = All-nil IsLink;
      network_is = is;
      links_between = All-nil IsLink;
      transport_is = w.3;
      ends = w.4;
    };
  },
)

-- a link header in front of a stack
link-front : (l : LayerAt) (ls : List LayerAt) → is_link l.layer.kind ≡ true → (None-yet ls → None-yet (l ∷ ls)) → Found ls → Found (l ∷ ls)
link-front l ls is past (inl none) = inl (past none)
link-front l ls is past (inr (t, h)) = inr (
  t,
  record {
    below = l ∷ h.below;
    network = h.network;
    between = h.between;
    behind = h.behind;
    layers_are = ap (λ xs. l ∷ xs) h.layers_are;
    stack = record {
      links_below = All-cons IsLink l h.below is h.stack.links_below;
      network_is = h.stack.network_is;
      links_between = h.stack.links_between;
      transport_is = h.stack.transport_is;
      ends = h.stack.ends;
    };
  },
)

network-found : (ether_type offset : ℕ) (rest : List ℕ) → Found (network_layers vxlan_layers ether_type offset rest)
unfolding header
network-found ether_type offset rest =
    let len = words rest * 4 in
    cond_both (ether_type == 0x0800) _ _ Found
    (λ _. cond_both (is_ipv4 rest) _ _ Found
    (λ _. network-front (header kind.Ipv4 offset false rest) _ refl (λ p. p)
    (cond_both (is_first_fragment rest) _ _ Transport
    (λ _. transport-found (number_at 9 1 rest) (offset + len) (drop len rest)) (λ _. inl refl)))
    (λ _. inl refl))
    (λ _. cond_both (ether_type == 0x86DD) _ _ Found
    (λ _. cond_both (is_ipv6 rest) _ _ Found
    (λ _. network-front (header kind.Ipv6 offset false rest) _ refl (λ p. p) (transport-found (number_at 6 1 rest) (offset + 40) (drop 40 rest)))
    (λ _. inl refl))
    (λ _. inl refl))

typed-found : (more ether_type offset : ℕ) (rest : List ℕ) → Found (typed_layers more vxlan_layers ether_type offset rest)
unfolding header
typed-found zero ether_type offset rest = network-found ether_type offset rest
typed-found (suc more) ether_type offset rest =
    cond_both (tag_follows (suc more) ether_type rest) _ _ Found
    (λ _. link-front (header kind.Vlan offset (tag_follows more (number_at 2 2 rest) (drop 4 rest)) rest) _ refl (λ p. p)
    (typed-found more (number_at 2 2 rest) (offset + 4) (drop 4 rest)))
    (λ _. network-found ether_type offset rest)

frame-found : (offset : ℕ) (rest : List ℕ) → Found (frame_layers vxlan_layers offset rest)
unfolding header
frame-found offset rest =
    cond_both (nat_le 14 (length rest)) _ _ Found
    (λ _. link-front (header kind.Eth offset (tag_follows 2 (number_at 12 2 rest) (drop 14 rest)) rest) _ refl (λ p. p)
    (typed-found 2 (number_at 12 2 rest) (offset + 14) (drop 14 rest)))
    (λ _. inl refl)

-- the transport header that is found is that of the stack
found-at : (ls : List LayerAt) (t : LayerAt) → first is_transport ls ≡ Some t → Found ls → HasOneStack ls t
found-at ls t is (inl none) = absurd (cc)
found-at ls t is (inr (s, h)) =
    let here : first is_transport ls ≡ Some s =
    ap (first is_transport) h.layers_are ∙ first-transport h.below h.between h.behind h.network s h.stack in
    let same : s ≡ t = ap (λ o. unwrap_or o t) (sym here ∙ is) in
    subst (λ x. HasOneStack ls x) same h

pub stack-found : (frame : List ℕ) (t : LayerAt) → first is_transport (layers frame) ≡ Some t → HasOneStack (layers frame) t
unfolding layers
stack-found frame t is = found-at (frame_layers vxlan_layers 0 frame) t is (frame-found 0 frame)
