-- The layers of a frame show its bytes.
use Rattle.std.proofs.Common.{◌≡◌, ℕ, zero, suc, ◌+◌, ◌*◌, ◌==◌, nat_le, Bool, false, List, length, drop, refl, sym, ap, ◌∙◌, subst}
use Rattle.std.proofs.lemmas.Bool.{cond_both}
use Rattle.std.proofs.lemmas.List.{drop-drop}
use Rattle.std.proofs.lemmas.List.Elements.{All-from_recursion}
use Rattle.std.specs.List.{AllByRecursion}
use Rattle.packet_headers.specs.declared.items.ItemKind.{ItemKind}
use Rattle.packet_headers.specs.declared.items.ItemKind.TheVariants as kind
use Rattle.packet_headers.specs.declared.items.LayerAt.{LayerAt}
use Rattle.packet_headers.specs.Fields.{number_at}
use Rattle.packet_headers.specs.Layers.{Payloads, header, words, is_ipv4, is_ipv6, is_first_fragment, tag_follows, transport_layers, network_layers, typed_layers, frame_layers, no_layers, is_vxlan, vxlan_layers, layers}
use Rattle.header_edit.specs.Shown.{Shows, AllShow}
use Rattle.header_edit.proofs.Agreement.{shows-header}

module _ (frame : List ℕ) where
  abbrev Shown : List LayerAt → Type 0
  Shown ls = AllByRecursion (Shows frame) ls

  -- these are the bytes of the frame from `offset` on
  abbrev IsRest : ℕ → List ℕ → Type 0
  IsRest offset rest = rest ≡ drop offset frame

  shown-header : (k : ItemKind) (offset : ℕ) (b : Bool) (rest : List ℕ) → IsRest offset rest → Shows frame (header k offset b rest)
  shown-header k offset b rest e = subst (λ r. Shows frame (header k offset b r)) (sym e) (shows-header k offset b frame)

  next : (n offset : ℕ) (rest : List ℕ) → IsRest offset rest → IsRest (offset + n) (drop n rest)
  next n offset rest e = ap (drop n) e ∙ drop-drop n offset frame

  -- what may follow UDP shows the frame
  abbrev AllShown : Payloads → Type 0
  AllShown inside = (offset : ℕ) (rest : List ℕ) → IsRest offset rest → Shown (inside offset rest)

  transport-shown : (inside : Payloads) (protocol offset : ℕ) (rest : List ℕ) → AllShown inside → IsRest offset rest
      → Shown (transport_layers inside protocol offset rest)
  transport-shown inside protocol offset rest all e =
      cond_both (protocol == 6) _ _ Shown
      (λ _. cond_both (nat_le 20 (length rest)) _ _ Shown (λ _. (shown-header kind.Tcp offset false rest e, tt)) (λ _. tt))
      (λ _. cond_both (protocol == 17) _ _ Shown
      (λ _. cond_both (nat_le 8 (length rest)) _ _ Shown
      (λ _. (
        shown-header kind.Udp offset false rest e,
        cond_both (number_at 2 2 rest == 4789) _ _ Shown (λ _. all (offset + 8) (drop 8 rest) (next 8 offset rest e)) (λ _. tt),
      ))
      (λ _. tt))
      (λ _. tt))

  network-shown : (inside : Payloads) (ether_type offset : ℕ) (rest : List ℕ) → AllShown inside → IsRest offset rest
      → Shown (network_layers inside ether_type offset rest)
  network-shown inside ether_type offset rest all e =
      let len = words rest * 4 in
      cond_both (ether_type == 0x0800) _ _ Shown
      (λ _. cond_both (is_ipv4 rest) _ _ Shown
      (λ _. (
        shown-header kind.Ipv4 offset false rest e,
        cond_both (is_first_fragment rest) _ _ Shown
            (λ _. transport-shown inside (number_at 9 1 rest) (offset + len) (drop len rest) all (next len offset rest e)) (λ _. tt),
      ))
      (λ _. tt))
      (λ _. cond_both (ether_type == 0x86DD) _ _ Shown
      (λ _. cond_both (is_ipv6 rest) _ _ Shown
      (λ _. (
        shown-header kind.Ipv6 offset false rest e,
        transport-shown inside (number_at 6 1 rest) (offset + 40) (drop 40 rest) all (next 40 offset rest e),
      ))
      (λ _. tt))
      (λ _. tt))

  typed-shown : (more : ℕ) (inside : Payloads) (ether_type offset : ℕ) (rest : List ℕ) → AllShown inside → IsRest offset rest
      → Shown (typed_layers more inside ether_type offset rest)
  typed-shown zero inside ether_type offset rest all e = network-shown inside ether_type offset rest all e
  typed-shown (suc more) inside ether_type offset rest all e =
      cond_both (tag_follows (suc more) ether_type rest) _ _ Shown
      (λ _. (
        shown-header kind.Vlan offset (tag_follows more (number_at 2 2 rest) (drop 4 rest)) rest e,
        typed-shown more inside (number_at 2 2 rest) (offset + 4) (drop 4 rest) all (next 4 offset rest e),
      ))
      (λ _. network-shown inside ether_type offset rest all e)

  frame-shown : (inside : Payloads) (offset : ℕ) (rest : List ℕ) → AllShown inside → IsRest offset rest → Shown (frame_layers inside offset rest)
  frame-shown inside offset rest all e =
      cond_both (nat_le 14 (length rest)) _ _ Shown
      (λ _. (
        shown-header kind.Eth offset (tag_follows 2 (number_at 12 2 rest) (drop 14 rest)) rest e,
        typed-shown 2 inside (number_at 12 2 rest) (offset + 14) (drop 14 rest) all (next 14 offset rest e),
      ))
      (λ _. tt)

  vxlan-shown : AllShown vxlan_layers
  vxlan-shown offset rest e =
      cond_both (is_vxlan rest) _ _ Shown
      (λ _. (
        shown-header kind.Vxlan offset false rest e,
        frame-shown no_layers (offset + 8) (drop 8 rest) (λ _ _ _. tt) (next 8 offset rest e),
      ))
      (λ _. tt)

  pub layers-show : AllShow frame (layers frame)
  unfolding layers
  layers-show = All-from_recursion (Shows frame) (layers frame) (frame-shown vxlan_layers 0 frame vxlan-shown refl)
