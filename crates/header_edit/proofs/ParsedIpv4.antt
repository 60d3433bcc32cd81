-- The IPv4 headers that are found in a frame lie in it with their options.
use Rattle.std.proofs.Common.{◌≡◌, ℕ, zero, suc, ◌+◌, ◌-◌, ◌*◌, ◌==◌, nat_le, true, false, List, [], ◌∷◌, ◌++◌, length, drop, refl, sym, ap, ◌∙◌, subst, arith, length-drop}
use Rattle.std.proofs.lemmas.Bool.{cond_both, and_parts, eqb-true, leb-true}
use Rattle.std.proofs.lemmas.List.{drop-drop}
use Rattle.packet_headers.specs.declared.items.ItemKind.TheVariants as kind
use Rattle.packet_headers.specs.declared.items.LayerAt.{LayerAt}
use Rattle.packet_headers.specs.Fields.{number_at}
use Rattle.packet_headers.specs.Layers.{Payloads, header, version, words, is_ipv4, is_ipv6, is_first_fragment, tag_follows, transport_layers, carried_layers, network_layers, typed_layers, frame_layers, no_layers, is_vxlan, vxlan_layers, layers}
use Rattle.header_edit.specs.Right.{ipv4_len, BeginsFrom, IsWholeIpv4}

module _ (frame : List ℕ) where
  -- each IPv4 header among these is whole
  abbrev AllWhole : List LayerAt → Type 0
  AllWhole [] = Unit {0}
  AllWhole (l ∷ ls) = (l.layer.kind ≡ kind.Ipv4 → IsWholeIpv4 frame l ls) × AllWhole ls

  abbrev IsRest : ℕ → List ℕ → Type 0
  IsRest offset rest = rest ≡ drop offset frame

  next : (n offset : ℕ) (rest : List ℕ) → IsRest offset rest → IsRest (offset + n) (drop n rest)
  next n offset rest e = ap (drop n) e ∙ drop-drop n offset frame

  abbrev EachWhole : Payloads → Type 0
  EachWhole inside = (offset : ℕ) (rest : List ℕ) → IsRest offset rest → AllWhole (inside offset rest)

  transport-begins : (inside : Payloads) (protocol offset : ℕ) (rest : List ℕ) → BeginsFrom offset (transport_layers inside protocol offset rest)
  unfolding header
  transport-begins inside protocol offset rest =
      let P : List LayerAt → Type 0 = BeginsFrom offset in
      cond_both (protocol == 6) _ _ P
      (λ _. cond_both (nat_le 20 (length rest)) _ _ P (λ _. omega arith) (λ _. tt))
      (λ _. cond_both (protocol == 17) _ _ P
      (λ _. cond_both (nat_le 8 (length rest)) _ _ P (λ _. omega arith) (λ _. tt))
      (λ _. tt))

  transport-whole : (inside : Payloads) (protocol offset : ℕ) (rest : List ℕ) → EachWhole inside → IsRest offset rest
      → AllWhole (transport_layers inside protocol offset rest)
  unfolding header
  transport-whole inside protocol offset rest all e =
      cond_both (protocol == 6) _ _ AllWhole
      (λ _. cond_both (nat_le 20 (length rest)) _ _ AllWhole (λ _. ((λ h. absurd (cc)), tt)) (λ _. tt))
      (λ _. cond_both (protocol == 17) _ _ AllWhole
      (λ _. cond_both (nat_le 8 (length rest)) _ _ AllWhole
      (λ _. (
        (λ h. absurd (cc)),
        cond_both (number_at 2 2 rest == 4789) _ _ AllWhole (λ _. all (offset + 8) (drop 8 rest) (next 8 offset rest e)) (λ _. tt),
      ))
      (λ _. tt))
      (λ _. tt))

  ipv4-whole : (inside : Payloads) (offset : ℕ) (rest : List ℕ) → is_ipv4 rest ≡ true → IsRest offset rest
      → IsWholeIpv4 frame (header kind.Ipv4 offset false rest) (carried_layers inside offset rest)
  unfolding header
  ipv4-whole inside offset rest is e =
      let h = and_parts (nat_le 20 (length rest)) _ is in
      let v = and_parts (version rest == 4) _ h.1 in
      let w = and_parts (nat_le 5 (words rest)) (nat_le (words rest * 4) (length rest)) v.1 in
      let five = leb-true 5 (words rest) w.0 in
      let fits = leb-true (words rest * 4) (length rest) w.1 in
      let len : length rest ≡ length frame - offset = ap length e ∙ length-drop offset frame in
      let same : words (drop offset frame) ≡ words rest = ap words (sym e) in
      let len-same : ipv4_len offset frame ≡ words rest * 4 = ap (λ n. n * 4) same in
      let begins : BeginsFrom (offset + words rest * 4) (carried_layers inside offset rest) =
      cond_both (is_first_fragment rest) _ _ (BeginsFrom (offset + words rest * 4))
      (λ _. transport-begins inside (number_at 9 1 rest) (offset + words rest * 4) (drop (words rest * 4) rest)) (λ _. tt) in
      record {
        ipv4 = refl;
        four = ap version (sym e) ∙ eqb-true (version rest) 4 v.0;
        long = omega (arith, five, same);
        room = omega (arith, len-same, five, fits, len);
        next = subst (λ n. BeginsFrom (offset + n) (carried_layers inside offset rest)) (sym len-same) begins;
      }

  network-whole : (inside : Payloads) (ether_type offset : ℕ) (rest : List ℕ) → EachWhole inside → IsRest offset rest
      → AllWhole (network_layers inside ether_type offset rest)
  unfolding header
  network-whole inside ether_type offset rest all e =
      let len = words rest * 4 in
      cond_both (ether_type == 0x0800) _ _ AllWhole
      (λ _. cond_both (is_ipv4 rest) _ _ AllWhole
      (λ is. (
        (λ _. ipv4-whole inside offset rest is e),
        cond_both (is_first_fragment rest) _ _ AllWhole
            (λ _. transport-whole inside (number_at 9 1 rest) (offset + len) (drop len rest) all (next len offset rest e)) (λ _. tt),
      ))
      (λ _. tt))
      (λ _. cond_both (ether_type == 0x86DD) _ _ AllWhole
      (λ _. cond_both (is_ipv6 rest) _ _ AllWhole
      (λ _. (
        (λ h. absurd (cc)),
        transport-whole inside (number_at 6 1 rest) (offset + 40) (drop 40 rest) all (next 40 offset rest e),
      ))
      (λ _. tt))
      (λ _. tt))

  typed-whole : (more : ℕ) (inside : Payloads) (ether_type offset : ℕ) (rest : List ℕ) → EachWhole inside → IsRest offset rest
      → AllWhole (typed_layers more inside ether_type offset rest)
  unfolding header
  typed-whole zero inside ether_type offset rest all e = network-whole inside ether_type offset rest all e
  typed-whole (suc more) inside ether_type offset rest all e =
      cond_both (tag_follows (suc more) ether_type rest) _ _ AllWhole
      (λ _. (
        (λ h. absurd (cc)),
        typed-whole more inside (number_at 2 2 rest) (offset + 4) (drop 4 rest) all (next 4 offset rest e),
      ))
      (λ _. network-whole inside ether_type offset rest all e)

  frame-whole : (inside : Payloads) (offset : ℕ) (rest : List ℕ) → EachWhole inside → IsRest offset rest → AllWhole (frame_layers inside offset rest)
  unfolding header
  frame-whole inside offset rest all e =
      cond_both (nat_le 14 (length rest)) _ _ AllWhole
      (λ _. (
        (λ h. absurd (cc)),
        typed-whole 2 inside (number_at 12 2 rest) (offset + 14) (drop 14 rest) all (next 14 offset rest e),
      ))
      (λ _. tt)

  vxlan-whole : EachWhole vxlan_layers
  unfolding header
  vxlan-whole offset rest e =
      cond_both (is_vxlan rest) _ _ AllWhole
      (λ _. (
        (λ h. absurd (cc)),
        frame-whole no_layers (offset + 8) (drop 8 rest) (λ _ _ _. tt) (next 8 offset rest e),
      ))
      (λ _. tt)

  whole-at : (before behind : List LayerAt) (l : LayerAt) → AllWhole (before ++ l ∷ behind) → l.layer.kind ≡ kind.Ipv4 → IsWholeIpv4 frame l behind
  whole-at [] behind l h e = h.0 e
  whole-at (x ∷ xs) behind l h e = whole-at xs behind l h.1 e

  pub ipv4-found : (before behind : List LayerAt) (l : LayerAt) → layers frame ≡ before ++ l ∷ behind → l.layer.kind ≡ kind.Ipv4 → IsWholeIpv4 frame l behind
  unfolding layers
  ipv4-found before behind l is e = whole-at before behind l (subst AllWhole is (frame-whole vxlan_layers 0 frame vxlan-whole refl)) e
