-- The headers of a frame lie in it, in rising order and without overlap.
use Rattle.std.proofs.Common.{◌≡◌, ℕ, ◌+◌, ◌*◌, ◌≤◌, zero, suc, Bool, false, ◌==◌, nat_le, nat_lt, ◌||◌, length, drop, List, [], ◌∷◌, subst, arith, length-drop}
use Rattle.std.proofs.lemmas.Bool.{leb-true, and_parts, cond_both}
use Rattle.packet_headers.specs.declared.items.ItemKind.{ItemKind}
use Rattle.packet_headers.specs.declared.items.ItemKind.TheVariants as kind
use Rattle.packet_headers.specs.declared.items.LayerAt.{LayerAt}
use Rattle.packet_headers.specs.Fields.{number_at}
use Rattle.packet_headers.specs.Layers.{Payloads, header, header_len, LieWithin, words, version, is_ipv4, is_ipv6, is_first_fragment, tag_follows, transport_layers, network_layers, typed_layers, frame_layers, no_layers, is_vxlan, vxlan_layers, layers}

-- layers that begin later begin late enough
LieWithin-from : (a b end : ℕ) (ls : List LayerAt) → a ≤ b → LieWithin b end ls → LieWithin a end ls
LieWithin-from a b end [] le h = tt
LieWithin-from a b end (l ∷ ls) le h = (omega (arith, h.0), h.1, h.2)

-- a list of layers lies in the bytes that remain
abbrev Fit : ℕ → List ℕ → List LayerAt → Type 0
Fit offset rest ls = LieWithin offset (offset + length rest) ls

-- a header of which the next one stands `n` bytes behind
Fit-header : (k : ItemKind) (offset n : ℕ) (b : Bool) (rest : List ℕ) (ls : List LayerAt)
    → header_len k ≤ n → n ≤ length rest → Fit (offset + n) (drop n rest) ls → Fit offset rest (header k offset b rest ∷ ls)
unfolding header
Fit-header k offset n b rest ls long room h =
    let end : offset + n + length (drop n rest) ≡ offset + length rest = omega (arith, length-drop n rest) in
    let P : ℕ → Type 0 = λ e. LieWithin (offset + n) e ls in
    let short : offset + header_len k ≤ offset + n = omega arith in
    (omega arith, omega arith, LieWithin-from (offset + header_len k) (offset + n) (offset + length rest) ls short (subst P end h))

-- the last header
Fit-last : (k : ItemKind) (offset : ℕ) (b : Bool) (rest : List ℕ) → header_len k ≤ length rest → Fit offset rest (header k offset b rest ∷ [])
unfolding header
Fit-last k offset b rest room = (omega arith, omega arith, tt)

-- what may follow UDP lies in the bytes that remain there
abbrev AllFit : Payloads → Type 0
AllFit inside = (offset : ℕ) (rest : List ℕ) → Fit offset rest (inside offset rest)

transport-Fit : (inside : Payloads) (protocol offset : ℕ) (rest : List ℕ) → AllFit inside → Fit offset rest (transport_layers inside protocol offset rest)
transport-Fit inside protocol offset rest fit =
    let P : List LayerAt → Type 0 = Fit offset rest in
    cond_both (protocol == 6) _ _ P
    (λ _. cond_both (nat_le 20 (length rest)) _ _ P (λ e. Fit-last kind.Tcp offset false rest (leb-true 20 (length rest) e)) (λ _. tt))
    (λ _. cond_both (protocol == 17) _ _ P
    (λ _. cond_both (nat_le 8 (length rest)) _ _ P
    (λ e. Fit-header kind.Udp offset 8 false rest _ (omega arith) (leb-true 8 (length rest) e)
    (cond_both (number_at 2 2 rest == 4789) _ _ (Fit (offset + 8) (drop 8 rest)) (λ _. fit (offset + 8) (drop 8 rest)) (λ _. tt)))
    (λ _. tt))
    (λ _. tt))

network-Fit : (inside : Payloads) (ether_type offset : ℕ) (rest : List ℕ) → AllFit inside → Fit offset rest (network_layers inside ether_type offset rest)
network-Fit inside ether_type offset rest fit =
    let P : List LayerAt → Type 0 = Fit offset rest in
    let len = words rest * 4 in
    cond_both (ether_type == 0x0800) _ _ P
    (λ _. cond_both (is_ipv4 rest) _ _ P
    (λ e.
    let h = and_parts (nat_le 20 (length rest)) _ e in
    let v = and_parts (version rest == 4) _ h.1 in
    let w = and_parts (nat_le 5 (words rest)) (nat_le len (length rest)) v.1 in
    let five : 5 ≤ words rest = leb-true 5 (words rest) w.0 in
    Fit-header kind.Ipv4 offset len false rest _ (omega arith) (leb-true len (length rest) w.1)
    (cond_both (is_first_fragment rest) _ _ (Fit (offset + len) (drop len rest))
    (λ _. transport-Fit inside (number_at 9 1 rest) (offset + len) (drop len rest) fit) (λ _. tt)))
    (λ _. tt))
    (λ _. cond_both (ether_type == 0x86DD) _ _ P
    (λ _. cond_both (is_ipv6 rest) _ _ P
    (λ e.
    let h = and_parts (nat_le 40 (length rest)) (version rest == 6) e in
    Fit-header kind.Ipv6 offset 40 false rest _ (omega arith) (leb-true 40 (length rest) h.0)
    (transport-Fit inside (number_at 6 1 rest) (offset + 40) (drop 40 rest) fit))
    (λ _. tt))
    (λ _. tt))

typed-Fit : (more : ℕ) (inside : Payloads) (ether_type offset : ℕ) (rest : List ℕ) → AllFit inside → Fit offset rest (typed_layers more inside ether_type offset rest)
typed-Fit zero inside ether_type offset rest fit = network-Fit inside ether_type offset rest fit
typed-Fit (suc more) inside ether_type offset rest fit =
    cond_both (tag_follows (suc more) ether_type rest) _ _ (Fit offset rest)
    (λ e.
    let h = and_parts (nat_lt 0 (suc more)) _ e in
    let room = and_parts (ether_type == 0x8100 || ether_type == 0x88A8) (nat_le 4 (length rest)) h.1 in
    Fit-header kind.Vlan offset 4 _ rest _ (omega arith) (leb-true 4 (length rest) room.1)
    (typed-Fit more inside (number_at 2 2 rest) (offset + 4) (drop 4 rest) fit))
    (λ _. network-Fit inside ether_type offset rest fit)

frame-Fit : (inside : Payloads) (offset : ℕ) (rest : List ℕ) → AllFit inside → Fit offset rest (frame_layers inside offset rest)
frame-Fit inside offset rest fit =
    cond_both (nat_le 14 (length rest)) _ _ (Fit offset rest)
    (λ e. Fit-header kind.Eth offset 14 _ rest _ (omega arith) (leb-true 14 (length rest) e)
    (typed-Fit 2 inside (number_at 12 2 rest) (offset + 14) (drop 14 rest) fit))
    (λ _. tt)

vxlan-Fit : AllFit vxlan_layers
vxlan-Fit offset rest =
    cond_both (is_vxlan rest) _ _ (Fit offset rest)
    (λ e.
    let h = and_parts (nat_le 8 (length rest)) _ e in
    Fit-header kind.Vxlan offset 8 false rest _ (omega arith) (leb-true 8 (length rest) h.0)
    (frame-Fit no_layers (offset + 8) (drop 8 rest) (λ _ _. tt)))
    (λ _. tt)

pub LieWithin-layers : (frame : List ℕ) → LieWithin 0 (length frame) (layers frame)
unfolding layers
LieWithin-layers frame =
    let end : 0 + length frame ≡ length frame = omega arith in
    let P : ℕ → Type 0 = λ e. LieWithin 0 e (frame_layers vxlan_layers 0 frame) in
    subst P end (frame-Fit vxlan_layers 0 frame vxlan-Fit)
