-- What is hashed of a key, and the hash of addresses with the ports behind them.
use Rattle.std.proofs.Common.{◌≡◌, ℕ, ◌++◌, true, false, cond, List, [], length, Option, Some, None, ap, sym, ◌∙◌, zero-add}
use Rattle.std.specs.Int.Bits.{bit_xor}
use Rattle.packet_headers.specs.declared.items.LayerAt.{LayerAt}
use Rattle.packet_headers.specs.declared.stacks.Stack.{Stack}
use Rattle.packet_headers.specs.declared.stacks.Tunnel.{Tunnel}
use Rattle.packet_headers.specs.Stack.{outer_layers, tunnel_layers}
use Rattle.packet_headers.specs.Key.{in_front, outer_in}
use Rattle.packet_headers.specs.KeyBack.{key_of-layers_of}
use Rattle.flow_actions.specs.Hash.{windows_at, hash_at, hash_of}
use Rattle.flow_actions.specs.Spread.{has, with_ports, stack_input, hash_in}
use Rattle.flow_actions.proofs.Windows.{hash_at-append}

-- the headers in front of VXLAN
outer_in-front : (o : Option Stack) (t : Option Tunnel) → outer_in (in_front (outer_layers o ++ tunnel_layers t)) ≡ o
outer_in-front o t = ap (λ k. k.outer) (key_of-layers_of (record { outer = o; tunnel = t }))

pub hash_in-key : (types : ℕ) (o : Option Stack) (t : Option Tunnel) (layers : List LayerAt) → outer_layers o ++ tunnel_layers t ≡ layers
    → hash_of (stack_input types o) ≡ hash_in types layers
unfolding hash_in
hash_in-key types o t layers is =
    ap (λ s. hash_of (stack_input types s)) (sym (outer_in-front o t)) ∙ ap (λ ls. hash_of (stack_input types (outer_in (in_front ls)))) is

hash_of-append : (bytes more : List ℕ) (hash part : ℕ) → hash ≡ hash_of bytes → part ≡ hash_at (length bytes) more
    → bit_xor hash part ≡ hash_of (bytes ++ more)
hash_of-append bytes more hash part is part_is =
    ap (λ h. bit_xor h part) is
    ∙ (ap (bit_xor (hash_of bytes)) (part_is ∙ ap (λ n. hash_at n more) (sym (zero-add (length bytes))))
    ∙ sym (hash_at-append 0 bytes more))

-- with the ports that are taken
pub hash-with_ports : (types bit : ℕ) (bytes more : List ℕ) (ports : Option (List ℕ)) (hash part : ℕ) → hash ≡ hash_of bytes → part ≡ hash_at (length bytes) more
    → Some more ≡ ports → bit_xor hash part ≡ hash_of (with_ports types bit bytes ports)
hash-with_ports types bit bytes more ports hash part is part_is taken =
    hash_of-append bytes more hash part is part_is ∙ ap (λ p. hash_of (with_ports types bit bytes p)) taken

-- without ports, and without addresses
pub hash-alone : (types bit : ℕ) (bytes : List ℕ) (ports : Option (List ℕ)) (hash : ℕ) → hash ≡ hash_of bytes → None ≡ ports → has types bit ≡ true
    → hash ≡ hash_of (with_ports types bit bytes ports)
hash-alone types bit bytes ports hash is taken there =
    is ∙ (ap (λ b. hash_of (cond b bytes [])) (sym there) ∙ ap (λ p. hash_of (with_ports types bit bytes p)) taken)

pub hash-nothing : (types bit : ℕ) (bytes : List ℕ) (ports : Option (List ℕ)) → None ≡ ports → has types bit ≡ false
    → 0 ≡ hash_of (with_ports types bit bytes ports)
unfolding windows_at
hash-nothing types bit bytes ports taken there =
    ap (λ b. hash_of (cond b bytes [])) (sym there) ∙ ap (λ p. hash_of (with_ports types bit bytes p)) taken
