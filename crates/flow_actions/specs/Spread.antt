-- What the hash of a frame is of, and which queue it chooses.
use Rattle.std.specs.Prelude.{ℕ, ◌+◌, ◌%◌, Bool, nat_eq, if◌then◌else◌, Option, None, Some, List, [], ◌∷◌, ◌++◌, length, slice_index}
use Rattle.std.specs.List.{range_with_len}
use Rattle.std.specs.Int.{bytes_high_first, bit_at}
use Rattle.packet_headers.specs.declared.items.LayerAt.{LayerAt}
use Rattle.packet_headers.specs.declared.stacks.Network.{Network}
use Rattle.packet_headers.specs.declared.stacks.Network.TheVariants as network
use Rattle.packet_headers.specs.declared.stacks.Transport.{Transport}
use Rattle.packet_headers.specs.declared.stacks.Transport.TheVariants as transport
use Rattle.packet_headers.specs.declared.stacks.Stack.{Stack}
use Rattle.packet_headers.specs.Key.{in_front, outer_in}
use Rattle.flow_actions.specs.declared.rss.Rss.{Rss}
use Rattle.flow_actions.specs.Hash.{hash_of}

-- two numbers of so many bytes each, in wire order: source and destination
unfoldable pub pair : ℕ → ℕ → ℕ → List ℕ
pair count src dst = bytes_high_first count src ++ bytes_high_first count dst

-- Bits 0 to 5 of `types` are IPv4, IPv4 with TCP, IPv4 with UDP, IPv6, IPv6 with TCP, IPv6 with UDP.
abbrev pub has : ℕ → ℕ → Bool
has types bit = nat_eq (bit_at types bit) 1

-- the ports, where `types` has the network header, whose own bit is given, with this transport header
abbrev pub ports_of : ℕ → ℕ → Transport → Option (List ℕ)
ports_of types bit transport.None = None
ports_of types bit (transport.Tcp h) = if has types (bit + 1) then Some (pair 2 h.src h.dst) else None
ports_of types bit (transport.Udp h) = if has types (bit + 2) then Some (pair 2 h.src h.dst) else None

-- the input: addresses and ports, or the addresses alone, or nothing
abbrev pub with_ports : ℕ → ℕ → List ℕ → Option (List ℕ) → List ℕ
with_ports types bit addresses (Some numbers) = addresses ++ numbers
with_ports types bit addresses None = if has types bit then addresses else []

abbrev pub input_of : ℕ → Network → Transport → List ℕ
input_of types network.None t = []
input_of types (network.V4 h) t = with_ports types 0 (pair 4 h.src h.dst) (ports_of types 0 t)
input_of types (network.V6 h) t = with_ports types 3 (pair 16 h.src h.dst) (ports_of types 3 t)

abbrev pub stack_input : ℕ → Option Stack → List ℕ
stack_input types None = []
stack_input types (Some stack) = input_of types stack.network stack.transport

-- the hash of a frame of these layers: that of the headers in front of VXLAN
unfoldable pub hash_in : ℕ → List LayerAt → ℕ
hash_in types layers = hash_of (stack_input types (outer_in (in_front layers)))

-- the queues of the action on a port of `rxq` Rx queues: those listed, or all
abbrev pub queues_of : List ℕ → ℕ → List ℕ
queues_of [] rxq = range_with_len 0 rxq
queues_of (queue ∷ queues) rxq = queue ∷ queues

-- the queue that a hash chooses
unfoldable pub chosen : List ℕ → ℕ → ℕ
chosen queues hash = slice_index queues (hash % length queues)

abbrev pub queue_in : Rss → ℕ → List LayerAt → ℕ
queue_in rss rxq layers = chosen (queues_of rss.queues.items rxq) (hash_in rss.types layers)
