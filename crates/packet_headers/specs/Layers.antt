-- The layers of a frame: its headers from the first byte on, each with its fields' numbers and its
-- offset. Each definition takes the bytes that remain, and the type that announces what they are.
use Rattle.std.specs.Prelude.{ℕ, ◌+◌, ◌*◌, ◌/◌, ◌%◌, ◌≤◌, zero, suc, Bool, false, ◌==◌, nat_lt, nat_le, ◌&&◌, ◌||◌, bit_and, if◌then◌else◌, length, drop, List, [], ◌∷◌}
use Rattle.packet_headers.specs.declared.items.ItemKind.{ItemKind}
use Rattle.packet_headers.specs.declared.items.ItemKind.TheVariants as kind
use Rattle.packet_headers.specs.declared.items.LayerAt.{LayerAt}
use Rattle.packet_headers.specs.Fields.{fields_of, number_at, numbers_in, padded}

-- the header of this kind in the first of the bytes that remain, which begin at `offset`
unfoldable pub header : ItemKind → ℕ → Bool → List ℕ → LayerAt
header k offset tag_follows rest =
    record { layer = record { kind = k; v = padded (numbers_in (fields_of k) tag_follows rest) }; offset = offset }

-- the layers that stand behind UDP to port 4789, by their offset and the bytes that remain
abbrev pub Payloads : Type 0
Payloads = ℕ → List ℕ → List LayerAt

-- what stands behind UDP to this port
abbrev pub port_layers : Payloads → ℕ → ℕ → List ℕ → List LayerAt
port_layers inside port offset rest = if port == 4789 then inside offset rest else []

abbrev pub udp_layers : Payloads → ℕ → List ℕ → List LayerAt
udp_layers inside offset rest =
    if nat_le 8 (length rest) then
    header kind.Udp offset false rest ∷ port_layers inside (number_at 2 2 rest) (offset + 8) (drop 8 rest)
    else []

abbrev pub tcp_layers : ℕ → List ℕ → List LayerAt
tcp_layers offset rest = if nat_le 20 (length rest) then header kind.Tcp offset false rest ∷ [] else []

-- TCP for protocol 6, UDP for protocol 17
abbrev pub transport_layers : Payloads → ℕ → ℕ → List ℕ → List LayerAt
transport_layers inside protocol offset rest =
    if protocol == 6 then tcp_layers offset rest
    else (if protocol == 17 then udp_layers inside offset rest else [])

-- the version and the header's length in words of 4 bytes, which share the first byte
abbrev pub version : List ℕ → ℕ
version rest = number_at 0 1 rest / 16

abbrev pub words : List ℕ → ℕ
words rest = number_at 0 1 rest % 16

-- an IPv4 header, with its options, stands whole in the bytes that remain
abbrev pub is_ipv4 : List ℕ → Bool
is_ipv4 rest =
    nat_le 20 (length rest) && (version rest == 4 && (nat_le 5 (words rest) && nat_le (words rest * 4) (length rest)))

abbrev pub is_ipv6 : List ℕ → Bool
is_ipv6 rest = nat_le 40 (length rest) && (version rest == 6)

abbrev pub is_first_fragment : List ℕ → Bool
is_first_fragment rest = number_at 6 2 rest % 8192 == 0

-- what an IPv4 header carries: no transport header is read in a later fragment
abbrev pub carried_layers : Payloads → ℕ → List ℕ → List LayerAt
carried_layers inside offset rest =
    if is_first_fragment rest then
    transport_layers inside (number_at 9 1 rest) (offset + words rest * 4) (drop (words rest * 4) rest)
    else []

abbrev pub ipv4_layers : Payloads → ℕ → List ℕ → List LayerAt
ipv4_layers inside offset rest =
    if is_ipv4 rest then header kind.Ipv4 offset false rest ∷ carried_layers inside offset rest else []

abbrev pub ipv6_layers : Payloads → ℕ → List ℕ → List LayerAt
ipv6_layers inside offset rest =
    if is_ipv6 rest then
    header kind.Ipv6 offset false rest
    ∷ transport_layers inside (number_at 6 1 rest) (offset + 40) (drop 40 rest)
    else []

-- IPv4 for type 0x0800, IPv6 for type 0x86DD
abbrev pub network_layers : Payloads → ℕ → ℕ → List ℕ → List LayerAt
network_layers inside ether_type offset rest =
    if ether_type == 0x0800 then ipv4_layers inside offset rest
    else (if ether_type == 0x86DD then ipv6_layers inside offset rest else [])

-- a VLAN layer follows: the type is a TPID, more tags may be read, and 4 bytes remain
abbrev pub tag_follows : ℕ → ℕ → List ℕ → Bool
tag_follows more ether_type rest =
    nat_lt 0 more && ((ether_type == 0x8100 || ether_type == 0x88A8) && nat_le 4 (length rest))

-- up to `more` VLAN tags, and the network header behind them
abbrev pub typed_layers : ℕ → Payloads → ℕ → ℕ → List ℕ → List LayerAt
typed_layers zero inside ether_type offset rest = network_layers inside ether_type offset rest
typed_layers (suc more) inside ether_type offset rest =
    if tag_follows (suc more) ether_type rest then
    header kind.Vlan offset (tag_follows more (number_at 2 2 rest) (drop 4 rest)) rest
    ∷ typed_layers more inside (number_at 2 2 rest) (offset + 4) (drop 4 rest)
    else network_layers inside ether_type offset rest

-- an Ethernet frame, with at most two tags
abbrev pub frame_layers : Payloads → ℕ → List ℕ → List LayerAt
frame_layers inside offset rest =
    if nat_le 14 (length rest) then
    header kind.Eth offset (tag_follows 2 (number_at 12 2 rest) (drop 14 rest)) rest
    ∷ typed_layers 2 inside (number_at 12 2 rest) (offset + 14) (drop 14 rest)
    else []

abbrev pub no_layers : Payloads
no_layers offset rest = []

-- the flag of a valid network id
abbrev pub is_vxlan : List ℕ → Bool
is_vxlan rest = nat_le 8 (length rest) && (bit_and (number_at 0 1 rest) 8 == 8)

-- VXLAN, and the inner frame, which holds no second VXLAN
abbrev pub vxlan_layers : Payloads
vxlan_layers offset rest =
    if is_vxlan rest then
    header kind.Vxlan offset false rest ∷ frame_layers no_layers (offset + 8) (drop 8 rest)
    else []

-- the layers of a frame
unfoldable pub layers : List ℕ → List LayerAt
layers frame = frame_layers vxlan_layers 0 frame

-- how many bytes a header of this kind takes, without options
abbrev pub header_len : ItemKind → ℕ
header_len kind.Void = 0
header_len kind.Eth = 14
header_len kind.Vlan = 4
header_len kind.Ipv4 = 20
header_len kind.Ipv6 = 40
header_len kind.Tcp = 20
header_len kind.Udp = 8
header_len kind.Vxlan = 8

-- the headers lie in the bytes `from` to `end`, in rising order and without overlap
abbrev pub LieWithin : ℕ → ℕ → List LayerAt → Type 0
LieWithin from end [] = Unit {0}
LieWithin from end (l ∷ ls) =
    (from ≤ l.offset) × (l.offset + header_len l.layer.kind ≤ end) × LieWithin (l.offset + header_len l.layer.kind) end ls
