-- Right checksums, and the places of headers at which an edit leaves them right.
use Rattle.std.specs.Prelude.{◌≡◌, ◌≢◌, ℕ, ◌+◌, ◌*◌, ◌%◌, ◌≤◌, Bool, true, false, List, [], ◌∷◌, ◌++◌, length, drop, All}
use Rattle.packet_headers.specs.declared.items.ItemKind.{ItemKind}
use Rattle.packet_headers.specs.declared.items.ItemKind.TheVariants as kind
use Rattle.packet_headers.specs.declared.items.LayerAt.{LayerAt}
use Rattle.packet_headers.specs.Fields.{number_at}
use Rattle.packet_headers.specs.Layers.{version, words, header_len}
use Rattle.header_edit.specs.Checksum.{ones_sum}
use Rattle.header_edit.specs.Layers.{is_transport}
use Rattle.header_edit.specs.Frame.{bytes_at}
use Rattle.header_edit.specs.Shown.{AreBytes}

-- the bytes that a right checksum stands in or covers
abbrev pub IsRight : List ℕ → Type 0
IsRight bytes = ones_sum bytes ≡ 0xffff

-- how many bytes the IPv4 header at this offset has, with its options
abbrev pub ipv4_len : ℕ → List ℕ → ℕ
ipv4_len offset frame = words (drop offset frame) * 4

-- the next of these layers, if there is one, begins at `place` or behind it
abbrev pub BeginsFrom : ℕ → List LayerAt → Type 0
BeginsFrom place [] = Unit {0}
BeginsFrom place (l ∷ ls) = place ≤ l.offset

-- this layer is an IPv4 header that lies in the frame with its options, and the layers behind it
-- begin behind these
pub record IsWholeIpv4 (frame : List ℕ) (l : LayerAt) (behind : List LayerAt) : Type 0 where
  pub ipv4 : l.layer.kind ≡ kind.Ipv4
  pub four : version (drop l.offset frame) ≡ 4
  pub long : 5 ≤ words (drop l.offset frame)
  pub room : l.offset + ipv4_len l.offset frame ≤ length frame
  pub next : BeginsFrom (l.offset + ipv4_len l.offset frame) behind

-- the kinds of network header, and the kinds of header below one
abbrev pub is_network : ItemKind → Bool
is_network kind.Ipv4 = true
is_network kind.Ipv6 = true
is_network _ = false

abbrev pub is_link : ItemKind → Bool
is_link kind.Void = true
is_link kind.Eth = true
is_link kind.Vlan = true
is_link _ = false

abbrev pub AreLinks : List LayerAt → Type 0
AreLinks ls = All (λ (l : LayerAt). is_link l.layer.kind ≡ true) ls

-- no more headers stand in front of VXLAN
abbrev pub EndsStack : List LayerAt → Type 0
EndsStack [] = Unit {0}
EndsStack (l ∷ ls) = l.layer.kind ≡ kind.Vxlan

-- an outer stack that has one network header and ends with its one transport header
pub record IsOneStack (below : List LayerAt) (network : LayerAt) (between : List LayerAt) (transport : LayerAt) (behind : List LayerAt) : Type 0 where
  pub links_below : AreLinks below
  pub network_is : is_network network.layer.kind ≡ true
  pub links_between : AreLinks between
  pub transport_is : is_transport transport.layer.kind ≡ true
  pub ends : EndsStack behind

-- both addresses, as they stand in a network header
abbrev pub addresses_from : ItemKind → ℕ
addresses_from kind.Ipv4 = 12
addresses_from _ = 8

abbrev pub addresses_len : ItemKind → ℕ
addresses_len kind.Ipv4 = 8
addresses_len _ = 32

abbrev pub addresses : LayerAt → List ℕ → List ℕ
addresses l frame = bytes_at (l.offset + addresses_from l.layer.kind) (addresses_len l.layer.kind) frame

-- what a transport checksum covers: the rest of the pseudo-header, the addresses, and `count` bytes from
-- the transport header on
abbrev pub covered : List ℕ → LayerAt → LayerAt → ℕ → List ℕ → List ℕ
covered rest network transport count frame = rest ++ (addresses network frame ++ bytes_at transport.offset count frame)

-- a UDP checksum was made
abbrev pub IsMade : LayerAt → List ℕ → Type 0
IsMade l frame = l.layer.kind ≡ kind.Udp → number_at (l.offset + 6) 2 frame ≢ 0

-- the parts of it: the rest is whole words and isn't all 0, as the protocol and length of a pseudo-header
-- are, and the transport bytes reach to any place behind the header
pub record AreCovered (rest : List ℕ) (transport : LayerAt) (count : ℕ) (frame : List ℕ) : Type 0 where
  pub are_bytes : AreBytes rest
  pub even : length rest % 2 ≡ 0
  pub some : ¬ All (λ b. b ≡ 0) rest
  pub header : header_len transport.layer.kind ≤ count
  pub room : transport.offset + count ≤ length frame
  pub made : IsMade transport frame

-- these layers have such an outer stack, which ends with this transport header
pub record HasOneStack (ls : List LayerAt) (transport : LayerAt) : Type 0 where
  pub below : List LayerAt
  pub network : LayerAt
  pub between : List LayerAt
  pub behind : List LayerAt
  pub layers_are : ls ≡ below ++ network ∷ between ++ transport ∷ behind
  pub stack : IsOneStack below network between transport behind
