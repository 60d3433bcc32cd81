-- What the law of transport sums asks of each kind of header.
use Rattle.std.proofs.Common.{◌≡◌, ◌+◌, ◌%◌, ◌≤◌, true, false, nat_eq, refl, lit≤}
use Rattle.packet_headers.specs.declared.items.ItemKind.{ItemKind}
use Rattle.packet_headers.specs.declared.items.ItemKind.TheVariants as kind
use Rattle.packet_headers.specs.Key.{kind_number}
use Rattle.packet_headers.specs.Layers.{header_len}
use Rattle.header_edit.specs.Frame.{checksum_from}
use Rattle.header_edit.specs.Layers.{is_transport}
use Rattle.header_edit.specs.Right.{is_network, is_link, addresses_from, addresses_len}

-- a network header has its addresses in whole words of its fixed part
pub record Network (k : ItemKind) : Type 0 where
  pub fits : addresses_from k + addresses_len k ≤ header_len k
  pub even_from : addresses_from k % 2 ≡ 0
  pub even_len : addresses_len k % 2 ≡ 0
  pub is_ipv4 : nat_eq (kind_number k) 3 ≡ true → k ≡ kind.Ipv4

pub network : (k : ItemKind) → is_network k ≡ true → Network k
network kind.Ipv4 h = record { fits = lit≤ tt; even_from = refl; even_len = refl; is_ipv4 = λ e. refl }
network kind.Ipv6 h = record { fits = lit≤ tt; even_from = refl; even_len = refl; is_ipv4 = λ e. absurd (cc) }
network _ h = absurd (cc)

-- a header of Ethernet or VLAN is another
pub record Link (k : ItemKind) : Type 0 where
  pub not_ipv4 : nat_eq (kind_number k) 3 ≡ false
  pub not_network : is_network k ≡ false

pub link : (k : ItemKind) → is_link k ≡ true → Link k
link kind.Void h = record { not_ipv4 = refl; not_network = refl }
link kind.Eth h = record { not_ipv4 = refl; not_network = refl }
link kind.Vlan h = record { not_ipv4 = refl; not_network = refl }
link _ h = absurd (cc)

-- a transport header has its checksum in a word behind the ports
pub record Transport (k : ItemKind) : Type 0 where
  pub not_ipv4 : nat_eq (kind_number k) 3 ≡ false
  pub even : checksum_from k % 2 ≡ 0
  pub behind_ports : 4 ≤ checksum_from k
  pub fits : checksum_from k + 2 ≤ header_len k

pub transport : (k : ItemKind) → is_transport k ≡ true → Transport k
transport kind.Tcp h = record { not_ipv4 = refl; even = refl; behind_ports = lit≤ tt; fits = lit≤ tt }
transport kind.Udp h = record { not_ipv4 = refl; even = refl; behind_ports = lit≤ tt; fits = lit≤ tt }
transport _ h = absurd (cc)
