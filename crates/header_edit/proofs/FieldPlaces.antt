-- Where the fields of edits stand.
use Rattle.std.proofs.Common.{◌≡◌, ℕ, ◌+◌, ◌%◌, ◌^◌, ◌<◌, ◌≤◌, ◌⊎◌, inl, inr, true, false, Some, refl, arith, lit≤}
use Rattle.packet_headers.specs.declared.items.ItemKind.{ItemKind}
use Rattle.packet_headers.specs.declared.items.ItemKind.TheVariants as kind
use Rattle.packet_headers.specs.declared.edits.Edit.{Edit}
use Rattle.packet_headers.specs.Layers.{header_len}
use Rattle.header_edit.specs.Field.{FitsField, Field, field_in, new_words, is_in_transport_sum}
use Rattle.header_edit.specs.Layers.{is_transport}
use Rattle.header_edit.specs.Right.{is_network, is_link, addresses_from, addresses_len}
use Rattle.header_edit.proofs.EachField.{Each, at_field}
use Rattle.header_edit.proofs.HeaderNumbers.{IsOff}

-- a field's words lie in the header, and are off its checksum
abbrev Lies : Edit → ItemKind → Field → Type 0
Lies e k f = (f.from + f.count ≤ header_len k) × IsOff k f.from f.count

each-lies : Each Lies
each-lies = record {
  mac_dst = λ n. (lit≤ tt, tt);
  mac_src = λ n. (lit≤ tt, tt);
  ipv4_src = λ n. (lit≤ tt, inr (lit≤ tt));
  ipv4_dst = λ n. (lit≤ tt, inr (lit≤ tt));
  ipv6_src = λ n. (lit≤ tt, tt);
  ipv6_dst = λ n. (lit≤ tt, tt);
  tcp_src = λ n. (lit≤ tt, inl (lit≤ tt));
  udp_src = λ n. (lit≤ tt, inl (lit≤ tt));
  tcp_dst = λ n. (lit≤ tt, inl (lit≤ tt));
  udp_dst = λ n. (lit≤ tt, inl (lit≤ tt));
  dec_ttl = (lit≤ tt, inl (lit≤ tt));
  dec_hop = (lit≤ tt, tt);
  set_ttl = λ n. (lit≤ tt, inl (lit≤ tt));
  set_hop = λ n. (lit≤ tt, tt);
  set_vid = λ n. (lit≤ tt, tt);
}

pub field-lies : (e : Edit) (k : ItemKind) (f : Field) → field_in e k ≡ Some f → (f.from + f.count ≤ header_len k) × IsOff k f.from f.count
field-lies e k f h = at_field Lies each-lies e k f h

-- the number of the words fits them
abbrev Fits : Edit → ItemKind → Field → Type 0
Fits e k f = FitsField e → (old : ℕ) → old < 256 ^ f.count → new_words e k old < 256 ^ f.count

each-fits : Each Fits
each-fits = record {
  mac_dst = λ n h old _. h;
  mac_src = λ n h old _. h;
  ipv4_src = λ n h old _. h;
  ipv4_dst = λ n h old _. h;
  ipv6_src = λ n h old _. h;
  ipv6_dst = λ n h old _. h;
  tcp_src = λ n h old _. h;
  udp_src = λ n h old _. h;
  tcp_dst = λ n h old _. h;
  udp_dst = λ n h old _. h;
  dec_ttl = λ h old k. omega arith;
  dec_hop = λ h old k. omega arith;
  set_ttl = λ n h old k. omega arith;
  set_hop = λ n h old k. omega arith;
  set_vid = λ n h old k. omega arith;
}

pub new_words-fits : (e : Edit) (k : ItemKind) (f : Field) → field_in e k ≡ Some f → FitsField e → (old : ℕ) → old < 256 ^ f.count
    → new_words e k old < 256 ^ f.count
new_words-fits e k f h = at_field Fits each-fits e k f h

-- a field stands in whole words, and behind the first word of an IPv4 header
pub record Placed (e : Edit) (k : ItemKind) (f : Field) : Type 0 where
  pub even_from : f.from % 2 ≡ 0
  pub even_count : f.count % 2 ≡ 0
  pub behind_first : k ≡ kind.Ipv4 → 8 ≤ f.from

each-placed : Each Placed
each-placed = record {
  mac_dst = λ n. record { even_from = refl; even_count = refl; behind_first = λ h. absurd (cc) };
  mac_src = λ n. record { even_from = refl; even_count = refl; behind_first = λ h. absurd (cc) };
  ipv4_src = λ n. record { even_from = refl; even_count = refl; behind_first = λ h. lit≤ tt };
  ipv4_dst = λ n. record { even_from = refl; even_count = refl; behind_first = λ h. lit≤ tt };
  ipv6_src = λ n. record { even_from = refl; even_count = refl; behind_first = λ h. absurd (cc) };
  ipv6_dst = λ n. record { even_from = refl; even_count = refl; behind_first = λ h. absurd (cc) };
  tcp_src = λ n. record { even_from = refl; even_count = refl; behind_first = λ h. absurd (cc) };
  udp_src = λ n. record { even_from = refl; even_count = refl; behind_first = λ h. absurd (cc) };
  tcp_dst = λ n. record { even_from = refl; even_count = refl; behind_first = λ h. absurd (cc) };
  udp_dst = λ n. record { even_from = refl; even_count = refl; behind_first = λ h. absurd (cc) };
  dec_ttl = record { even_from = refl; even_count = refl; behind_first = λ h. lit≤ tt };
  dec_hop = record { even_from = refl; even_count = refl; behind_first = λ h. absurd (cc) };
  set_ttl = λ n. record { even_from = refl; even_count = refl; behind_first = λ h. lit≤ tt };
  set_hop = λ n. record { even_from = refl; even_count = refl; behind_first = λ h. absurd (cc) };
  set_vid = λ n. record { even_from = refl; even_count = refl; behind_first = λ h. absurd (cc) };
}

pub field-placed : (e : Edit) (k : ItemKind) (f : Field) → field_in e k ≡ Some f → Placed e k f
field-placed e k f h = at_field Placed each-placed e k f h

-- no checksum covers a field of Ethernet or VLAN
abbrev OfLink : Edit → ItemKind → Field → Type 0
OfLink e k f = is_link k ≡ true → is_in_transport_sum e ≡ false

each-link : Each OfLink
each-link = record {
  mac_dst = λ n h. refl;
  mac_src = λ n h. refl;
  ipv4_src = λ n h. absurd (cc);
  ipv4_dst = λ n h. absurd (cc);
  ipv6_src = λ n h. absurd (cc);
  ipv6_dst = λ n h. absurd (cc);
  tcp_src = λ n h. absurd (cc);
  udp_src = λ n h. absurd (cc);
  tcp_dst = λ n h. absurd (cc);
  udp_dst = λ n h. absurd (cc);
  dec_ttl = λ h. absurd (cc);
  dec_hop = λ h. refl;
  set_ttl = λ n h. absurd (cc);
  set_hop = λ n h. refl;
  set_vid = λ n h. refl;
}

pub field-of_link : (e : Edit) (k : ItemKind) (f : Field) → field_in e k ≡ Some f → is_link k ≡ true → is_in_transport_sum e ≡ false
field-of_link e k f h = at_field OfLink each-link e k f h

-- a field of a network header is one of the addresses, or stands in front of both
pub record IsAddress (e : Edit) (k : ItemKind) (f : Field) : Type 0 where
  pub summed : is_in_transport_sum e ≡ true
  pub from : addresses_from k ≤ f.from
  pub to : f.from + f.count ≤ addresses_from k + addresses_len k

pub record IsInFront (e : Edit) (k : ItemKind) (f : Field) : Type 0 where
  pub unsummed : is_in_transport_sum e ≡ false
  pub to : f.from + f.count ≤ addresses_from k

abbrev OfNetwork : Edit → ItemKind → Field → Type 0
OfNetwork e k f = is_network k ≡ true → IsAddress e k f ⊎ IsInFront e k f

each-network : Each OfNetwork
each-network = record {
  mac_dst = λ n h. absurd (cc);
  mac_src = λ n h. absurd (cc);
  ipv4_src = λ n h. inl (record { summed = refl; from = lit≤ tt; to = lit≤ tt });
  ipv4_dst = λ n h. inl (record { summed = refl; from = lit≤ tt; to = lit≤ tt });
  ipv6_src = λ n h. inl (record { summed = refl; from = lit≤ tt; to = lit≤ tt });
  ipv6_dst = λ n h. inl (record { summed = refl; from = lit≤ tt; to = lit≤ tt });
  tcp_src = λ n h. absurd (cc);
  udp_src = λ n h. absurd (cc);
  tcp_dst = λ n h. absurd (cc);
  udp_dst = λ n h. absurd (cc);
  dec_ttl = λ h. inr (record { unsummed = refl; to = lit≤ tt });
  dec_hop = λ h. inr (record { unsummed = refl; to = lit≤ tt });
  set_ttl = λ n h. inr (record { unsummed = refl; to = lit≤ tt });
  set_hop = λ n h. inr (record { unsummed = refl; to = lit≤ tt });
  set_vid = λ n h. absurd (cc);
}

pub field-of_network : (e : Edit) (k : ItemKind) (f : Field) → field_in e k ≡ Some f → is_network k ≡ true → IsAddress e k f ⊎ IsInFront e k f
field-of_network e k f h = at_field OfNetwork each-network e k f h

-- a field of a transport header is a port
abbrev OfTransport : Edit → ItemKind → Field → Type 0
OfTransport e k f = is_transport k ≡ true → (is_in_transport_sum e ≡ true) × (f.from + f.count ≤ 4)

each-transport : Each OfTransport
each-transport = record {
  mac_dst = λ n h. absurd (cc);
  mac_src = λ n h. absurd (cc);
  ipv4_src = λ n h. absurd (cc);
  ipv4_dst = λ n h. absurd (cc);
  ipv6_src = λ n h. absurd (cc);
  ipv6_dst = λ n h. absurd (cc);
  tcp_src = λ n h. (refl, lit≤ tt);
  udp_src = λ n h. (refl, lit≤ tt);
  tcp_dst = λ n h. (refl, lit≤ tt);
  udp_dst = λ n h. (refl, lit≤ tt);
  dec_ttl = λ h. absurd (cc);
  dec_hop = λ h. absurd (cc);
  set_ttl = λ n h. absurd (cc);
  set_hop = λ n h. absurd (cc);
  set_vid = λ n h. absurd (cc);
}

pub field-of_transport : (e : Edit) (k : ItemKind) (f : Field) → field_in e k ≡ Some f → is_transport k ≡ true
    → (is_in_transport_sum e ≡ true) × (f.from + f.count ≤ 4)
field-of_transport e k f h = at_field OfTransport each-transport e k f h
