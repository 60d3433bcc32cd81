-- What holds of each field that an edit changes, by the fifteen pairs of an edit and a kind of header.
use Rattle.std.proofs.Common.{◌≡◌, ℕ, Some, unwrap_or, ap, subst}
use Rattle.packet_headers.specs.declared.items.ItemKind.{ItemKind}
use Rattle.packet_headers.specs.declared.items.ItemKind.TheVariants as kind
use Rattle.packet_headers.specs.declared.edits.Edit.{Edit}
use Rattle.packet_headers.specs.declared.edits.Edit.TheVariants.{MacSrc, MacDst, Ipv4Src, Ipv4Dst, Ipv6Src, Ipv6Dst, PortSrc, PortDst, DecTtl, SetTtl, SetVid}
use Rattle.header_edit.specs.Field.{Field, field_in}

abbrev pub field : ℕ → ℕ → ℕ → Field
field number from count = record { number = number; from = from; count = count }

pub record Each (P : Edit → ItemKind → Field → Type 0) : Type 0 where
  pub mac_dst : (n : ℕ) → P (MacDst n) kind.Eth (field 0 0 6)
  pub mac_src : (n : ℕ) → P (MacSrc n) kind.Eth (field 1 6 6)
  pub ipv4_src : (n : ℕ) → P (Ipv4Src n) kind.Ipv4 (field 3 12 4)
  pub ipv4_dst : (n : ℕ) → P (Ipv4Dst n) kind.Ipv4 (field 4 16 4)
  pub ipv6_src : (n : ℕ) → P (Ipv6Src n) kind.Ipv6 (field 4 8 16)
  pub ipv6_dst : (n : ℕ) → P (Ipv6Dst n) kind.Ipv6 (field 5 24 16)
  pub tcp_src : (n : ℕ) → P (PortSrc n) kind.Tcp (field 0 0 2)
  pub udp_src : (n : ℕ) → P (PortSrc n) kind.Udp (field 0 0 2)
  pub tcp_dst : (n : ℕ) → P (PortDst n) kind.Tcp (field 1 2 2)
  pub udp_dst : (n : ℕ) → P (PortDst n) kind.Udp (field 1 2 2)
  pub dec_ttl : P DecTtl kind.Ipv4 (field 1 8 2)
  pub dec_hop : P DecTtl kind.Ipv6 (field 3 6 2)
  pub set_ttl : (n : ℕ) → P (SetTtl n) kind.Ipv4 (field 1 8 2)
  pub set_hop : (n : ℕ) → P (SetTtl n) kind.Ipv6 (field 3 6 2)
  pub set_vid : (n : ℕ) → P (SetVid n) kind.Vlan (field 2 0 2)

same : (P : Field → Type 0) (f g : Field) → Some f ≡ Some g → P f → P g
same P f g e h = subst P (ap (λ o. unwrap_or o f) e) h

pub at_field : (P : Edit → ItemKind → Field → Type 0) → Each P → (e : Edit) (k : ItemKind) (f : Field) → field_in e k ≡ Some f → P e k f
at_field P each (MacDst n) kind.Eth f h = same (P (MacDst n) kind.Eth) _ f h (each.mac_dst n)
at_field P each (MacDst n) _ f h = absurd (cc)
at_field P each (MacSrc n) kind.Eth f h = same (P (MacSrc n) kind.Eth) _ f h (each.mac_src n)
at_field P each (MacSrc n) _ f h = absurd (cc)
at_field P each (Ipv4Src n) kind.Ipv4 f h = same (P (Ipv4Src n) kind.Ipv4) _ f h (each.ipv4_src n)
at_field P each (Ipv4Src n) _ f h = absurd (cc)
at_field P each (Ipv4Dst n) kind.Ipv4 f h = same (P (Ipv4Dst n) kind.Ipv4) _ f h (each.ipv4_dst n)
at_field P each (Ipv4Dst n) _ f h = absurd (cc)
at_field P each (Ipv6Src n) kind.Ipv6 f h = same (P (Ipv6Src n) kind.Ipv6) _ f h (each.ipv6_src n)
at_field P each (Ipv6Src n) _ f h = absurd (cc)
at_field P each (Ipv6Dst n) kind.Ipv6 f h = same (P (Ipv6Dst n) kind.Ipv6) _ f h (each.ipv6_dst n)
at_field P each (Ipv6Dst n) _ f h = absurd (cc)
at_field P each (PortSrc n) kind.Tcp f h = same (P (PortSrc n) kind.Tcp) _ f h (each.tcp_src n)
at_field P each (PortSrc n) kind.Udp f h = same (P (PortSrc n) kind.Udp) _ f h (each.udp_src n)
at_field P each (PortSrc n) _ f h = absurd (cc)
at_field P each (PortDst n) kind.Tcp f h = same (P (PortDst n) kind.Tcp) _ f h (each.tcp_dst n)
at_field P each (PortDst n) kind.Udp f h = same (P (PortDst n) kind.Udp) _ f h (each.udp_dst n)
at_field P each (PortDst n) _ f h = absurd (cc)
at_field P each DecTtl kind.Ipv4 f h = same (P DecTtl kind.Ipv4) _ f h each.dec_ttl
at_field P each DecTtl kind.Ipv6 f h = same (P DecTtl kind.Ipv6) _ f h each.dec_hop
at_field P each DecTtl _ f h = absurd (cc)
at_field P each (SetTtl n) kind.Ipv4 f h = same (P (SetTtl n) kind.Ipv4) _ f h (each.set_ttl n)
at_field P each (SetTtl n) kind.Ipv6 f h = same (P (SetTtl n) kind.Ipv6) _ f h (each.set_hop n)
at_field P each (SetTtl n) _ f h = absurd (cc)
at_field P each (SetVid n) kind.Vlan f h = same (P (SetVid n) kind.Vlan) _ f h (each.set_vid n)
at_field P each (SetVid n) _ f h = absurd (cc)
