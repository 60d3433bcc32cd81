-- The field that an edit changes, by the kind of the header.
use Rattle.std.specs.Prelude.{ℕ, ◌^◌, ◌<◌, ◌+◌, ◌-◌, ◌*◌, ◌/◌, ◌%◌, Bool, true, false, Option, Some, None, is_some}
use Rattle.packet_headers.specs.declared.items.ItemKind.{ItemKind}
use Rattle.packet_headers.specs.declared.items.ItemKind.TheVariants as kind
use Rattle.packet_headers.specs.declared.edits.Edit.{Edit}
use Rattle.packet_headers.specs.declared.edits.Edit.TheVariants.{MacSrc, MacDst, Ipv4Src, Ipv4Dst, Ipv6Src, Ipv6Dst, PortSrc, PortDst, DecTtl, SetTtl, SetVid}

-- the condition of an edit: a MAC address and a VLAN id are narrower than their types
abbrev pub IsLawful : Edit → Type 0
IsLawful (MacSrc n) = n < 2 ^ 48
IsLawful (MacDst n) = n < 2 ^ 48
IsLawful (SetVid n) = n < 4096
IsLawful e = Unit {0}

-- the value fits its field, as the types of an edit's values and its condition say
abbrev pub FitsField : Edit → Type 0
FitsField (MacSrc n) = n < 2 ^ 48
FitsField (MacDst n) = n < 2 ^ 48
FitsField (Ipv4Src n) = n < 2 ^ 32
FitsField (Ipv4Dst n) = n < 2 ^ 32
FitsField (Ipv6Src n) = n < 2 ^ 128
FitsField (Ipv6Dst n) = n < 2 ^ 128
FitsField (PortSrc n) = n < 2 ^ 16
FitsField (PortDst n) = n < 2 ^ 16
FitsField DecTtl = Unit {0}
FitsField (SetTtl n) = n < 2 ^ 8
FitsField (SetVid n) = n < 4096

-- where a field stands: its place among the numbers of its layer, and the bytes of the header's
-- 16-bit words in which it lies
pub record Field : Type 0 where
  pub number : ℕ
  pub from : ℕ
  pub count : ℕ

abbrev pub stands : ℕ → ℕ → ℕ → Option Field
stands number from count = Some (record { number = number; from = from; count = count })

-- the field in a header of this kind, if it has one. Numbers and places are those of the field table of
-- packet_headers, as the law of agreement shows.
abbrev pub field_in : Edit → ItemKind → Option Field
field_in (MacDst n) kind.Eth = stands 0 0 6
field_in (MacDst n) _ = None
field_in (MacSrc n) kind.Eth = stands 1 6 6
field_in (MacSrc n) _ = None
field_in (Ipv4Src n) kind.Ipv4 = stands 3 12 4
field_in (Ipv4Src n) _ = None
field_in (Ipv4Dst n) kind.Ipv4 = stands 4 16 4
field_in (Ipv4Dst n) _ = None
field_in (Ipv6Src n) kind.Ipv6 = stands 4 8 16
field_in (Ipv6Src n) _ = None
field_in (Ipv6Dst n) kind.Ipv6 = stands 5 24 16
field_in (Ipv6Dst n) _ = None
field_in (PortSrc n) kind.Tcp = stands 0 0 2
field_in (PortSrc n) kind.Udp = stands 0 0 2
field_in (PortSrc n) _ = None
field_in (PortDst n) kind.Tcp = stands 1 2 2
field_in (PortDst n) kind.Udp = stands 1 2 2
field_in (PortDst n) _ = None
field_in DecTtl kind.Ipv4 = stands 1 8 2
field_in DecTtl kind.Ipv6 = stands 3 6 2
field_in DecTtl _ = None
field_in (SetTtl n) kind.Ipv4 = stands 1 8 2
field_in (SetTtl n) kind.Ipv6 = stands 3 6 2
field_in (SetTtl n) _ = None
field_in (SetVid n) kind.Vlan = stands 2 0 2
field_in (SetVid n) _ = None

abbrev pub has_field : Edit → ItemKind → Bool
has_field e k = is_some (field_in e k)

-- the field's number after the edit, where it was `old`
abbrev pub new_number : Edit → ℕ → ℕ
new_number (MacSrc n) old = n
new_number (MacDst n) old = n
new_number (Ipv4Src n) old = n
new_number (Ipv4Dst n) old = n
new_number (Ipv6Src n) old = n
new_number (Ipv6Dst n) old = n
new_number (PortSrc n) old = n
new_number (PortDst n) old = n
new_number DecTtl old = old - 1
new_number (SetTtl n) old = n
new_number (SetVid n) old = n

-- the number of the field's words after the edit, where it was `old`. The TTL is the high byte of its
-- word, the hop limit the low byte, and a VLAN id the low 12 bits; all other fields are whole words.
abbrev pub new_words : Edit → ItemKind → ℕ → ℕ
new_words (MacSrc n) k old = n
new_words (MacDst n) k old = n
new_words (Ipv4Src n) k old = n
new_words (Ipv4Dst n) k old = n
new_words (Ipv6Src n) k old = n
new_words (Ipv6Dst n) k old = n
new_words (PortSrc n) k old = n
new_words (PortDst n) k old = n
new_words DecTtl kind.Ipv4 old = (old / 256 - 1) * 256 + old % 256
new_words DecTtl _ old = old / 256 * 256 + (old % 256 - 1)
new_words (SetTtl n) kind.Ipv4 old = n * 256 + old % 256
new_words (SetTtl n) _ old = old / 256 * 256 + n
new_words (SetVid n) k old = old / 4096 * 4096 + n

-- the checksum of TCP and UDP covers addresses and ports
abbrev pub is_in_transport_sum : Edit → Bool
is_in_transport_sum (MacSrc n) = false
is_in_transport_sum (MacDst n) = false
is_in_transport_sum (Ipv4Src n) = true
is_in_transport_sum (Ipv4Dst n) = true
is_in_transport_sum (Ipv6Src n) = true
is_in_transport_sum (Ipv6Dst n) = true
is_in_transport_sum (PortSrc n) = true
is_in_transport_sum (PortDst n) = true
is_in_transport_sum DecTtl = false
is_in_transport_sum (SetTtl n) = false
is_in_transport_sum (SetVid n) = false
