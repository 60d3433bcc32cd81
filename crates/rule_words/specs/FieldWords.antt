-- What a field word names, and how its value is written.
use Rattle.std.specs.Prelude.{ℕ, ◌+◌, ◌<◌, ◌≤◌, ◌==◌, Bool, false, List, [], ◌∷◌, codes, bytes_eq, Option, None, Some, if◌then◌else◌}
use Rattle.packet_headers.specs.declared.items.ItemKind.{ItemKind}
use Rattle.packet_headers.specs.declared.items.ItemKind.TheVariants as kind
use Rattle.packet_headers.specs.Fields.{FieldOf, fields_of}
use Rattle.rule_words.specs.declared.address.Address.TheVariants as address
use Rattle.rule_words.specs.declared.field_words.Spot.{Spot}
use Rattle.rule_words.specs.declared.field_words.Spot.TheVariants as spots
use Rattle.rule_words.specs.declared.field_words.Named.{Named}
use Rattle.rule_words.specs.declared.value.Form.{Form}
use Rattle.rule_words.specs.declared.value.Form.TheVariants as forms
use Rattle.rule_words.specs.Value.{width_of}

-- how the value of a field is written: the fields of 48 bits are MAC addresses, those of 32 bits IPv4 addresses, those of
-- 128 bits IPv6 addresses, and every other is a number
abbrev pub form_of : ℕ → Form
form_of bits =
    if bits == 48 then forms.Address address.Mac
    else if bits == 32 then forms.Address address.Ip4
    else if bits == 128 then forms.Address address.Ip6 else forms.Number bits

-- the first of these fields with this word, where places count from one on
abbrev pub named_from : ℕ → List FieldOf → List ℕ → Option Named
named_from place [] word = None
named_from place (field ∷ fields) word =
    if bytes_eq field.word word then Some (record { spot = spots.Field place; bits = field.bits; form = form_of field.bits })
    else named_from (place + 1) fields word

-- `tci` of vlan
abbrev pub is_tci : ItemKind → List ℕ → Bool
is_tci kind.Vlan word = bytes_eq word (codes "tci")
is_tci _ word = false

-- what a field word of a kind names: a field of the field table by its word, or for `tci` of vlan all 16 bits of the
-- tag's control information
abbrev pub named_by : ItemKind → List ℕ → Option Named
named_by k word =
    if is_tci k word then Some (record { spot = spots.Tci; bits = 16; form = forms.Number 16 })
    else named_from 0 (fields_of k) word

-- it stands among the six numbers of an item
abbrev pub IsPlace : Spot → Type 0
IsPlace (spots.Field place) = place < 6
IsPlace spots.Tci = Unit {0}

abbrev pub IsInItem : Named → Type 0
IsInItem named = IsPlace named.spot × (named.bits ≤ 128) × (width_of named.form ≤ 128)
