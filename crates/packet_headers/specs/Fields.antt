-- The field table: the fields of each kind of item, in the order of a layer's numbers.
-- Headers are those of IEEE 802.3, 802.1Q, RFC 791, RFC 8200, RFC 9293, RFC 768 and RFC 7348.
-- The words and the default masks are those of the rte_flow guide and the testpmd user guide.
use Rattle.std.specs.Prelude.{ℕ, ◌^◌, ◌-◌, ◌/◌, ◌%◌, Bool, true, false, codes, length, map, replicate, List, [], ◌∷◌, ◌++◌, drop}
use Rattle.byteorder.specs.Endian.{big_number}
use Rattle.packet_headers.specs.declared.items.ItemKind.{ItemKind}
use Rattle.packet_headers.specs.declared.items.ItemKind.TheVariants as kind
use Rattle.packet_headers.specs.declared.fields.Field.{Field}
use Rattle.packet_headers.specs.declared.fields.FieldPlace.{FieldPlace}
use Rattle.packet_headers.specs.declared.fields.FieldPlace.TheVariants.{Bytes, Bits, TagFollows}

-- a field: its word, the width of its number, its default mask, and where its number stands
pub record FieldOf : Type 0 where
  pub word : List ℕ
  pub bits : ℕ
  pub default_mask : ℕ
  pub place : FieldPlace

-- a field whose default mask is all ones, and one whose default mask is 0
abbrev pub matched : List ℕ → ℕ → FieldPlace → FieldOf
matched word bits place = record { word = word; bits = bits; default_mask = 2 ^ bits - 1; place = place }

abbrev pub ignored : List ℕ → ℕ → FieldPlace → FieldOf
ignored word bits place = record { word = word; bits = bits; default_mask = 0; place = place }

abbrev pub fields_of : ItemKind → List FieldOf
fields_of kind.Void = []
fields_of kind.Eth =
    matched (codes "dst") 48 (Bytes 0 6)
    ∷ matched (codes "src") 48 (Bytes 6 6)
    ∷ ignored (codes "type") 16 (Bytes 12 2)
    ∷ ignored (codes "has_vlan") 1 TagFollows
    ∷ []
fields_of kind.Vlan =
    ignored (codes "pcp") 3 (Bits 0 2 13)
    ∷ ignored (codes "dei") 1 (Bits 0 2 12)
    ∷ matched (codes "vid") 12 (Bits 0 2 0)
    ∷ ignored (codes "inner_type") 16 (Bytes 2 2)
    ∷ ignored (codes "has_more_vlan") 1 TagFollows
    ∷ []
fields_of kind.Ipv4 =
    ignored (codes "tos") 8 (Bytes 1 1)
    ∷ ignored (codes "ttl") 8 (Bytes 8 1)
    ∷ ignored (codes "proto") 8 (Bytes 9 1)
    ∷ matched (codes "src") 32 (Bytes 12 4)
    ∷ matched (codes "dst") 32 (Bytes 16 4)
    ∷ []
fields_of kind.Ipv6 =
    ignored (codes "tc") 8 (Bits 0 4 20)
    ∷ ignored (codes "flow") 20 (Bits 0 4 0)
    ∷ ignored (codes "proto") 8 (Bytes 6 1)
    ∷ ignored (codes "hop") 8 (Bytes 7 1)
    ∷ matched (codes "src") 128 (Bytes 8 16)
    ∷ matched (codes "dst") 128 (Bytes 24 16)
    ∷ []
fields_of kind.Tcp =
    matched (codes "src") 16 (Bytes 0 2)
    ∷ matched (codes "dst") 16 (Bytes 2 2)
    ∷ ignored (codes "flags") 8 (Bytes 13 1)
    ∷ []
fields_of kind.Udp =
    matched (codes "src") 16 (Bytes 0 2)
    ∷ matched (codes "dst") 16 (Bytes 2 2)
    ∷ []
fields_of kind.Vxlan =
    matched (codes "vni") 24 (Bytes 4 3)
    ∷ []

-- what the table in the code says
abbrev pub told : Field → FieldOf
told f = record { word = f.word.now; bits = f.bits; default_mask = f.default_mask; place = f.place }

-- the number in `count` bytes from byte `from` on, the highest first
unfoldable pub number_at : ℕ → ℕ → List ℕ → ℕ
number_at from count bytes = big_number count (drop from bytes)

-- 1 for true and 0 for false
abbrev pub number_of : Bool → ℕ
number_of true = 1
number_of false = 0

-- the number of a field of `bits` bits in a header, behind which a VLAN layer follows or not
abbrev pub number_in : ℕ → Bool → List ℕ → FieldPlace → ℕ
number_in bits tag_follows header (Bytes from count) = number_at from count header
number_in bits tag_follows header (Bits from count shift) = number_at from count header / 2 ^ shift % 2 ^ bits
number_in bits tag_follows header TagFollows = number_of tag_follows

-- the numbers of a header's fields
abbrev pub numbers_in : List FieldOf → Bool → List ℕ → List ℕ
numbers_in fields tag_follows header = map (λ (f : FieldOf). number_in f.bits tag_follows header f.place) fields

-- six numbers: these, and 0 behind them
abbrev pub padded : List ℕ → List ℕ
padded v = v ++ replicate (6 - length v) 0
