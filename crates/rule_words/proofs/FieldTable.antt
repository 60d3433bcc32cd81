-- The field table: at most six fields of a kind, none wider than 128 bits.
use Rattle.std.proofs.Common.{◌≡◌, ℕ, ◌<◌, ◌≤◌, leb, eqb, cond, true, false, Bool, List, length, map, get_or, refl, arith, sym, ap, ◌∙◌, lit≤}
use Rattle.std.specs.List.{list_all}
use Rattle.std.proofs.Math.ListN.{get_or-map}
use Rattle.std.proofs.lemmas.Bool.{leb-true}
use Rattle.std.proofs.lemmas.List.{length-map}
use Rattle.std.proofs.lemmas.List.Sums.{AllPass-from_list_all}
use Rattle.packet_headers.specs.declared.items.ItemKind.{ItemKind}
use Rattle.packet_headers.specs.declared.items.ItemKind.TheVariants as kind
use Rattle.packet_headers.specs.declared.fields.Field.{Field}
use Rattle.packet_headers.specs.Fields.{FieldOf, fields_of, told}
use Rattle.rule_words.specs.declared.address.Address.TheVariants as address
use Rattle.rule_words.specs.declared.value.Form.TheVariants as forms
use Rattle.rule_words.specs.Value.{width_of}
use Rattle.rule_words.specs.FieldWords.{form_of}

few_fields : (k : ItemKind) → length (fields_of k) ≤ 6
few_fields kind.Void = lit≤ tt
few_fields kind.Eth = lit≤ tt
few_fields kind.Vlan = lit≤ tt
few_fields kind.Ipv4 = lit≤ tt
few_fields kind.Ipv6 = lit≤ tt
few_fields kind.Tcp = lit≤ tt
few_fields kind.Udp = lit≤ tt
few_fields kind.Vxlan = lit≤ tt

abbrev fits : FieldOf → Bool
fits f = leb f.bits 128

all_fit : (k : ItemKind) → list_all fits (fields_of k) ≡ true
all_fit kind.Void = refl
all_fit kind.Eth = refl
all_fit kind.Vlan = refl
all_fit kind.Ipv4 = refl
all_fit kind.Ipv6 = refl
all_fit kind.Tcp = refl
all_fit kind.Udp = refl
all_fit kind.Vxlan = refl

-- the value of a field has the field's bits
narrow_form : (bits : ℕ) → bits ≤ 128 → width_of (form_of bits) ≤ 128
narrow_form bits narrow =
    elim (eqb bits 48) as (λ b. width_of (cond b (forms.Address address.Mac) (cond (eqb bits 32) (forms.Address address.Ip4) (cond (eqb bits 128) (forms.Address address.Ip6) (forms.Number bits)))) ≤ 128) [
      | true ↦ lit≤ tt
      | false ↦ elim (eqb bits 32) as (λ b. width_of (cond b (forms.Address address.Ip4) (cond (eqb bits 128) (forms.Address address.Ip6) (forms.Number bits))) ≤ 128) [
        | true ↦ lit≤ tt
        | false ↦ elim (eqb bits 128) as (λ b. width_of (cond b (forms.Address address.Ip6) (forms.Number bits)) ≤ 128) [ true ↦ lit≤ tt | false ↦ narrow ]
      ]
    ]

pub in_item : (fields : List Field) (k : ItemKind) (i : ℕ) (d : Field) → map told fields ≡ fields_of k → i < length fields
    → (i < 6) × ((get_or fields i d).bits ≤ 128) × (width_of (form_of (get_or fields i d).bits) ≤ 128)
in_item fields k i d are within =
    let few : length fields ≤ 6 = omega (arith, few_fields k, ap length are, length-map fields told) in
    let all = AllPass-from_list_all fits (map told fields) (ap (list_all fits) are ∙ all_fit k) in
    let field : get_or (map told fields) i (told d) ≡ told (get_or fields i d) = get_or-map told fields i d in
    let narrow : leb (get_or (map told fields) i (told d)).bits 128 ≡ true = all i (told d) (omega (arith, within, length-map fields told)) in
    let few_bits : (get_or fields i d).bits ≤ 128 = leb-true (get_or fields i d).bits 128 (ap (λ (f : FieldOf). leb f.bits 128) (sym field) ∙ narrow) in
    (omega arith, few_bits, narrow_form (get_or fields i d).bits few_bits)
