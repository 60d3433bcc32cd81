-- The fields of a kind, and their default masks.
use Rattle.std.proofs.Common.{◌≡◌, ℕ, ◌-◌, ◌<◌, ◌≤◌, zero, suc, length, map, replicate, List, [], ◌∷◌, ◌++◌, refl, sym, ◌∙◌, ap, arith, get_or, lit≤}
use Rattle.std.proofs.lemmas.List.{length-map}
use Rattle.packet_headers.specs.declared.items.ItemKind.{ItemKind}
use Rattle.packet_headers.specs.declared.items.ItemKind.TheVariants as kind
use Rattle.packet_headers.specs.declared.fields.Field.{Field}
use Rattle.packet_headers.specs.Fields.{FieldOf, fields_of, told}
use Rattle.pattern_items.specs.Conditions.{default_masks}

pub few : (k : ItemKind) → length (fields_of k) ≤ 6
few kind.Void = lit≤ tt
few kind.Eth = lit≤ tt
few kind.Vlan = lit≤ tt
few kind.Ipv4 = lit≤ tt
few kind.Ipv6 = lit≤ tt
few kind.Tcp = lit≤ tt
few kind.Udp = lit≤ tt
few kind.Vxlan = lit≤ tt

-- the table in the code is as long as the one that it is
pub fields_few : (k : ItemKind) (fields : List Field) → map told fields ≡ fields_of k → (length fields ≡ length (fields_of k)) × (length (fields_of k) ≤ 6)
fields_few k fields e = (sym (length-map fields told) ∙ ap length e, few k)

pub zeros : (n i : ℕ) → ◌≡◌ {A = ℕ} (get_or (replicate n 0) i 0) 0
zeros zero i = refl
zeros (suc n) zero = refl
zeros (suc n) (suc i) = zeros n i

get_or-zeros : (v : List ℕ) (n i : ℕ) → ◌≡◌ {A = ℕ} (get_or (v ++ replicate n 0) i 0) (get_or v i 0)
get_or-zeros [] n i = zeros n i
get_or-zeros (x ∷ v) n zero = refl
get_or-zeros (x ∷ v) n (suc i) = get_or-zeros v n i

get_or-told : (fields : List Field) (i : ℕ) (d : Field) → i < length fields → (get_or fields i d).default_mask ≡ get_or (map (λ (f : FieldOf). f.default_mask) (map told fields)) i 0
get_or-told [] i d h = absurd (omega arith)
get_or-told (f ∷ fields) zero d h = refl
get_or-told (f ∷ fields) (suc i) d h = get_or-told fields i d (omega arith)

get_or-past : (fields : List Field) (i : ℕ) → length fields ≤ i → ◌≡◌ {A = ℕ} (get_or (map (λ (f : FieldOf). f.default_mask) (map told fields)) i 0) 0
get_or-past [] i h = refl
get_or-past (f ∷ fields) zero h = absurd (omega arith)
get_or-past (f ∷ fields) (suc i) h = get_or-past fields i (omega arith)

default_masks_told : (k : ItemKind) (fields : List Field) (i : ℕ) → map told fields ≡ fields_of k
    → get_or (map (λ (f : FieldOf). f.default_mask) (map told fields)) i 0 ≡ get_or (default_masks k) i 0
default_masks_told k fields i e =
    let v = map (λ (f : FieldOf). f.default_mask) (fields_of k) in
    ap (λ (t : List FieldOf). get_or (map (λ (f : FieldOf). f.default_mask) t) i 0) e ∙ sym (get_or-zeros v (6 - length v) i)

-- the mask in the table is the default mask, and 0 behind the table's end
pub default_mask_at : (k : ItemKind) (fields : List Field) (i : ℕ) (d : Field) → map told fields ≡ fields_of k → i < length fields
    → (get_or fields i d).default_mask ≡ get_or (default_masks k) i 0
default_mask_at k fields i d e h = get_or-told fields i d h ∙ default_masks_told k fields i e

pub default_mask_past : (k : ItemKind) (fields : List Field) (i : ℕ) → map told fields ≡ fields_of k → length fields ≤ i → ◌≡◌ {A = ℕ} 0 (get_or (default_masks k) i 0)
default_mask_past k fields i e h = sym (get_or-past fields i h) ∙ default_masks_told k fields i e
