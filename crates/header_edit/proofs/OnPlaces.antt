-- An edit of bytes takes of the layers their kinds and offsets alone.
use Rattle.std.proofs.Common.{◌≡◌, ℕ, Bool, true, false, if◌then◌else◌, Option, Some, None, List, [], ◌∷◌, ◌++◌, ◌+◌, length, map, refl, sym, ap, ◌∙◌}
use Rattle.std.specs.Option.{option_to_list, option_map}
use Rattle.packet_headers.specs.declared.items.ItemKind.{ItemKind}
use Rattle.packet_headers.specs.declared.items.ItemKind.TheVariants as kind
use Rattle.packet_headers.specs.declared.items.LayerAt.{LayerAt}
use Rattle.packet_headers.specs.declared.edits.Edit.{Edit}
use Rattle.byteorder.specs.Endian.{big_bytes}
use Rattle.packet_headers.specs.Fields.{number_at}
use Rattle.packet_headers.specs.Key.{is_of}
use Rattle.header_edit.specs.Field.{Field, field_in, has_field, new_words, is_in_transport_sum}
use Rattle.header_edit.specs.Layers.{first, is_transport, place_of}
use Rattle.header_edit.specs.Frame.{bytes_at, put, with_checksum, with_checksums, covering, changed, with_words, edit_layer, edit_bytes}

-- a layer of this kind at this offset, with no numbers
abbrev bare_at : ItemKind × ℕ → LayerAt
bare_at p = record { layer = record { kind = p.0; v = [] }; offset = p.1 }

abbrev bare : LayerAt → LayerAt
bare l = bare_at (place_of l)

first-bare : (kinds : ItemKind → Bool) (ls : List LayerAt) → first kinds (map bare ls) ≡ option_map bare (first kinds ls)
first-bare kinds [] = refl
first-bare kinds (l ∷ ls) =
    let Q : Bool → Type 0 = λ b. (if b then None else (if kinds l.layer.kind then Some (bare l) else first kinds (map bare ls)))
    ≡ option_map bare (if b then None else (if kinds l.layer.kind then Some l else first kinds ls)) in
    let R : Bool → Type 0 = λ b. (if b then Some (bare l) else first kinds (map bare ls)) ≡ option_map bare (if b then Some l else first kinds ls) in
    let inner : (b : Bool) → R b = λ b. elim b as R [ true ↦ refl | false ↦ first-bare kinds ls ] in
    let outer : (b : Bool) → Q b = λ b. elim b as Q [ true ↦ refl | false ↦ inner (kinds l.layer.kind) ] in
    outer (is_of kind.Vxlan l)

with_checksums-bare : (ls : List LayerAt) (old new frame : List ℕ) → with_checksums (map bare ls) old new frame ≡ with_checksums ls old new frame
with_checksums-bare [] old new frame = refl
with_checksums-bare (l ∷ ls) old new frame = with_checksums-bare ls old new (with_checksum l.layer.kind l.offset old new frame)

covering-bare : (e : Edit) (l : LayerAt) (t : Option LayerAt) → covering e (bare l) (option_map bare t) ≡ map bare (covering e l t)
covering-bare e l t =
    let P : Bool → Bool → Option LayerAt → Type 0 = λ a b o.
    (if a then bare l ∷ [] else []) ++ (if b then option_to_list (option_map bare o) else [])
    ≡ map bare ((if a then l ∷ [] else []) ++ (if b then option_to_list o else [])) in
    let at : (a b : Bool) (o : Option LayerAt) → P a b o = λ a b o.
    elim a as (λ a. P a b o) [
      | true ↦ elim b as (λ b. P true b o) [
        | true ↦ elim o as (λ o. P true true o) [ None ↦ refl | Some x ↦ refl ]
        | false ↦ refl
      ]
      | false ↦ elim b as (λ b. P false b o) [
        | true ↦ elim o as (λ o. P false true o) [ None ↦ refl | Some x ↦ refl ]
        | false ↦ refl
      ]
    ] in
    at (is_of kind.Ipv4 l) (is_in_transport_sum e) t

with_words-bare : (e : Edit) (l : LayerAt) (t : Option LayerAt) (f : Option Field) (frame : List ℕ)
    → with_words e (bare l) (option_map bare t) f frame ≡ with_words e l t f frame
with_words-bare e l t None frame = refl
with_words-bare e l t (Some f) frame =
    let place = l.offset + f.from in
    let new = big_bytes f.count (new_words e l.layer.kind (number_at place f.count frame)) in
    ap (λ ss. changed place new ss frame) (covering-bare e l t)
    ∙ ap (put place new) (with_checksums-bare (covering e l t) (bytes_at place (length new) frame) new frame)

edit_layer-bare : (e : Edit) (o t : Option LayerAt) (frame : List ℕ) → edit_layer e (option_map bare o) (option_map bare t) frame ≡ edit_layer e o t frame
edit_layer-bare e None t frame = refl
edit_layer-bare e (Some l) t frame = with_words-bare e l t (field_in e l.layer.kind) frame

edit_bytes-bare : (e : Edit) (ls : List LayerAt) (frame : List ℕ) → edit_bytes e (map bare ls) frame ≡ edit_bytes e ls frame
unfolding edit_bytes
edit_bytes-bare e ls frame =
    ap (λ o. edit_layer e o (first is_transport (map bare ls)) frame) (first-bare (has_field e) ls)
    ∙ (ap (λ t. edit_layer e (option_map bare (first (has_field e) ls)) t frame) (first-bare is_transport ls)
    ∙ edit_layer-bare e (first (has_field e) ls) (first is_transport ls) frame)

map-bare : (ls : List LayerAt) → map bare ls ≡ map bare_at (map place_of ls)
map-bare [] = refl
map-bare (l ∷ ls) = ap (λ ms. bare l ∷ ms) (map-bare ls)

pub edit_bytes-places : (e : Edit) (ls others : List LayerAt) (frame : List ℕ) → map place_of others ≡ map place_of ls
    → edit_bytes e others frame ≡ edit_bytes e ls frame
edit_bytes-places e ls others frame h =
    sym (edit_bytes-bare e others frame)
    ∙ (ap (λ ms. edit_bytes e ms frame) (map-bare others ∙ ap (map bare_at) h ∙ sym (map-bare ls)) ∙ edit_bytes-bare e ls frame)
