-- The layers of a frame are apart, and the first one of some kinds is one of them.
use Rattle.std.proofs.Common.{◌≡◌, ℕ, ◌+◌, ◌≤◌, ◌⊎◌, inl, inr, Bool, true, false, if◌then◌else◌, is_some, Option, Some, None, List, [], ◌∷◌, map, refl, sym, ap, ◌∙◌, subst, unwrap_or, arith}
use Rattle.std.proofs.lemmas.Bool.{cond_both}
use Rattle.packet_headers.specs.declared.items.ItemKind.{ItemKind}
use Rattle.packet_headers.specs.declared.items.ItemKind.TheVariants as kind
use Rattle.packet_headers.specs.declared.items.LayerAt.{LayerAt}
use Rattle.packet_headers.specs.declared.edits.Edit.{Edit}
use Rattle.packet_headers.specs.Key.{is_of}
use Rattle.packet_headers.specs.Layers.{header_len, LieWithin}
use Rattle.header_edit.specs.Field.{Field, field_in, has_field}
use Rattle.header_edit.specs.Layers.{first, with_field, edited, edit_layers, place_of}

abbrev pub Member : LayerAt → List LayerAt → Type 0
Member l [] = ⊥
Member l (x ∷ xs) = (l ≡ x) ⊎ Member l xs

-- where a header ends
abbrev pub end_of : LayerAt → ℕ
end_of l = l.offset + header_len l.layer.kind

abbrev pub Apart : LayerAt → LayerAt → Type 0
Apart l m = (end_of l ≤ m.offset) ⊎ (end_of m ≤ l.offset)

pub member-lies : (from end : ℕ) (l : LayerAt) (ls : List LayerAt) → LieWithin from end ls → Member l ls → (from ≤ l.offset) × (end_of l ≤ end)
member-lies from end l [] h m = absurd m
member-lies from end l (x ∷ xs) h (inl e) = subst (λ y. (from ≤ y.offset) × (end_of y ≤ end)) (sym e) (h.0, h.1)
member-lies from end l (x ∷ xs) h (inr m) =
    let w = member-lies (end_of x) end l xs h.2 m in
    (omega arith, w.1)

pub member-apart : (from end : ℕ) (l m : LayerAt) (ls : List LayerAt) → LieWithin from end ls → Member l ls → Member m ls → (l ≡ m) ⊎ Apart l m
member-apart from end l m [] h p q = absurd p
member-apart from end l m (x ∷ xs) h (inl e) (inl f) = inl (e ∙ sym f)
member-apart from end l m (x ∷ xs) h (inl e) (inr q) = inr (inl (subst (λ y. end_of y ≤ m.offset) (sym e) (member-lies (end_of x) end m xs h.2 q).0))
member-apart from end l m (x ∷ xs) h (inr p) (inl f) = inr (inr (subst (λ y. end_of y ≤ l.offset) (sym f) (member-lies (end_of x) end l xs h.2 p).0))
member-apart from end l m (x ∷ xs) h (inr p) (inr q) = member-apart (end_of x) end l m xs h.2 p q

-- the first layer of some kinds is one of the layers, and of one of these kinds
pub first-member : (kinds : ItemKind → Bool) (ls : List LayerAt) (l : LayerAt) → first kinds ls ≡ Some l → Member l ls × (kinds l.layer.kind ≡ true)
first-member kinds [] l h = absurd (cc)
first-member kinds (x ∷ xs) l h =
    let Q : Bool → Type 0 = λ b. (if b then None else (if kinds x.layer.kind then Some x else first kinds xs)) ≡ Some l → Member l (x ∷ xs) × (kinds l.layer.kind ≡ true) in
    let R : Bool → Type 0 = λ b. kinds x.layer.kind ≡ b → (if b then Some x else first kinds xs) ≡ Some l → Member l (x ∷ xs) × (kinds l.layer.kind ≡ true) in
    let inner : (b : Bool) → R b = λ b. elim b as R [
      | true ↦ λ is e.
          let same : x ≡ l = ap (λ o. unwrap_or o x) e in
          (inl (sym same), subst (λ y. kinds y.layer.kind ≡ true) same is)
      | false ↦ λ is e. let w = first-member kinds xs l e in (inr w.0, w.1)
    ] in
    let outer : (b : Bool) → Q b = λ b. elim b as Q [
      | true ↦ λ e. absurd (cc)
      | false ↦ inner (kinds x.layer.kind) refl
    ] in
    outer (is_of kind.Vxlan x) h

-- an edit whose field no layer has changes none
pub edit_layers-none : (e : Edit) (ls : List LayerAt) → first (has_field e) ls ≡ None → edit_layers e ls ≡ ls
edit_layers-none e [] h = refl
edit_layers-none e (x ∷ xs) h =
    let Q : Bool → Type 0 = λ b. (if b then None else (if has_field e x.layer.kind then Some x else first (has_field e) xs)) ≡ None
    → (if b then x ∷ xs else (if has_field e x.layer.kind then edited e x ∷ xs else x ∷ edit_layers e xs)) ≡ x ∷ xs in
    let R : Bool → Type 0 = λ b. (if b then Some x else first (has_field e) xs) ≡ None
    → (if b then edited e x ∷ xs else x ∷ edit_layers e xs) ≡ x ∷ xs in
    let inner : (b : Bool) → R b = λ b. elim b as R [
      | true ↦ λ p. absurd (cc)
      | false ↦ λ p. ap (λ ys. x ∷ ys) (edit_layers-none e xs p)
    ] in
    let outer : (b : Bool) → Q b = λ b. elim b as Q [
      | true ↦ λ p. refl
      | false ↦ inner (has_field e x.layer.kind)
    ] in
    outer (is_of kind.Vxlan x) h

-- an edit changes no kind and no offset
edited-stands : (e : Edit) (l : LayerAt) → ((edited e l).offset ≡ l.offset) × (header_len (edited e l).layer.kind ≡ header_len l.layer.kind)
edited-stands e l =
    let P : Option Field → Type 0 = λ f. ((with_field e l f).offset ≡ l.offset) × (header_len (with_field e l f).layer.kind ≡ header_len l.layer.kind) in
    let all : (f : Option Field) → P f = λ f. elim f as P [ None ↦ (refl, refl) | Some x ↦ (refl, refl) ] in
    all (field_in e l.layer.kind)

pub place_of-edit_layers : (e : Edit) (ls : List LayerAt) → map place_of (edit_layers e ls) ≡ map place_of ls
place_of-edit_layers e [] = refl
place_of-edit_layers e (x ∷ xs) =
    let P : List LayerAt → Type 0 = λ ys. map place_of ys ≡ place_of x ∷ map place_of xs in
    let Q : Option Field → Type 0 = λ f. place_of (with_field e x f) ≡ place_of x in
    let all : (f : Option Field) → Q f = λ f. elim f as Q [ None ↦ refl | Some y ↦ refl ] in
    cond_both (is_of kind.Vxlan x) _ _ P (λ _. refl)
    (λ _. cond_both (has_field e x.layer.kind) _ _ P
    (λ _. ap (λ p. p ∷ map place_of xs) (all (field_in e x.layer.kind)))
    (λ _. ap (λ ps. place_of x ∷ ps) (place_of-edit_layers e xs)))

pub LieWithin-edit_layers : (e : Edit) (from end : ℕ) (ls : List LayerAt) → LieWithin from end ls → LieWithin from end (edit_layers e ls)
LieWithin-edit_layers e from end [] w = tt
LieWithin-edit_layers e from end (x ∷ xs) w =
    let same = edited-stands e x in
    let P : List LayerAt → Type 0 = LieWithin from end in
    let ends : end_of (edited e x) ≡ end_of x = omega (arith, same.0, same.1) in
    cond_both (is_of kind.Vxlan x) _ _ P (λ _. w)
    (λ _. cond_both (has_field e x.layer.kind) _ _ P
    (λ _. (omega (arith, same.0, w.0), omega (arith, ends, w.1), subst (λ n. LieWithin n end xs) (sym ends) w.2))
    (λ _. (w.0, w.1, LieWithin-edit_layers e (end_of x) end xs w.2)))

-- what is there
pub some-of : {A : Type 0} (o : Option A) → is_some o ≡ true → (x : A) × (o ≡ Some x)
some-of None h = absurd (cc)
some-of (Some x) h = (x, refl)
