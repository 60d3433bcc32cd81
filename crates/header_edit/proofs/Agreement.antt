-- After an edit the edited layers show the edited bytes.
use Rattle.std.proofs.Common.{◌≡◌, ℕ, ◌+◌, ◌^◌, ◌<◌, ◌≤◌, ◌⊎◌, inl, inr, Bool, true, false, if◌then◌else◌, unwrap_or, Option, Some, None, List, [], ◌∷◌, length, drop, refl, sym, ap, ◌∙◌, subst, arith}
use Rattle.std.proofs.lemmas.List.Elements.{All-from_recursion, recursion_from_All, All-drop}
use Rattle.std.specs.List.{AllByRecursion}
use Rattle.byteorder.specs.Endian.{big_from, big_bytes}
use Rattle.packet_headers.specs.declared.items.ItemKind.{ItemKind}
use Rattle.packet_headers.specs.declared.items.ItemKind.TheVariants as kind
use Rattle.packet_headers.specs.declared.items.LayerAt.{LayerAt}
use Rattle.packet_headers.specs.declared.edits.Edit.{Edit}
use Rattle.packet_headers.specs.Fields.{number_at}
use Rattle.packet_headers.specs.Key.{is_of}
use Rattle.packet_headers.specs.Layers.{header, header_len, LieWithin}
use Rattle.header_edit.specs.Field.{FitsField, Field, field_in, has_field, new_words}
use Rattle.header_edit.specs.Layers.{first, is_transport, edited, edit_layers}
use Rattle.header_edit.specs.Frame.{bytes_at, put, with_checksums, covering, with_words, edit_layer, edit_bytes}
use Rattle.header_edit.specs.Shown.{AreBytes, Shows, AllShow}
use Rattle.header_edit.proofs.ByteLists.{AreBytes-big_bytes, AreBytes-put, AreBytes-with_checksums}
use Rattle.header_edit.proofs.Checksums.{HaveChecksums, Rooms-layers, Clear-layers, length-with_checksums, with_checksums-clear, covering-have}
use Rattle.header_edit.proofs.FieldPlaces.{field-lies, new_words-fits}
use Rattle.header_edit.proofs.EditedHeader.{SameBut, IsNew, edited-header}
use Rattle.header_edit.proofs.HeaderNumbers.{IsOff, header-same}
use Rattle.header_edit.proofs.Members.{Member, end_of, member-lies, first-member, edit_layers-none, some-of}
use Rattle.header_edit.proofs.Numbers.{number_at-bytes, number_at-drop, number_at-put_apart, number_at-put_same, number_at-fits, length-big_bytes}

-- numbers of one header in two frames
same-numbers : (o from count : ℕ) (xs ys : List ℕ) → number_at (o + from) count xs ≡ number_at (o + from) count ys
    → number_at from count (drop o xs) ≡ number_at from count (drop o ys)
same-numbers o from count xs ys h = number_at-drop o from count xs ∙ (h ∙ sym (number_at-drop o from count ys))

-- a layer shows another frame whose bytes of this header hold the same numbers
shows-same : (m : LayerAt) (xs ys : List ℕ)
    → ((from count : ℕ) → from + count ≤ header_len m.layer.kind → IsOff m.layer.kind from count → number_at (m.offset + from) count xs ≡ number_at (m.offset + from) count ys)
    → Shows xs m → Shows ys m
shows-same m xs ys h s = (
  s.0,
  s.1 ∙ header-same m.layer.kind m.offset s.0 (drop m.offset xs) (drop m.offset ys)
      (λ from count room off. same-numbers m.offset from count xs ys (h from count room off)),
)

pub shows-header : (k : ItemKind) (o : ℕ) (b : Bool) (frame : List ℕ) → Shows frame (header k o b (drop o frame))
unfolding header
shows-header k o b frame = (b, refl)

-- ---- the frame with its checksums mended

module _ (ls ss : List LayerAt) (old new frame : List ℕ) (within : LieWithin 0 (length frame) ls) (have : HaveChecksums ls ss) where
  mended-length : length (with_checksums ss old new frame) ≡ length frame
  mended-length = length-with_checksums ss old new frame (Rooms-layers (length frame) ls ss within have)

  mended-number : (m : LayerAt) → Member m ls → (from count : ℕ) → from + count ≤ header_len m.layer.kind → IsOff m.layer.kind from count
      → number_at (m.offset + from) count frame ≡ number_at (m.offset + from) count (with_checksums ss old new frame)
  mended-number m in-ls from count room off =
      let same = with_checksums-clear ss (m.offset + from) count old new frame (Rooms-layers (length frame) ls ss within have) (Clear-layers (length frame) from count m ls ss within have in-ls room off) in
      number_at-bytes (m.offset + from) count frame
      ∙ (ap (big_from 0 count) (sym same) ∙ sym (number_at-bytes (m.offset + from) count (with_checksums ss old new frame)))

  mended-shows : (m : LayerAt) → Member m ls → Shows frame m → Shows (with_checksums ss old new frame) m
  mended-shows m in-ls s = shows-same m frame (with_checksums ss old new frame) (mended-number m in-ls) s

  mended-all : (xs : List LayerAt) → ((m : LayerAt) → Member m xs → Member m ls) → AllByRecursion (Shows frame) xs → AllByRecursion (Shows (with_checksums ss old new frame)) xs
  mended-all [] sub h = tt
  mended-all (x ∷ xs) sub h = (mended-shows x (sub x (inl refl)) h.0, mended-all xs (λ m q. sub m (inr q)) h.1)

-- ---- the frame with the field written

module _ (place : ℕ) (new frame : List ℕ) (room : place + length new ≤ length frame) where
  -- a header that the write leaves alone
  written-other : (m : LayerAt) → (end_of m ≤ place) ⊎ (place + length new ≤ m.offset) → Shows frame m → Shows (put place new frame) m
  written-other m apart s =
      shows-same m frame (put place new frame)
      (λ from count fits off.
      let here : (m.offset + from + count ≤ place) ⊎ (place + length new ≤ m.offset + from) = elim apart [ inl h ↦ inl (omega arith) | inr h ↦ inr (omega arith) ] in
      sym (number_at-put_apart (m.offset + from) count place new frame here room)) s

  -- the headers behind it
  written-behind : (from end : ℕ) (xs : List LayerAt) → place + length new ≤ from → LieWithin from end xs → AllByRecursion (Shows frame) xs
      → AllByRecursion (Shows (put place new frame)) xs
  written-behind from end [] h w s = tt
  written-behind from end (x ∷ xs) h w s =
      (written-other x (inr (omega (arith, w.0))) s.0, written-behind (end_of x) end xs (omega (arith, w.0)) w.2 s.1)

  -- the layers of which one is edited
  written-edited : (e : Edit) (l : LayerAt) (from end : ℕ) (xs : List LayerAt) → LieWithin from end xs → first (has_field e) xs ≡ Some l
      → l.offset ≤ place → place + length new ≤ end_of l → Shows (put place new frame) (edited e l)
      → AllByRecursion (Shows frame) xs → AllByRecursion (Shows (put place new frame)) (edit_layers e xs)
  written-edited e l from end [] w h low high done s = tt
  written-edited e l from end (x ∷ xs) w h low high done s =
      let T : List LayerAt → Type 0 = λ zs. AllByRecursion (Shows (put place new frame)) zs in
      let Q : Bool → Type 0 = λ b. (if b then None else (if has_field e x.layer.kind then Some x else first (has_field e) xs)) ≡ Some l
      → T (if b then x ∷ xs else (if has_field e x.layer.kind then edited e x ∷ xs else x ∷ edit_layers e xs)) in
      let R : Bool → Type 0 = λ b. (if b then Some x else first (has_field e) xs) ≡ Some l
      → T (if b then edited e x ∷ xs else x ∷ edit_layers e xs) in
      let inner : (b : Bool) → R b = λ b. elim b as R [
        | true ↦ λ p.
            let same : x ≡ l = ap (λ o. unwrap_or o x) p in
            let ends : place + length new ≤ end_of x = subst (λ y. place + length new ≤ end_of y) (sym same) high in
            (subst (λ y. Shows (put place new frame) (edited e y)) (sym same) done, written-behind (end_of x) end xs ends w.2 s.1)
        | false ↦ λ p.
            let in-xs = (first-member (has_field e) xs l p).0 in
            let behind = member-lies (end_of x) end l xs w.2 in-xs in
            (written-other x (inl (omega (arith, behind.0))) s.0, written-edited e l (end_of x) end xs w.2 p low high done s.1)
      ] in
      let outer : (b : Bool) → Q b = λ b. elim b as Q [
        | true ↦ λ p. absurd (cc)
        | false ↦ inner (has_field e x.layer.kind)
      ] in
      outer (is_of kind.Vxlan x) h

-- ---- an edit

member-all : (P : LayerAt → Type 0) (m : LayerAt) (xs : List LayerAt) → Member m xs → AllByRecursion P xs → P m
member-all P m [] q h = absurd q
member-all P m (x ∷ xs) (inl e) h = subst P (sym e) h.0
member-all P m (x ∷ xs) (inr q) h = member-all P m xs q h.1

words-agree : (e : Edit) (ls : List LayerAt) (frame : List ℕ) (l : LayerAt) (t : Option LayerAt) (f : Field)
    → FitsField e → AreBytes frame → LieWithin 0 (length frame) ls → AllByRecursion (Shows frame) ls
    → first (has_field e) ls ≡ Some l → first is_transport ls ≡ t → field_in e l.layer.kind ≡ Some f
    → AllByRecursion (Shows (with_words e l t (Some f) frame)) (edit_layers e ls)
words-agree e ls frame l t f fits bytes within shown is-first is-t is-f =
    let k = l.layer.kind in
    let o = l.offset in
    let place = o + f.from in
    let value = new_words e k (number_at place f.count frame) in
    let new = big_bytes f.count value in
    let ss = covering e l t in
    let old = bytes_at place (length new) frame in
    let mid = with_checksums ss old new frame in
    let result = put place new mid in
    let in-ls = (first-member (has_field e) ls l is-first).0 in
    let have = covering-have e l ls t in-ls is-t in
    let w = member-lies 0 (length frame) l ls within in-ls in
    let r = field-lies e k f is-f in
    let len : length new ≡ f.count = length-big_bytes f.count value in
    let same-len : length mid ≡ length frame = mended-length ls ss old new frame within have in
    let room : place + length new ≤ length mid = omega (arith, w.1, r.0) in
    let s : Shows mid l = mended-shows ls ss old new frame within have l in-ls (member-all (Shows frame) l ls in-ls shown) in
    let but : SameBut f k (drop o mid) (drop o result) = λ from count fit off apart.
    let here : (o + from + count ≤ place) ⊎ (place + length new ≤ o + from) = elim apart [ inl h ↦ inl (omega arith) | inr h ↦ inr (omega arith) ] in
    same-numbers o from count mid result (sym (number_at-put_apart (o + from) count place new mid here room)) in
    let kept : number_at place f.count frame ≡ number_at f.from f.count (drop o mid) =
    mended-number ls ss old new frame within have l in-ls f.from f.count r.0 r.1 ∙ sym (number_at-drop o f.from f.count mid) in
    let value-fits : value < 256 ^ f.count = new_words-fits e k f is-f fits (number_at place f.count frame) (number_at-fits place f.count frame bytes) in
    let is-new : IsNew e k f (drop o mid) (drop o result) =
    number_at-drop o f.from f.count result
    ∙ (number_at-put_same place f.count value mid (omega arith) value-fits ∙ ap (new_words e k) kept) in
    let mid-bytes : AreBytes mid = AreBytes-with_checksums ss old new frame bytes in
    let result-bytes : AreBytes result = AreBytes-put place new mid (AreBytes-big_bytes f.count value) mid-bytes in
    let eq : edited e l ≡ header k o s.0 (drop o result) =
    ap (edited e) s.1 ∙ edited-header e k f is-f o s.0 (drop o mid) (drop o result) fits (All-drop (λ b. b < 256) o mid mid-bytes) (All-drop (λ b. b < 256) o result result-bytes) but is-new in
    let done : Shows result (edited e l) = subst (Shows result) (sym eq) (shows-header k o s.0 result) in
    written-edited place new mid room e l 0 (length frame) ls within is-first (omega arith) (omega (arith, r.0)) done
    (mended-all ls ss old new frame within have ls (λ m q. q) shown)

layer-agrees : (e : Edit) (ls : List LayerAt) (frame : List ℕ) (o t : Option LayerAt)
    → FitsField e → AreBytes frame → LieWithin 0 (length frame) ls → AllByRecursion (Shows frame) ls
    → first (has_field e) ls ≡ o → first is_transport ls ≡ t
    → AllByRecursion (Shows (edit_layer e o t frame)) (edit_layers e ls)
layer-agrees e ls frame None t fits bytes within shown is-first is-t =
    subst (λ xs. AllByRecursion (Shows frame) xs) (sym (edit_layers-none e ls is-first)) shown
layer-agrees e ls frame (Some l) t fits bytes within shown is-first is-t =
    let f = some-of (field_in e l.layer.kind) (first-member (has_field e) ls l is-first).1 in
    subst (λ x. AllByRecursion (Shows (with_words e l t x frame)) (edit_layers e ls)) (sym f.1)
    (words-agree e ls frame l t f.0 fits bytes within shown is-first is-t f.1)

pub edits-agree : (e : Edit) (ls : List LayerAt) (frame : List ℕ) → FitsField e → AreBytes frame → LieWithin 0 (length frame) ls
    → AllShow frame ls → AllShow (edit_bytes e ls frame) (edit_layers e ls)
unfolding edit_bytes
edits-agree e ls frame fits bytes within shown =
    All-from_recursion (Shows (edit_bytes e ls frame)) (edit_layers e ls)
    (layer-agrees e ls frame (first (has_field e) ls) (first is_transport ls) fits bytes within (recursion_from_All (Shows frame) ls shown) refl refl)
