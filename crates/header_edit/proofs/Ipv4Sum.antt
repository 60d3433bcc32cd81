-- An edit leaves the sum over an IPv4 header as it was.
use Rattle.std.proofs.Common.{◌≡◌, ℕ, ◌+◌, ◌%◌, ◌<◌, ◌≤◌, ◌⊎◌, inl, inr, true, nat_eq, if◌then◌else◌, Option, Some, None, List, [], ◌∷◌, ◌++◌, length, drop, refl, sym, ap, ◌∙◌, subst, arith, lit≤}
use Rattle.std.proofs.lemmas.Bool.{cond_both, false≢true}
use Rattle.std.proofs.lemmas.List.Elements.{All-take, All-drop}
use Rattle.std.specs.Option.{option_to_list}
use Rattle.byteorder.specs.Endian.{big_bytes}
use Rattle.packet_headers.specs.declared.items.ItemKind.{ItemKind}
use Rattle.packet_headers.specs.declared.items.ItemKind.TheVariants as kind
use Rattle.packet_headers.specs.declared.items.LayerAt.{LayerAt}
use Rattle.packet_headers.specs.declared.edits.Edit.{Edit}
use Rattle.packet_headers.specs.Fields.{number_at}
use Rattle.packet_headers.specs.Key.{is_of, kind_number}
use Rattle.packet_headers.specs.Layers.{header_len, LieWithin}
use Rattle.header_edit.specs.Checksum.{words_of, ones_sum, mended}
use Rattle.header_edit.specs.Field.{Field, field_in, has_field, new_words, is_in_transport_sum}
use Rattle.header_edit.specs.Layers.{first, is_transport}
use Rattle.header_edit.specs.Frame.{bytes_at, put, with_checksum, with_checksums, covering, with_words, edit_layer, edit_bytes}
use Rattle.header_edit.specs.Shown.{AreBytes}
use Rattle.header_edit.specs.Right.{ipv4_len, BeginsFrom, IsWholeIpv4}
use Rattle.header_edit.proofs.ByteLists.{AreBytes-big_bytes, AreBytes-put}
use Rattle.header_edit.proofs.Checksums.{HaveChecksums, Rooms, Clear, Rooms-layers, checksum-room, length-with_checksums, with_checksums-clear, covering-have}
use Rattle.header_edit.proofs.Congruent.{Same, Same-effect, mended-keeps, sum-same}
use Rattle.header_edit.proofs.FieldPlaces.{field-lies, field-placed}
use Rattle.header_edit.proofs.Effects.{length-bytes_at, bytes_at-inner, number_at-inner, worth-both}
use Rattle.header_edit.proofs.HeaderNumbers.{IsOff}
use Rattle.header_edit.proofs.Members.{Member, end_of, member-lies, first-member, some-of}
use Rattle.header_edit.proofs.Numbers.{number_at-drop, number_at-put_apart, number_at-fits, length-big_bytes}
use Rattle.header_edit.proofs.Puts.{length-put, bytes_at-put_apart, bytes_at-put_around}
use Rattle.header_edit.proofs.Totals.{worth, worth-positive, AreWords-words_of, length-words_of}

-- ---- headers outside the n bytes from p on

abbrev pub Outside : ℕ → ℕ → LayerAt → Type 0
Outside p n m = (end_of m ≤ p) ⊎ (p + n ≤ m.offset)

abbrev pub AllOutside : ℕ → ℕ → List LayerAt → Type 0
AllOutside p n [] = Unit {0}
AllOutside p n (s ∷ ss) = Outside p n s × AllOutside p n ss

AllOutside-append : (p n : ℕ) (ss ts : List LayerAt) → AllOutside p n ss → AllOutside p n ts → AllOutside p n (ss ++ ts)
AllOutside-append p n [] ts h k = k
AllOutside-append p n (s ∷ ss) ts h k = (h.0, AllOutside-append p n ss ts h.1 k)

Clear-outside : (p n : ℕ) (ls ss : List LayerAt) → HaveChecksums ls ss → AllOutside p n ss → Clear p n ss
Clear-outside p n ls [] h k = tt
Clear-outside p n ls (s ∷ ss) h k =
    let r = checksum-room s.layer.kind h.1 in
    let rest = Clear-outside p n ls ss h.2 k.1 in
    elim k.0 [ inl a ↦ (inr (omega arith), rest) | inr a ↦ (inl (omega arith), rest) ]

member-behind : (from end p : ℕ) (m : LayerAt) (ls : List LayerAt) → LieWithin from end ls → BeginsFrom p ls → Member m ls → p ≤ m.offset
member-behind from end p m [] w b q = absurd q
member-behind from end p m (x ∷ xs) w b (inl e) = subst (λ y. p ≤ y.offset) (sym e) b
member-behind from end p m (x ∷ xs) w b (inr q) = let k = member-lies (end_of x) end m xs w.2 q in omega (arith, k.0, b)

member-middle : (before behind : List LayerAt) (h : LayerAt) → Member h (before ++ h ∷ behind)
member-middle [] behind h = inl refl
member-middle (x ∷ xs) behind h = inr (member-middle xs behind h)

-- each layer is this one, or outside it and the options behind it
member-outside : (from end n : ℕ) (before behind : List LayerAt) (h m : LayerAt) → LieWithin from end (before ++ h ∷ behind)
    → BeginsFrom (h.offset + n) behind → Member m (before ++ h ∷ behind) → (m ≡ h) ⊎ Outside h.offset n m
member-outside from end n [] behind h m w b (inl e) = inl e
member-outside from end n [] behind h m w b (inr q) = inr (inr (member-behind (end_of h) end (h.offset + n) m behind w.2 b q))
member-outside from end n (x ∷ xs) behind h m w b (inl e) =
    let k = member-lies (end_of x) end h (xs ++ h ∷ behind) w.2 (member-middle xs behind h) in
    inr (inl (subst (λ y. end_of y ≤ h.offset) (sym e) k.0))
member-outside from end n (x ∷ xs) behind h m w b (inr q) = member-outside (end_of x) end n xs behind h m w.2 b q

-- a transport header isn't one of IPv4
not-ipv4 : (k : ItemKind) → is_transport k ≡ true → k ≡ kind.Ipv4 → ⊥
not-ipv4 k h e = false≢true (ap is_transport (sym e) ∙ h)

is-ipv4 : (k : ItemKind) → k ≡ kind.Ipv4 → nat_eq (kind_number k) 3 ≡ true
is-ipv4 k e = ap (λ x. nat_eq (kind_number x) 3) e

module _ (e : Edit) (before behind : List LayerAt) (h : LayerAt) (frame : List ℕ) (bytes : AreBytes frame)
    (within : LieWithin 0 (length frame) (before ++ h ∷ behind)) (whole : IsWholeIpv4 frame h behind) where
  outside-transport : (t : Option LayerAt) → first is_transport (before ++ h ∷ behind) ≡ t → AllOutside h.offset (ipv4_len h.offset frame) (option_to_list t)
  outside-transport None p = tt
  outside-transport (Some s) p =
      let w = first-member is_transport (before ++ h ∷ behind) s p in
      elim (member-outside 0 (length frame) (ipv4_len h.offset frame) before behind h s within whole.next w.0) [
        | inl q ↦ absurd (not-ipv4 s.layer.kind w.1 (ap (λ (y : LayerAt). y.layer.kind) q ∙ whole.ipv4))
        | inr a ↦ (a, tt)
      ]

  outside-summed : (t : Option LayerAt) → first is_transport (before ++ h ∷ behind) ≡ t
      → AllOutside h.offset (ipv4_len h.offset frame) (if is_in_transport_sum e then option_to_list t else [])
  outside-summed t p =
      cond_both (is_in_transport_sum e) (option_to_list t) [] (AllOutside h.offset (ipv4_len h.offset frame)) (λ _. outside-transport t p) (λ _. tt)

  -- an edit of another header leaves each byte of this one
  other-kept : (l : LayerAt) (t : Option LayerAt) (f : Field) → Member l (before ++ h ∷ behind) → Outside h.offset (ipv4_len h.offset frame) l
      → first is_transport (before ++ h ∷ behind) ≡ t → field_in e l.layer.kind ≡ Some f
      → bytes_at h.offset (ipv4_len h.offset frame) (with_words e l t (Some f) frame) ≡ bytes_at h.offset (ipv4_len h.offset frame) frame
  other-kept l t f in-ls out is-t is-f =
      let ls = before ++ h ∷ behind in
      let o = h.offset in
      let n = ipv4_len o frame in
      let place = l.offset + f.from in
      let new = big_bytes f.count (new_words e l.layer.kind (number_at place f.count frame)) in
      let ss = covering e l t in
      let old = bytes_at place (length new) frame in
      let mid = with_checksums ss old new frame in
      let have = covering-have e l ls t in-ls is-t in
      let rooms = Rooms-layers (length frame) ls ss within have in
      let len = length-big_bytes f.count (new_words e l.layer.kind (number_at place f.count frame)) in
      let same-len : length mid ≡ length frame = length-with_checksums ss old new frame rooms in
      let r = field-lies e l.layer.kind f is-f in
      let w = member-lies 0 (length frame) l ls within in-ls in
      let own : AllOutside o n (if is_of kind.Ipv4 l then l ∷ [] else []) =
      cond_both (is_of kind.Ipv4 l) (l ∷ []) [] (AllOutside o n) (λ _. (out, tt)) (λ _. tt) in
      let all : AllOutside o n ss = AllOutside-append o n (if is_of kind.Ipv4 l then l ∷ [] else []) (if is_in_transport_sum e then option_to_list t else []) own (outside-summed t is-t) in
      let apart : (o + n ≤ place) ⊎ (place + length new ≤ o) = elim out [ inl a ↦ inr (omega (arith, r.0)) | inr a ↦ inl (omega arith) ] in
      bytes_at-put_apart o n place new mid apart (omega (arith, w.1, r.0))
      ∙ with_checksums-clear ss o n old new frame rooms (Clear-outside o n ls ss have all)

  -- an edit of this header keeps its sum
  own-kept : (t : Option LayerAt) (f : Field) → first is_transport (before ++ h ∷ behind) ≡ t → field_in e h.layer.kind ≡ Some f
      → ones_sum (bytes_at h.offset (ipv4_len h.offset frame) (with_words e h t (Some f) frame)) ≡ ones_sum (bytes_at h.offset (ipv4_len h.offset frame) frame)
  own-kept t f is-t is-f =
      let ls = before ++ h ∷ behind in
      let o = h.offset in
      let n = ipv4_len o frame in
      let k = h.layer.kind in
      let place = o + f.from in
      let value = new_words e k (number_at place f.count frame) in
      let new = big_bytes f.count value in
      let len : length new ≡ f.count = length-big_bytes f.count value in
      let ts = if is_in_transport_sum e then option_to_list t else [] in
      let ss = covering e h t in
      let old = bytes_at place (length new) frame in
      let mid = with_checksums ss old new frame in
      let c = number_at (o + 10) 2 frame in
      let sum = mended c (words_of old) (words_of new) in
      let one = put (o + 10) (big_bytes 2 sum) frame in
      let start = bytes_at o n frame in
      let end = put f.from new (put 10 (big_bytes 2 sum) start) in
      let room : o + n ≤ length frame = whole.room in
      let long : 20 ≤ n = let five = whole.long in omega arith in
      let start-len : length start ≡ n = length-bytes_at o n frame room in
      let r = field-lies e k f is-f in
      let inside : f.from + f.count ≤ 20 = subst (λ x. f.from + f.count ≤ header_len x) whole.ipv4 r.0 in
      let off : (f.from + f.count ≤ 10) ⊎ (12 ≤ f.from) = subst (λ x. IsOff x f.from f.count) whole.ipv4 r.1 in
      let at = field-placed e k f is-f in
      let low : 8 ≤ f.from = at.behind_first whole.ipv4 in
      let ss-is : ss ≡ h ∷ ts = ap (λ b. (if b then h ∷ [] else []) ++ ts) (is-ipv4 k whole.ipv4) in
      let one-is : with_checksum k o old new frame ≡ one = ap (λ x. with_checksum x o old new frame) whole.ipv4 in
      let mid-is : mid ≡ with_checksums ts old new one =
      ap (λ s. with_checksums s old new frame) ss-is ∙ ap (λ x. with_checksums ts old new x) one-is in
      let have : HaveChecksums ls (h ∷ ts) = subst (λ s. HaveChecksums ls s) ss-is (covering-have e h ls t (member-middle before behind h) is-t) in
      let one-len : length one ≡ length frame = length-put (o + 10) (big_bytes 2 sum) frame (omega arith) in
      let rooms : Rooms (length one) ts = subst (λ m. Rooms m ts) (sym one-len) (Rooms-layers (length frame) ls ts within have.2) in
      let mid-len : length mid ≡ length frame = ap length mid-is ∙ (length-with_checksums ts old new one rooms ∙ one-len) in
      let mid-part : bytes_at o n mid ≡ put 10 (big_bytes 2 sum) start =
      ap (bytes_at o n) mid-is
      ∙ (with_checksums-clear ts o n old new one rooms (Clear-outside o n ls ts have.2 (outside-summed t is-t))
      ∙ bytes_at-put_around o n 10 (o + 10) (big_bytes 2 sum) frame refl (omega arith) room) in
      let end-is : bytes_at o n (put place new mid) ≡ end =
      bytes_at-put_around o n f.from place new mid refl (omega arith) (omega arith) ∙ ap (put f.from new) mid-part in
      let start-bytes : AreBytes start = All-take (λ b. b < 256) n (drop o frame) (All-drop (λ b. b < 256) o frame bytes) in
      let old-bytes : AreBytes old = All-take (λ b. b < 256) (length new) (drop place frame) (All-drop (λ b. b < 256) place frame bytes) in
      let new-bytes : AreBytes new = AreBytes-big_bytes f.count value in
      let mid-bytes : AreBytes (put 10 (big_bytes 2 sum) start) = AreBytes-put 10 (big_bytes 2 sum) start (AreBytes-big_bytes 2 sum) start-bytes in
      let end-bytes : AreBytes end = AreBytes-put f.from new (put 10 (big_bytes 2 sum) start) new-bytes mid-bytes in
      let same-len : length (words_of new) ≡ length (words_of old) = length-words_of new old (sym (length-bytes_at place (length new) frame (omega arith))) in
      let keeps = mended-keeps c (words_of old) (words_of new) (number_at-fits (o + 10) 2 frame bytes) (AreWords-words_of old old-bytes) (AreWords-words_of new new-bytes) same-len in
      let apart : (f.from + length new ≤ 10) ⊎ (10 + 2 ≤ f.from) = elim off [ inl a ↦ inl (omega arith) | inr a ↦ inr (omega arith) ] in
      let effect = worth-both 10 sum f.from new start refl (omega arith) keeps.fits at.even_from (ap (λ m. m % 2) len ∙ at.even_count) (omega arith) apart in
      let old-worth : worth (bytes_at f.from (length new) start) ≡ worth old = ap worth (bytes_at-inner o n f.from (length new) frame (omega arith)) in
      let c-is : number_at 10 2 start ≡ c = number_at-inner o n 10 2 frame (omega arith) in
      let same : Same (worth end) (worth start) = Same-effect _ _ sum c (worth new) (worth old) (omega arith) keeps.same in
      let start-byte : number_at 0 1 start ≡ number_at 0 1 (drop o frame) =
      number_at-inner o n 0 1 frame (omega arith) ∙ sym (number_at-drop o 0 1 frame) in
      let end-byte : number_at 0 1 end ≡ number_at 0 1 (drop o frame) =
      number_at-put_apart 0 1 f.from new (put 10 (big_bytes 2 sum) start) (inl (omega arith)) (omega (arith, length-put 10 (big_bytes 2 sum) start (omega arith)))
      ∙ (number_at-put_apart 0 1 10 (big_bytes 2 sum) start (inl (lit≤ tt)) (omega arith) ∙ start-byte) in
      let four = whole.four in
      let some : 0 < worth end = worth-positive end (omega arith) in
      let more : 0 < worth start = worth-positive start (omega arith) in
      ap ones_sum end-is
      ∙ sum-same (words_of end) (words_of start) (AreWords-words_of end end-bytes) (AreWords-words_of start start-bytes) some more same

  layer-kept : (o t : Option LayerAt) → first (has_field e) (before ++ h ∷ behind) ≡ o → first is_transport (before ++ h ∷ behind) ≡ t
      → ones_sum (bytes_at h.offset (ipv4_len h.offset frame) (edit_layer e o t frame)) ≡ ones_sum (bytes_at h.offset (ipv4_len h.offset frame) frame)
  layer-kept None t is-first is-t = refl
  layer-kept (Some l) t is-first is-t =
      let w = first-member (has_field e) (before ++ h ∷ behind) l is-first in
      let f = some-of (field_in e l.layer.kind) w.1 in
      let P : LayerAt → Option Field → Type 0 = λ x g.
      ones_sum (bytes_at h.offset (ipv4_len h.offset frame) (with_words e x t g frame)) ≡ ones_sum (bytes_at h.offset (ipv4_len h.offset frame) frame) in
      let done : P l (Some f.0) = elim (member-outside 0 (length frame) (ipv4_len h.offset frame) before behind h l within whole.next w.0) [
        | inl q ↦ subst (λ x. P x (Some f.0)) (sym q) (own-kept t f.0 is-t (ap (λ (x : LayerAt). field_in e x.layer.kind) (sym q) ∙ f.1))
        | inr out ↦ ap ones_sum (other-kept l t f.0 w.0 out is-t f.1)
      ] in
      subst (P l) (sym f.1) done

pub ipv4_sum-kept : (e : Edit) (before behind : List LayerAt) (h : LayerAt) (frame : List ℕ) → AreBytes frame
    → LieWithin 0 (length frame) (before ++ h ∷ behind) → IsWholeIpv4 frame h behind
    → ones_sum (bytes_at h.offset (ipv4_len h.offset frame) (edit_bytes e (before ++ h ∷ behind) frame)) ≡ ones_sum (bytes_at h.offset (ipv4_len h.offset frame) frame)
unfolding edit_bytes
ipv4_sum-kept e before behind h frame bytes within whole =
    layer-kept e before behind h frame bytes within whole (first (has_field e) (before ++ h ∷ behind)) (first is_transport (before ++ h ∷ behind)) refl refl
