-- An edit leaves the sum over a pseudo-header and transport bytes as it was.
use Rattle.std.proofs.Common.{◌≡◌, ℕ, ◌+◌, ◌-◌, ◌%◌, ◌<◌, ◌≤◌, ◌⊎◌, inl, inr, true, false, if◌then◌else◌, Option, Some, None, List, [], ◌∷◌, ◌++◌, append-nil, length, drop, refl, sym, ap, ◌∙◌, subst, arith, lit≤, All}
use Rattle.std.proofs.lemmas.Bool.{cases_lt, cond_both, false≢true}
use Rattle.std.proofs.lemmas.List.Elements.{All-from_recursion, All-take, All-drop, All-append}
use Rattle.std.specs.List.{AllByRecursion}
use Rattle.byteorder.specs.Endian.{big_bytes}
use Rattle.packet_headers.specs.declared.items.ItemKind.{ItemKind}
use Rattle.packet_headers.specs.declared.items.ItemKind.TheVariants as kind
use Rattle.packet_headers.specs.declared.items.LayerAt.{LayerAt}
use Rattle.packet_headers.specs.declared.edits.Edit.{Edit}
use Rattle.packet_headers.specs.Fields.{number_at}
use Rattle.packet_headers.specs.Key.{is_of}
use Rattle.packet_headers.specs.Layers.{header_len, LieWithin}
use Rattle.header_edit.specs.Checksum.{words_of, ones_sum}
use Rattle.header_edit.specs.Field.{Field, field_in, has_field, new_words, is_in_transport_sum}
use Rattle.header_edit.specs.Layers.{first, is_transport}
use Rattle.header_edit.specs.Frame.{bytes_at, put, checksum_from, mended_of, changed, covering, with_words, edit_layer, edit_bytes}
use Rattle.header_edit.specs.Shown.{AreBytes}
use Rattle.header_edit.specs.Right.{is_network, is_link, IsOneStack, addresses_from, addresses_len, addresses, covered, IsMade, AreCovered}
use Rattle.header_edit.proofs.ByteLists.{AreBytes-big_bytes}
use Rattle.header_edit.proofs.Checksums.{HaveChecksums, Rooms, Clear, Rooms-layers, covering-have}
use Rattle.header_edit.proofs.Congruent.{Same, same, Same-effect, Keeps, mended-keeps, mended_udp-keeps, AreWords, sum-same}
use Rattle.header_edit.proofs.Changes.{Clear-append, have-left, mid-kept, changed-length, changed-bytes, changed-apart, changed-around, mended-own}
use Rattle.header_edit.proofs.FieldPlaces.{field-lies, field-placed, field-of_link, field-of_network, field-of_transport}
use Rattle.header_edit.proofs.HeaderKinds.{network, link, transport}
use Rattle.header_edit.proofs.Effects.{length-bytes_at, bytes_at-inner, number_at-inner, worth-checksum, worth-both}
use Rattle.header_edit.proofs.Members.{Member, end_of, member-lies, member-apart, first-member, some-of}
use Rattle.header_edit.proofs.Numbers.{number_at-fits, length-big_bytes}
use Rattle.header_edit.proofs.StackOrder.{first-transport, first-where, front-ends, member-left, member-here}
use Rattle.header_edit.proofs.Totals.{worth, worth-append, worth-put, AreWords-words_of, length-words_of}

-- a mended transport checksum, with the words that it covers, stays the same
mended_of-keeps : (k : ItemKind) (c : ℕ) (old new : List ℕ) → is_transport k ≡ true → (k ≡ kind.Udp → c ≡ 0 → ⊥) → c < 65536
    → AreBytes old → AreBytes new → length new ≡ length old → Keeps (mended_of k c old new) (worth new) c (worth old)
mended_of-keeps kind.Tcp c old new h made fits p q e =
    mended-keeps c (words_of old) (words_of new) fits (AreWords-words_of old p) (AreWords-words_of new q) (length-words_of new old e)
mended_of-keeps kind.Udp c old new h made fits p q e =
    mended_udp-keeps c (words_of old) (words_of new) (made refl) fits (AreWords-words_of old p) (AreWords-words_of new q) (length-words_of new old e)
mended_of-keeps _ c old new h made fits p q e = absurd (cc)

-- ---- sums

-- bytes that aren't all 0 are worth something
zeros : (xs : List ℕ) → worth xs ≡ 0 → AllByRecursion (λ b. b ≡ 0) xs
zeros [] h = tt
zeros (x ∷ []) h = (omega arith, tt)
zeros (x ∷ y ∷ xs) h = (omega arith, (omega arith, zeros xs (omega arith)))

worth-some : (xs : List ℕ) → (All (λ b. b ≡ 0) xs → ⊥) → 0 < worth xs
worth-some xs h = elim (cases_lt 0 (worth xs)) [
  | inl lt ↦ lt
  | inr ge ↦ absurd (h (All-from_recursion (λ b. b ≡ 0) xs (zeros xs (omega arith))))
]

-- the sum over three parts of which the first stays
parts-same : (w a x b y : List ℕ) → AreBytes w → AreBytes a → AreBytes x → AreBytes b → AreBytes y → length w % 2 ≡ 0 → length a % 2 ≡ 0 → length b % 2 ≡ 0
    → 0 < worth w → Same (worth b + worth y) (worth a + worth x) → ones_sum (w ++ (b ++ y)) ≡ ones_sum (w ++ (a ++ x))
parts-same w a x b y pw pa px pb py ew ea eb some same =
    let l : worth (w ++ (a ++ x)) ≡ worth w + (worth a + worth x) = worth-append w (a ++ x) ew ∙ ap (λ m. worth w + m) (worth-append a x ea) in
    let r : worth (w ++ (b ++ y)) ≡ worth w + (worth b + worth y) = worth-append w (b ++ y) ew ∙ ap (λ m. worth w + m) (worth-append b y eb) in
    let words : (p q : List ℕ) → AreBytes p → AreBytes q → AreWords (words_of (w ++ (p ++ q))) = λ p q h k.
    AreWords-words_of (w ++ (p ++ q)) (All-append (λ b. b < 256) w (p ++ q) pw (All-append (λ b. b < 256) p q h k)) in
    let s = same.is in
    sum-same (words_of (w ++ (b ++ y))) (words_of (w ++ (a ++ x))) (words b y pb py) (words a x pa px) (omega arith) (omega arith)
    (record { left = same.left; right = same.right; is = omega arith })

-- ---- the sum after an edit

-- what the law needs of the edited frame
record Stays (n t : LayerAt) (count : ℕ) (frame result : List ℕ) : Type 0 where
  are_bytes : AreBytes result
  same_length : length result ≡ length frame
  same_worth : Same (worth (addresses n result) + worth (bytes_at t.offset count result)) (worth (addresses n frame) + worth (bytes_at t.offset count frame))

module _ (e : Edit) (below between behind : List LayerAt) (n t : LayerAt) (frame : List ℕ) (count : ℕ) (bytes : AreBytes frame)
    (within : LieWithin 0 (length frame) (below ++ n ∷ between ++ t ∷ behind)) (stack : IsOneStack below n between t behind)
    (long : header_len t.layer.kind ≤ count) (inside : t.offset + count ≤ length frame) (made : IsMade t frame) where
  -- both parts are kept
  kept : (result : List ℕ) → AreBytes result → length result ≡ length frame → addresses n result ≡ addresses n frame
      → bytes_at t.offset count result ≡ bytes_at t.offset count frame → Stays n t count frame result
  kept result p len a b = record {
    are_bytes = p;
    same_length = len;
    same_worth = same _ _ (ap (λ x. worth x + worth (bytes_at t.offset count result)) a ∙ ap (λ x. worth (addresses n frame) + worth x) b);
  }

  n-member : Member n (below ++ n ∷ between ++ t ∷ behind)
  n-member = member-left n (below ++ n ∷ between) (t ∷ behind) (member-here below between n)

  t-member : Member t (below ++ n ∷ between ++ t ∷ behind)
  t-member = member-here (below ++ n ∷ between) behind t

  n-ends : end_of n ≤ t.offset
  n-ends = front-ends 0 (length frame) n t (below ++ n ∷ between) behind within (member-here below between n)

  link-stays : (l : LayerAt) (f : Field) → Member l (below ++ n ∷ between) → is_link l.layer.kind ≡ true → field_in e l.layer.kind ≡ Some f
      → Stays n t count frame (with_words e l (Some t) (Some f) frame)
  link-stays l f in-front is is-f =
      let ls = below ++ n ∷ between ++ t ∷ behind in
      let k = l.layer.kind in
      let place = l.offset + f.from in
      let value = new_words e k (number_at place f.count frame) in
      let new = big_bytes f.count value in
      let len : length new ≡ f.count = length-big_bytes f.count value in
      let facts = link k is in
      let ss-is : covering e l (Some t) ≡ [] =
      ap (λ b. (if b then l ∷ [] else []) ++ (if is_in_transport_sum e then t ∷ [] else [])) facts.not_ipv4
      ∙ ap (λ b. [] ++ (if b then t ∷ [] else [])) (field-of_link e k f is-f is) in
      let r = field-lies e k f is-f in
      let in-ls : Member l ls = member-left l (below ++ n ∷ between) (t ∷ behind) in-front in
      let w = member-lies 0 (length frame) l ls within in-ls in
      let before-t : end_of l ≤ t.offset = front-ends 0 (length frame) l t (below ++ n ∷ between) behind within in-front in
      let nf = network n.layer.kind stack.network_is in
      let wn = member-lies 0 (length frame) n ls within n-member in
      let ap-n = n.offset + addresses_from n.layer.kind in
      let an = addresses_len n.layer.kind in
      let from-n : (ap-n + an ≤ place) ⊎ (place + length new ≤ ap-n) =
      elim (member-apart 0 (length frame) l n ls within in-ls n-member) [
        | inl q ↦ absurd (false≢true (sym facts.not_network ∙ (ap (λ (x : LayerAt). is_network x.layer.kind) q ∙ stack.network_is)))
        | inr a ↦ elim a [ inl p ↦ inr (omega (arith, r.0)) | inr p ↦ inl (omega (arith, nf.fits)) ]
      ] in
      let result = changed place new [] frame in
      let fits : place + length new ≤ length frame = omega (arith, w.1, r.0) in
      let done : Stays n t count frame result =
      kept result (changed-bytes ls [] place new frame within tt fits (AreBytes-big_bytes f.count value) bytes) (changed-length ls [] place new frame within tt fits)
      (changed-apart ls [] place new frame within tt fits ap-n an from-n)
      (changed-apart ls [] place new frame within tt fits t.offset count (inr (omega (arith, r.0)))) in
      subst (λ ss. Stays n t count frame (changed place new ss frame)) (sym ss-is) done

  -- the IPv4 checksum stands in front of the addresses, and they in front of the transport header

  own-clear-addresses : Clear (n.offset + addresses_from n.layer.kind) (addresses_len n.layer.kind) (if is_of kind.Ipv4 n then n ∷ [] else [])
  own-clear-addresses =
      let an = addresses_len n.layer.kind in
      let ap-n = n.offset + addresses_from n.layer.kind in
      cond_both (is_of kind.Ipv4 n) (n ∷ []) [] (Clear ap-n an)
      (λ p.
      let is : n.layer.kind ≡ kind.Ipv4 = (network n.layer.kind stack.network_is).is_ipv4 p in
      let apart : checksum_from n.layer.kind + 2 ≤ addresses_from n.layer.kind =
      subst (λ x. checksum_from x + 2 ≤ addresses_from x) (sym is) (lit≤ tt) in
      (inr (omega arith), tt))
      (λ _. tt)

  own-clear-transport : Clear t.offset count (if is_of kind.Ipv4 n then n ∷ [] else [])
  own-clear-transport =
      cond_both (is_of kind.Ipv4 n) (n ∷ []) [] (Clear t.offset count)
      (λ p.
      let is : n.layer.kind ≡ kind.Ipv4 = (network n.layer.kind stack.network_is).is_ipv4 p in
      let r : checksum_from n.layer.kind + 2 ≤ header_len n.layer.kind = subst (λ x. checksum_from x + 2 ≤ header_len x) (sym is) (lit≤ tt) in
      let ends = n-ends in
      (inr (omega arith), tt))
      (λ _. tt)

  t-clear-addresses : Clear (n.offset + addresses_from n.layer.kind) (addresses_len n.layer.kind) (t ∷ [])
  t-clear-addresses =
      let nf = network n.layer.kind stack.network_is in
      let ends = n-ends in
      (inl (omega (arith, nf.fits)), tt)

  -- a TTL or a hop limit
  ttl-stays : (f : Field) → is_in_transport_sum e ≡ false → f.from + f.count ≤ addresses_from n.layer.kind → field_in e n.layer.kind ≡ Some f
      → Stays n t count frame (with_words e n (Some t) (Some f) frame)
  ttl-stays f not-summed low is-f =
      let ls = below ++ n ∷ between ++ t ∷ behind in
      let k = n.layer.kind in
      let place = n.offset + f.from in
      let value = new_words e k (number_at place f.count frame) in
      let new = big_bytes f.count value in
      let len : length new ≡ f.count = length-big_bytes f.count value in
      let own = if is_of kind.Ipv4 n then n ∷ [] else [] in
      let ss-is : covering e n (Some t) ≡ own = ap (λ b. own ++ (if b then t ∷ [] else [])) not-summed ∙ append-nil own in
      let have : HaveChecksums ls own = subst (λ ss. HaveChecksums ls ss) ss-is
      (covering-have e n ls (Some t) n-member (first-transport below between behind n t stack)) in
      let r = field-lies e k f is-f in
      let w = member-lies 0 (length frame) n ls within n-member in
      let ends = n-ends in
      let nf = network k stack.network_is in
      let fits : place + length new ≤ length frame = omega (arith, w.1, r.0) in
      let ap-n = n.offset + addresses_from k in
      let an = addresses_len k in
      let done : Stays n t count frame (changed place new own frame) =
      kept (changed place new own frame) (changed-bytes ls own place new frame within have fits (AreBytes-big_bytes f.count value) bytes)
      (changed-length ls own place new frame within have fits)
      (changed-apart ls own place new frame within have fits ap-n an (inr (omega arith)) ∙ mid-kept ls own place new frame within have fits ap-n an own-clear-addresses)
      (changed-apart ls own place new frame within have fits t.offset count (inr (omega (arith, r.0))) ∙ mid-kept ls own place new frame within have fits t.offset count own-clear-transport) in
      subst (λ ss. Stays n t count frame (changed place new ss frame)) (sym ss-is) done

  -- the checksum of the transport header, before and after

  c-is-made : t.layer.kind ≡ kind.Udp → number_at (checksum_from t.layer.kind) 2 (bytes_at t.offset count frame) ≡ 0 → ⊥
  c-is-made u z =
      let tf = transport t.layer.kind stack.transport_is in
      let inner = number_at-inner t.offset count (checksum_from t.layer.kind) 2 frame (omega (arith, tf.fits)) in
      made u (ap (λ x. number_at (t.offset + checksum_from x) 2 frame) (sym u) ∙ (sym inner ∙ z))

  t-keeps : (old new : List ℕ) → AreBytes old → AreBytes new → length new ≡ length old
      → Keeps (mended_of t.layer.kind (number_at (checksum_from t.layer.kind) 2 (bytes_at t.offset count frame)) old new) (worth new)
      (number_at (checksum_from t.layer.kind) 2 (bytes_at t.offset count frame)) (worth old)
  t-keeps old new p q len =
      let part = bytes_at t.offset count frame in
      let part-bytes : AreBytes part = All-take (λ b. b < 256) count (drop t.offset frame) (All-drop (λ b. b < 256) t.offset frame bytes) in
      mended_of-keeps t.layer.kind (number_at (checksum_from t.layer.kind) 2 part) old new stack.transport_is c-is-made
      (number_at-fits (checksum_from t.layer.kind) 2 part part-bytes) p q len

  -- an address
  address-stays : (f : Field) → is_in_transport_sum e ≡ true → addresses_from n.layer.kind ≤ f.from
      → f.from + f.count ≤ addresses_from n.layer.kind + addresses_len n.layer.kind → field_in e n.layer.kind ≡ Some f
      → Stays n t count frame (with_words e n (Some t) (Some f) frame)
  address-stays f summed low high is-f =
      let ls = below ++ n ∷ between ++ t ∷ behind in
      let k = n.layer.kind in
      let place = n.offset + f.from in
      let value = new_words e k (number_at place f.count frame) in
      let new = big_bytes f.count value in
      let len : length new ≡ f.count = length-big_bytes f.count value in
      let own = if is_of kind.Ipv4 n then n ∷ [] else [] in
      let ss = own ++ t ∷ [] in
      let ss-is : covering e n (Some t) ≡ ss = ap (λ b. own ++ (if b then t ∷ [] else [])) summed in
      let have : HaveChecksums ls ss = subst (λ xs. HaveChecksums ls xs) ss-is
      (covering-have e n ls (Some t) n-member (first-transport below between behind n t stack)) in
      let r = field-lies e k f is-f in
      let at = field-placed e k f is-f in
      let w = member-lies 0 (length frame) n ls within n-member in
      let ends = n-ends in
      let nf = network k stack.network_is in
      let tf = transport t.layer.kind stack.transport_is in
      let fits : place + length new ≤ length frame = omega (arith, w.1, r.0) in
      let ap-n = n.offset + addresses_from k in
      let an = addresses_len k in
      let q = f.from - addresses_from k in
      let old = bytes_at place (length new) frame in
      let a0 = bytes_at ap-n an frame in
      let t0 = bytes_at t.offset count frame in
      let c = number_at (checksum_from t.layer.kind) 2 t0 in
      let sum = mended_of t.layer.kind c old new in
      let a-len : length a0 ≡ an = length-bytes_at ap-n an frame (omega (arith, w.1, nf.fits)) in
      let t-len : length t0 ≡ count = length-bytes_at t.offset count frame inside in
      let a-is : bytes_at ap-n an (changed place new ss frame) ≡ put q new a0 =
      changed-around ls ss place new frame within have fits ap-n an q (omega arith) (omega arith) (omega (arith, w.1, nf.fits))
      ∙ ap (put q new) (mid-kept ls ss place new frame within have fits ap-n an (Clear-append ap-n an own (t ∷ []) own-clear-addresses t-clear-addresses)) in
      let own-rooms : Rooms (length frame) own = Rooms-layers (length frame) ls own within (have-left ls own (t ∷ []) have) in
      let t-is : bytes_at t.offset count (changed place new ss frame) ≡ put (checksum_from t.layer.kind) (big_bytes 2 sum) t0 =
      changed-apart ls ss place new frame within have fits t.offset count (inr (omega (arith, r.0)))
      ∙ mended-own own t count old new frame own-rooms own-clear-transport (omega (arith, tf.fits)) inside in
      let old-bytes : AreBytes old = All-take (λ b. b < 256) (length new) (drop place frame) (All-drop (λ b. b < 256) place frame bytes) in
      let new-bytes : AreBytes new = AreBytes-big_bytes f.count value in
      let keeps = t-keeps old new old-bytes new-bytes (sym (length-bytes_at place (length new) frame fits)) in
      let a-effect = worth-put q new a0 (omega (arith, at.even_from, nf.even_from)) (ap (λ m. m % 2) len ∙ at.even_count) (omega arith) in
      let old-worth : worth (bytes_at q (length new) a0) ≡ worth old =
      ap worth (bytes_at-inner ap-n an q (length new) frame (omega arith) ∙ ap (λ p. bytes_at p (length new) frame) (omega arith)) in
      let t-effect = worth-checksum (checksum_from t.layer.kind) sum t0 tf.even (omega (arith, tf.fits)) keeps.fits in
      let whole : Same (worth (put q new a0) + worth (put (checksum_from t.layer.kind) (big_bytes 2 sum) t0)) (worth a0 + worth t0) =
      Same-effect _ _ sum c (worth new) (worth old) (omega arith) keeps.same in
      let done : Stays n t count frame (changed place new ss frame) = record {
        are_bytes = changed-bytes ls ss place new frame within have fits new-bytes bytes;
        same_length = changed-length ls ss place new frame within have fits;
        same_worth = subst (λ x. Same (worth x + worth (bytes_at t.offset count (changed place new ss frame))) (worth a0 + worth t0)) (sym a-is)
            (subst (λ x. Same (worth (put q new a0) + worth x) (worth a0 + worth t0)) (sym t-is) whole);
      } in
      subst (λ xs. Stays n t count frame (changed place new xs frame)) (sym ss-is) done

  -- a port
  port-stays : (f : Field) → field_in e t.layer.kind ≡ Some f → Stays n t count frame (with_words e t (Some t) (Some f) frame)
  port-stays f is-f =
      let ls = below ++ n ∷ between ++ t ∷ behind in
      let k = t.layer.kind in
      let place = t.offset + f.from in
      let value = new_words e k (number_at place f.count frame) in
      let new = big_bytes f.count value in
      let len : length new ≡ f.count = length-big_bytes f.count value in
      let tf = transport k stack.transport_is in
      let port = field-of_transport e k f is-f stack.transport_is in
      let ss = t ∷ [] in
      let ss-is : covering e t (Some t) ≡ ss =
      ap (λ b. (if b then t ∷ [] else []) ++ (if is_in_transport_sum e then t ∷ [] else [])) tf.not_ipv4
      ∙ ap (λ b. [] ++ (if b then t ∷ [] else [])) port.0 in
      let have : HaveChecksums ls ss = subst (λ xs. HaveChecksums ls xs) ss-is
      (covering-have e t ls (Some t) t-member (first-transport below between behind n t stack)) in
      let at = field-placed e k f is-f in
      let ends = n-ends in
      let nf = network n.layer.kind stack.network_is in
      let fits : place + length new ≤ length frame = omega (arith, port.1, tf.behind_ports, tf.fits) in
      let ap-n = n.offset + addresses_from n.layer.kind in
      let an = addresses_len n.layer.kind in
      let old = bytes_at place (length new) frame in
      let a0 = addresses n frame in
      let t0 = bytes_at t.offset count frame in
      let c = number_at (checksum_from k) 2 t0 in
      let sum = mended_of k c old new in
      let t-len : length t0 ≡ count = length-bytes_at t.offset count frame inside in
      let result = changed place new ss frame in
      let a-is : addresses n result ≡ a0 =
      changed-apart ls ss place new frame within have fits ap-n an (inl (omega (arith, nf.fits)))
      ∙ mid-kept ls ss place new frame within have fits ap-n an t-clear-addresses in
      let t-is : bytes_at t.offset count result ≡ put f.from new (put (checksum_from k) (big_bytes 2 sum) t0) =
      changed-around ls ss place new frame within have fits t.offset count f.from refl (omega (arith, port.1, tf.behind_ports, tf.fits)) inside
      ∙ ap (put f.from new) (mended-own [] t count old new frame tt tt (omega (arith, tf.fits)) inside) in
      let old-bytes : AreBytes old = All-take (λ b. b < 256) (length new) (drop place frame) (All-drop (λ b. b < 256) place frame bytes) in
      let new-bytes : AreBytes new = AreBytes-big_bytes f.count value in
      let keeps = t-keeps old new old-bytes new-bytes (sym (length-bytes_at place (length new) frame fits)) in
      let effect = worth-both (checksum_from k) sum f.from new t0 tf.even (omega (arith, tf.fits)) keeps.fits at.even_from (ap (λ m. m % 2) len ∙ at.even_count)
      (omega (arith, port.1, tf.behind_ports, tf.fits)) (inl (omega (arith, port.1, tf.behind_ports))) in
      let old-worth : worth (bytes_at f.from (length new) t0) ≡ worth old =
      ap worth (bytes_at-inner t.offset count f.from (length new) frame (omega (arith, port.1, tf.behind_ports, tf.fits))) in
      let whole : Same (worth a0 + worth (put f.from new (put (checksum_from k) (big_bytes 2 sum) t0))) (worth a0 + worth t0) =
      Same-effect _ _ sum c (worth new) (worth old) (omega arith) keeps.same in
      let done : Stays n t count frame result = record {
        are_bytes = changed-bytes ls ss place new frame within have fits new-bytes bytes;
        same_length = changed-length ls ss place new frame within have fits;
        same_worth = subst (λ x. Same (worth x + worth (bytes_at t.offset count result)) (worth a0 + worth t0)) (sym a-is)
            (subst (λ x. Same (worth a0 + worth x) (worth a0 + worth t0)) (sym t-is) whole);
      } in
      subst (λ xs. Stays n t count frame (changed place new xs frame)) (sym ss-is) done

  network-stays : (f : Field) → field_in e n.layer.kind ≡ Some f → Stays n t count frame (with_words e n (Some t) (Some f) frame)
  network-stays f is-f =
      elim (field-of_network e n.layer.kind f is-f stack.network_is) [
        | inl a ↦ address-stays f a.summed a.from a.to is-f
        | inr b ↦ ttl-stays f b.unsummed b.to is-f
      ]

  edit-stays : (o : Option LayerAt) → first (has_field e) (below ++ n ∷ between ++ t ∷ behind) ≡ o
      → Stays n t count frame (edit_layer e o (Some t) frame)
  edit-stays None is-first = kept frame bytes refl refl refl
  edit-stays (Some l) is-first =
      let ls = below ++ n ∷ between ++ t ∷ behind in
      let f = some-of (field_in e l.layer.kind) (first-member (has_field e) ls l is-first).1 in
      let P : LayerAt → Option Field → Type 0 = λ x g. Stays n t count frame (with_words e x (Some t) g frame) in
      let at : (m : LayerAt) → l ≡ m → field_in e m.layer.kind ≡ Some f.0 = λ m q. ap (λ (x : LayerAt). field_in e x.layer.kind) (sym q) ∙ f.1 in
      let done : P l (Some f.0) = elim (first-where below between behind n t stack (has_field e) l is-first) [
        | inl a ↦ elim a.1 [
          | inl is ↦ link-stays l f.0 a.0 is f.1
          | inr q ↦ subst (λ x. P x (Some f.0)) (sym q) (network-stays f.0 (at n q))
        ]
        | inr q ↦ subst (λ x. P x (Some f.0)) (sym q) (port-stays f.0 (at t q))
      ] in
      subst (P l) (sym f.1) done

pub transport_sum-kept : (e : Edit) (below between behind : List LayerAt) (n t : LayerAt) (frame : List ℕ) (count : ℕ) (rest : List ℕ)
    → AreBytes frame → LieWithin 0 (length frame) (below ++ n ∷ between ++ t ∷ behind) → IsOneStack below n between t behind
    → AreCovered rest t count frame
    → ones_sum (covered rest n t count (edit_bytes e (below ++ n ∷ between ++ t ∷ behind) frame)) ≡ ones_sum (covered rest n t count frame)
unfolding edit_bytes
transport_sum-kept e below between behind n t frame count rest bytes within stack parts =
    let ls = below ++ n ∷ between ++ t ∷ behind in
    let target = first (has_field e) ls in
    let result = edit_layer e target (Some t) frame in
    let s : Stays n t count frame result = edit-stays e below between behind n t frame count bytes within stack parts.header parts.room parts.made target refl in
    let part : (p m : ℕ) (xs : List ℕ) → AreBytes xs → AreBytes (bytes_at p m xs) =
    λ p m xs h. All-take (λ b. b < 256) m (drop p xs) (All-drop (λ b. b < 256) p xs h) in
    let nf = network n.layer.kind stack.network_is in
    let w = member-lies 0 (length frame) n ls within (member-left n (below ++ n ∷ between) (t ∷ behind) (member-here below between n)) in
    let ap-n = n.offset + addresses_from n.layer.kind in
    let an = addresses_len n.layer.kind in
    let a-even : (xs : List ℕ) → length xs ≡ length frame → length (addresses n xs) % 2 ≡ 0 = λ xs e.
    ap (λ m. m % 2) (length-bytes_at ap-n an xs (omega (arith, w.1, nf.fits))) ∙ nf.even_len in
    ap (λ x. ones_sum (covered rest n t count (edit_layer e target x frame))) (first-transport below between behind n t stack)
    ∙ parts-same rest (addresses n frame) (bytes_at t.offset count frame) (addresses n result) (bytes_at t.offset count result)
    parts.are_bytes (part ap-n an frame bytes) (part t.offset count frame bytes) (part ap-n an result s.are_bytes) (part t.offset count result s.are_bytes)
    parts.even (a-even frame refl) (a-even result s.same_length) (worth-some rest parts.some) s.same_worth
