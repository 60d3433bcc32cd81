-- What a change of checksums leaves alone.
use Rattle.std.proofs.Common.{◌≡◌, ℕ, ◌+◌, ◌≤◌, ◌⊎◌, inl, inr, Bool, true, false, nat_eq, if◌then◌else◌, Option, Some, None, List, [], ◌∷◌, ◌++◌, length, refl, sym, ◌∙◌, subst, arith, lit≤}
use Rattle.std.proofs.lemmas.Bool.{cond_both}
use Rattle.std.specs.Option.{option_to_list}
use Rattle.packet_headers.specs.declared.items.ItemKind.{ItemKind}
use Rattle.packet_headers.specs.declared.items.ItemKind.TheVariants as kind
use Rattle.packet_headers.specs.declared.items.LayerAt.{LayerAt}
use Rattle.packet_headers.specs.declared.edits.Edit.{Edit}
use Rattle.packet_headers.specs.Key.{is_of, kind_number}
use Rattle.packet_headers.specs.Layers.{header_len, LieWithin}
use Rattle.header_edit.specs.Field.{is_in_transport_sum}
use Rattle.header_edit.specs.Layers.{first, is_transport}
use Rattle.header_edit.specs.Frame.{bytes_at, checksum_from, with_checksum, with_checksums, covering}
use Rattle.header_edit.proofs.Puts.{length-put, bytes_at-put_apart}
use Rattle.header_edit.proofs.HeaderNumbers.{IsOff}
use Rattle.header_edit.proofs.Members.{Member, member-lies, member-apart, first-member}

-- the kinds of header that have a checksum
abbrev pub has_checksum : ItemKind → Bool
has_checksum kind.Ipv4 = true
has_checksum kind.Tcp = true
has_checksum kind.Udp = true
has_checksum _ = false

-- the checksum lies in its header
pub checksum-room : (k : ItemKind) → has_checksum k ≡ true → checksum_from k + 2 ≤ header_len k
checksum-room kind.Ipv4 h = lit≤ tt
checksum-room kind.Tcp h = lit≤ tt
checksum-room kind.Udp h = lit≤ tt
checksum-room _ h = absurd (cc)

off-checksum : (k : ItemKind) (from count : ℕ) → has_checksum k ≡ true → IsOff k from count → (from + count ≤ checksum_from k) ⊎ (checksum_from k + 2 ≤ from)
off-checksum kind.Ipv4 from count h off = off
off-checksum kind.Tcp from count h off = off
off-checksum kind.Udp from count h off = off
off-checksum _ from count h off = absurd (cc)

-- these layers are some of a frame's, and have checksums
abbrev pub HaveChecksums : List LayerAt → List LayerAt → Type 0
HaveChecksums ls [] = Unit {0}
HaveChecksums ls (s ∷ ss) = Member s ls × (has_checksum s.layer.kind ≡ true) × HaveChecksums ls ss

HaveChecksums-append : (ls ss ts : List LayerAt) → HaveChecksums ls ss → HaveChecksums ls ts → HaveChecksums ls (ss ++ ts)
HaveChecksums-append ls [] ts h k = k
HaveChecksums-append ls (s ∷ ss) ts h k = (h.0, h.1, HaveChecksums-append ls ss ts h.2 k)

-- the checksums of these headers lie in the first `end` bytes
abbrev pub Rooms : ℕ → List LayerAt → Type 0
Rooms end [] = Unit {0}
Rooms end (s ∷ ss) = (s.offset + checksum_from s.layer.kind + 2 ≤ end) × Rooms end ss

-- none of them lies in the n bytes from p on
abbrev pub Clear : ℕ → ℕ → List LayerAt → Type 0
Clear p n [] = Unit {0}
Clear p n (s ∷ ss) =
    ((p + n ≤ s.offset + checksum_from s.layer.kind) ⊎ (s.offset + checksum_from s.layer.kind + 2 ≤ p)) × Clear p n ss

pub Rooms-layers : (end : ℕ) (ls ss : List LayerAt) → LieWithin 0 end ls → HaveChecksums ls ss → Rooms end ss
Rooms-layers end ls [] h k = tt
Rooms-layers end ls (s ∷ ss) h k =
    let w = member-lies 0 end s ls h k.0 in
    let r = checksum-room s.layer.kind k.1 in
    (omega arith, Rooms-layers end ls ss h k.2)

-- these bytes of a header aren't those of a checksum
pub Clear-layers : (end from count : ℕ) (m : LayerAt) (ls ss : List LayerAt) → LieWithin 0 end ls → HaveChecksums ls ss → Member m ls
    → from + count ≤ header_len m.layer.kind → IsOff m.layer.kind from count → Clear (m.offset + from) count ss
Clear-layers end from count m ls [] h k in-ls room off = tt
Clear-layers end from count m ls (s ∷ ss) h k in-ls room off =
    let rest = Clear-layers end from count m ls ss h k.2 in-ls room off in
    let r = checksum-room s.layer.kind k.1 in
    let Here : LayerAt → Type 0 = λ x. (m.offset + from + count ≤ x.offset + checksum_from x.layer.kind) ⊎ (x.offset + checksum_from x.layer.kind + 2 ≤ m.offset + from) in
    let own : has_checksum m.layer.kind ≡ true → Here m = λ e. elim (off-checksum m.layer.kind from count e off) [ inl p ↦ inl (omega arith) | inr p ↦ inr (omega arith) ] in
    elim (member-apart 0 end m s ls h in-ls k.0) [
      | inl e ↦ (subst Here e (own (subst (λ x. has_checksum x.layer.kind ≡ true) (sym e) k.1)), rest)
      | inr a ↦ elim a [ inl p ↦ (inl (omega arith), rest) | inr p ↦ (inr (omega arith), rest) ]
    ]

pub length-with_checksums : (ss : List LayerAt) (old new frame : List ℕ) → Rooms (length frame) ss → length (with_checksums ss old new frame) ≡ length frame
length-with_checksums [] old new frame h = refl
length-with_checksums (s ∷ ss) old new frame h =
    let next = with_checksum s.layer.kind s.offset old new frame in
    let e : length next ≡ length frame = length-put (s.offset + checksum_from s.layer.kind) _ frame h.0 in
    length-with_checksums ss old new next (subst (λ n. Rooms n ss) (sym e) h.1) ∙ e

pub with_checksums-clear : (ss : List LayerAt) (p n : ℕ) (old new frame : List ℕ) → Rooms (length frame) ss → Clear p n ss
    → bytes_at p n (with_checksums ss old new frame) ≡ bytes_at p n frame
with_checksums-clear [] p n old new frame h c = refl
with_checksums-clear (s ∷ ss) p n old new frame h c =
    let next = with_checksum s.layer.kind s.offset old new frame in
    let e : length next ≡ length frame = length-put (s.offset + checksum_from s.layer.kind) _ frame h.0 in
    with_checksums-clear ss p n old new next (subst (λ n. Rooms n ss) (sym e) h.1) c.1
    ∙ bytes_at-put_apart p n (s.offset + checksum_from s.layer.kind) _ frame c.0 h.0

-- the headers that cover a field are some of the frame's

ipv4-checksum : (k : ItemKind) → nat_eq (kind_number k) 3 ≡ true → has_checksum k ≡ true
ipv4-checksum kind.Ipv4 h = refl
ipv4-checksum _ h = absurd (cc)

transport-checksum : (k : ItemKind) → is_transport k ≡ true → has_checksum k ≡ true
transport-checksum kind.Tcp h = refl
transport-checksum kind.Udp h = refl
transport-checksum _ h = absurd (cc)

first-transport : (ls : List LayerAt) (t : Option LayerAt) → first is_transport ls ≡ t → HaveChecksums ls (option_to_list t)
first-transport ls None h = tt
first-transport ls (Some s) h =
    let w = first-member is_transport ls s h in
    (w.0, transport-checksum s.layer.kind w.1, tt)

pub covering-have : (e : Edit) (l : LayerAt) (ls : List LayerAt) (t : Option LayerAt) → Member l ls → first is_transport ls ≡ t
    → HaveChecksums ls (covering e l t)
covering-have e l ls t m h =
    let own : HaveChecksums ls (if is_of kind.Ipv4 l then l ∷ [] else []) =
    cond_both (is_of kind.Ipv4 l) (l ∷ []) [] (HaveChecksums ls) (λ p. (m, ipv4-checksum l.layer.kind p, tt)) (λ p. tt) in
    let other : HaveChecksums ls (if is_in_transport_sum e then option_to_list t else []) =
    cond_both (is_in_transport_sum e) (option_to_list t) [] (HaveChecksums ls) (λ p. first-transport ls t h) (λ p. tt) in
    HaveChecksums-append ls (if is_of kind.Ipv4 l then l ∷ [] else []) (if is_in_transport_sum e then option_to_list t else []) own other
