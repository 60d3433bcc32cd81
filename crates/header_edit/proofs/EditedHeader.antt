-- The layer of a header in which an edit changed its field is the edited layer.
use Rattle.std.proofs.Common.{◌≡◌, ℕ, ◌+◌, ◌-◌, ◌*◌, ◌/◌, ◌%◌, ◌<◌, ◌≤◌, ◌⊎◌, inl, inr, Bool, Some, List, refl, arith, lit≤}
use Rattle.packet_headers.specs.declared.items.ItemKind.{ItemKind}
use Rattle.packet_headers.specs.declared.edits.Edit.{Edit}
use Rattle.packet_headers.specs.Fields.{number_at}
use Rattle.packet_headers.specs.Layers.{header, header_len}
use Rattle.header_edit.specs.Field.{FitsField, Field, field_in, new_words}
use Rattle.header_edit.specs.Layers.{edited}
use Rattle.header_edit.specs.Shown.{AreBytes}
use Rattle.header_edit.proofs.Numbers.{number_at-two, number_at-fits}
use Rattle.header_edit.proofs.HeaderNumbers.{IsOff}
use Rattle.header_edit.proofs.EachField.{Each, at_field}

-- but for the words of this field and the checksum, the header's bytes hold the same numbers in both
abbrev pub SameBut : Field → ItemKind → List ℕ → List ℕ → Type 0
SameBut f k xs ys =
    (from count : ℕ) → from + count ≤ header_len k → IsOff k from count → (from + count ≤ f.from) ⊎ (f.from + f.count ≤ from)
    → number_at from count xs ≡ number_at from count ys

-- the words hold what the edit makes of them
abbrev pub IsNew : Edit → ItemKind → Field → List ℕ → List ℕ → Type 0
IsNew e k f xs ys = number_at f.from f.count ys ≡ new_words e k (number_at f.from f.count xs)

abbrev Edits : Edit → ItemKind → Field → Type 0
Edits e k f =
    (o : ℕ) (b : Bool) (xs ys : List ℕ) → FitsField e → AreBytes xs → AreBytes ys → SameBut f k xs ys → IsNew e k f xs ys
    → edited e (header k o b xs) ≡ header k o b ys

-- the bytes of a word
parts : (p : ℕ) (xs : List ℕ) → AreBytes xs → (number_at p 2 xs / 256 ≡ number_at p 1 xs) × (number_at p 2 xs % 256 ≡ number_at (p + 1) 1 xs)
parts p xs h =
    let a = number_at-two p xs in
    let b = number_at-fits (p + 1) 1 xs h in
    (omega arith, omega arith)

-- a word whose high byte changed
high-byte : (p new : ℕ) (xs ys : List ℕ) → AreBytes xs → AreBytes ys → new < 256
    → number_at p 2 ys ≡ new * 256 + number_at p 2 xs % 256
    → (number_at p 1 ys ≡ new) × (number_at (p + 1) 1 ys ≡ number_at (p + 1) 1 xs)
high-byte p new xs ys h k fits e =
    let a = parts p xs h in
    let b = parts p ys k in
    (omega arith, omega arith)

-- a word whose low byte changed
low-byte : (p new : ℕ) (xs ys : List ℕ) → AreBytes xs → AreBytes ys → new < 256
    → number_at p 2 ys ≡ number_at p 2 xs / 256 * 256 + new
    → (number_at p 1 ys ≡ number_at p 1 xs) × (number_at (p + 1) 1 ys ≡ new)
low-byte p new xs ys h k fits e =
    let a = parts p xs h in
    let b = parts p ys k in
    (omega arith, omega arith)

ttl : (new : ℕ) (xs ys : List ℕ) → AreBytes xs → AreBytes ys → new < 256
    → number_at 8 2 ys ≡ new * 256 + number_at 8 2 xs % 256
    → (number_at 8 1 ys ≡ new) × (number_at 9 1 ys ≡ number_at 9 1 xs)
ttl new xs ys h k fits e = high-byte 8 new xs ys h k fits e

hop : (new : ℕ) (xs ys : List ℕ) → AreBytes xs → AreBytes ys → new < 256
    → number_at 6 2 ys ≡ number_at 6 2 xs / 256 * 256 + new
    → (number_at 6 1 ys ≡ number_at 6 1 xs) × (number_at 7 1 ys ≡ new)
hop new xs ys h k fits e = low-byte 6 new xs ys h k fits e

-- the low 12 bits of a word changed
tag : (n old new : ℕ) → n < 4096 → new ≡ old / 4096 * 4096 + n
    → (new / 8192 % 8 ≡ old / 8192 % 8) × (new / 4096 % 2 ≡ old / 4096 % 2) × (new / 1 % 4096 ≡ n)
tag n old new fits e =
    let top : new / 4096 ≡ old / 4096 = omega arith in
    let split : (m : ℕ) → m / 8192 ≡ m / 4096 / 2 = λ m. omega arith in
    let a = split new in
    let b = split old in
    (omega arith, omega arith, omega arith)

each : Each Edits
unfolding header
each = record {
  mac_dst = λ n o b xs ys fits _ _ h e. rw (e, h 6 6 (lit≤ tt) tt (inr (lit≤ tt)), h 12 2 (lit≤ tt) tt (inr (lit≤ tt))) refl;
  mac_src = λ n o b xs ys fits _ _ h e. rw (e, h 0 6 (lit≤ tt) tt (inl (lit≤ tt)), h 12 2 (lit≤ tt) tt (inr (lit≤ tt))) refl;
  ipv4_src = λ n o b xs ys fits _ _ h e. rw (e, h 1 1 (lit≤ tt) (inl (lit≤ tt)) (inl (lit≤ tt)), h 8 1 (lit≤ tt) (inl (lit≤ tt)) (inl (lit≤ tt)), h 9 1 (lit≤ tt) (inl (lit≤ tt)) (inl (lit≤ tt)), h 16 4 (lit≤ tt) (inr (lit≤ tt)) (inr (lit≤ tt))) refl;
  ipv4_dst = λ n o b xs ys fits _ _ h e. rw (e, h 1 1 (lit≤ tt) (inl (lit≤ tt)) (inl (lit≤ tt)), h 8 1 (lit≤ tt) (inl (lit≤ tt)) (inl (lit≤ tt)), h 9 1 (lit≤ tt) (inl (lit≤ tt)) (inl (lit≤ tt)), h 12 4 (lit≤ tt) (inr (lit≤ tt)) (inl (lit≤ tt))) refl;
  ipv6_src = λ n o b xs ys fits _ _ h e. rw (e, h 0 4 (lit≤ tt) tt (inl (lit≤ tt)), h 6 1 (lit≤ tt) tt (inl (lit≤ tt)), h 7 1 (lit≤ tt) tt (inl (lit≤ tt)), h 24 16 (lit≤ tt) tt (inr (lit≤ tt))) refl;
  ipv6_dst = λ n o b xs ys fits _ _ h e. rw (e, h 0 4 (lit≤ tt) tt (inl (lit≤ tt)), h 6 1 (lit≤ tt) tt (inl (lit≤ tt)), h 7 1 (lit≤ tt) tt (inl (lit≤ tt)), h 8 16 (lit≤ tt) tt (inl (lit≤ tt))) refl;
  tcp_src = λ n o b xs ys fits _ _ h e. rw (e, h 2 2 (lit≤ tt) (inl (lit≤ tt)) (inr (lit≤ tt)), h 13 1 (lit≤ tt) (inl (lit≤ tt)) (inr (lit≤ tt))) refl;
  udp_src = λ n o b xs ys fits _ _ h e. rw (e, h 2 2 (lit≤ tt) (inl (lit≤ tt)) (inr (lit≤ tt))) refl;
  tcp_dst = λ n o b xs ys fits _ _ h e. rw (e, h 0 2 (lit≤ tt) (inl (lit≤ tt)) (inl (lit≤ tt)), h 13 1 (lit≤ tt) (inl (lit≤ tt)) (inr (lit≤ tt))) refl;
  udp_dst = λ n o b xs ys fits _ _ h e. rw (e, h 0 2 (lit≤ tt) (inl (lit≤ tt)) (inl (lit≤ tt))) refl;
  dec_ttl = λ o b xs ys fits p q h e.
      let old = parts 8 xs p in
      let small = number_at-fits 8 1 xs p in
      let w = ttl (number_at 8 1 xs - 1) xs ys p q (omega arith) (omega arith) in
      rw (w.0, w.1, h 1 1 (lit≤ tt) (inl (lit≤ tt)) (inl (lit≤ tt)), h 12 4 (lit≤ tt) (inr (lit≤ tt)) (inr (lit≤ tt)), h 16 4 (lit≤ tt) (inr (lit≤ tt)) (inr (lit≤ tt))) refl;
  dec_hop = λ o b xs ys fits p q h e.
      let old = parts 6 xs p in
      let small = number_at-fits 7 1 xs p in
      let w = hop (number_at 7 1 xs - 1) xs ys p q (omega arith) (omega arith) in
      rw (w.0, w.1, h 0 4 (lit≤ tt) tt (inl (lit≤ tt)), h 8 16 (lit≤ tt) tt (inr (lit≤ tt)), h 24 16 (lit≤ tt) tt (inr (lit≤ tt))) refl;
  set_ttl = λ n o b xs ys fits p q h e.
      let w = ttl n xs ys p q fits e in
      rw (w.0, w.1, h 1 1 (lit≤ tt) (inl (lit≤ tt)) (inl (lit≤ tt)), h 12 4 (lit≤ tt) (inr (lit≤ tt)) (inr (lit≤ tt)), h 16 4 (lit≤ tt) (inr (lit≤ tt)) (inr (lit≤ tt))) refl;
  set_hop = λ n o b xs ys fits p q h e.
      let w = hop n xs ys p q fits e in
      rw (w.0, w.1, h 0 4 (lit≤ tt) tt (inl (lit≤ tt)), h 8 16 (lit≤ tt) tt (inr (lit≤ tt)), h 24 16 (lit≤ tt) tt (inr (lit≤ tt))) refl;
  set_vid = λ n o b xs ys fits p q h e.
      let w = tag n (number_at 0 2 xs) (number_at 0 2 ys) fits e in
      rw (w.0, w.1, w.2, h 2 2 (lit≤ tt) tt (inr (lit≤ tt))) refl;
}

pub edited-header : (e : Edit) (k : ItemKind) (f : Field) → field_in e k ≡ Some f → Edits e k f
edited-header e k f h = at_field Edits each e k f h
