-- One change of a frame: words are written, and the checksums of some of its headers are mended for it.
use Rattle.std.proofs.Common.{◌≡◌, ℕ, ◌+◌, ◌≤◌, ◌⊎◌, List, [], ◌∷◌, ◌++◌, length, refl, sym, ap, ◌∙◌, arith}
use Rattle.byteorder.specs.Endian.{big_bytes}
use Rattle.packet_headers.specs.declared.items.LayerAt.{LayerAt}
use Rattle.packet_headers.specs.Fields.{number_at}
use Rattle.packet_headers.specs.Layers.{LieWithin}
use Rattle.header_edit.specs.Frame.{bytes_at, put, checksum_from, mended_of, with_checksum, with_checksums, changed}
use Rattle.header_edit.specs.Shown.{AreBytes}
use Rattle.header_edit.proofs.ByteLists.{AreBytes-put, AreBytes-with_checksums}
use Rattle.header_edit.proofs.Checksums.{HaveChecksums, Rooms, Clear, Rooms-layers, length-with_checksums, with_checksums-clear}
use Rattle.header_edit.proofs.Effects.{number_at-inner}
use Rattle.header_edit.proofs.Puts.{length-put, bytes_at-put_apart, bytes_at-put_around}

with_checksums-append : (ss ts : List LayerAt) (old new frame : List ℕ) → with_checksums (ss ++ ts) old new frame ≡ with_checksums ts old new (with_checksums ss old new frame)
with_checksums-append [] ts old new frame = refl
with_checksums-append (s ∷ ss) ts old new frame = with_checksums-append ss ts old new (with_checksum s.layer.kind s.offset old new frame)

pub Clear-append : (p m : ℕ) (ss ts : List LayerAt) → Clear p m ss → Clear p m ts → Clear p m (ss ++ ts)
Clear-append p m [] ts h k = k
Clear-append p m (s ∷ ss) ts h k = (h.0, Clear-append p m ss ts h.1 k)

pub have-left : (ls ss ts : List LayerAt) → HaveChecksums ls (ss ++ ts) → HaveChecksums ls ss
have-left ls [] ts h = tt
have-left ls (s ∷ ss) ts h = (h.0, h.1, have-left ls ss ts h.2)

module _ (ls ss : List LayerAt) (place : ℕ) (new frame : List ℕ) (within : LieWithin 0 (length frame) ls) (have : HaveChecksums ls ss)
    (fits : place + length new ≤ length frame) where
  mid-length : length (with_checksums ss (bytes_at place (length new) frame) new frame) ≡ length frame
  mid-length = length-with_checksums ss (bytes_at place (length new) frame) new frame (Rooms-layers (length frame) ls ss within have)

  pub changed-length : length (changed place new ss frame) ≡ length frame
  changed-length =
      length-put place new (with_checksums ss (bytes_at place (length new) frame) new frame) (omega (arith, mid-length)) ∙ mid-length

  pub changed-bytes : AreBytes new → AreBytes frame → AreBytes (changed place new ss frame)
  changed-bytes h k =
      AreBytes-put place new (with_checksums ss (bytes_at place (length new) frame) new frame) h
      (AreBytes-with_checksums ss (bytes_at place (length new) frame) new frame k)

  pub mid-kept : (p m : ℕ) → Clear p m ss → bytes_at p m (with_checksums ss (bytes_at place (length new) frame) new frame) ≡ bytes_at p m frame
  mid-kept p m c = with_checksums-clear ss p m (bytes_at place (length new) frame) new frame (Rooms-layers (length frame) ls ss within have) c

  -- bytes apart from the write
  pub changed-apart : (p m : ℕ) → (p + m ≤ place) ⊎ (place + length new ≤ p)
      → bytes_at p m (changed place new ss frame) ≡ bytes_at p m (with_checksums ss (bytes_at place (length new) frame) new frame)
  changed-apart p m apart =
      bytes_at-put_apart p m place new (with_checksums ss (bytes_at place (length new) frame) new frame) apart (omega (arith, mid-length))

  -- bytes around it
  pub changed-around : (p m q : ℕ) → place ≡ p + q → q + length new ≤ m → p + m ≤ length frame
      → bytes_at p m (changed place new ss frame) ≡ put q new (bytes_at p m (with_checksums ss (bytes_at place (length new) frame) new frame))
  changed-around p m q e h k =
      bytes_at-put_around p m q place new (with_checksums ss (bytes_at place (length new) frame) new frame) e h (omega (arith, mid-length))

-- the bytes of a transport header in which its checksum is mended
abbrev pub with_own : LayerAt → List ℕ → List ℕ → List ℕ → List ℕ
with_own t old new part =
    put (checksum_from t.layer.kind) (big_bytes 2 (mended_of t.layer.kind (number_at (checksum_from t.layer.kind) 2 part) old new)) part

pub mended-own : (ss : List LayerAt) (t : LayerAt) (count : ℕ) (old new frame : List ℕ) → Rooms (length frame) ss → Clear t.offset count ss
    → checksum_from t.layer.kind + 2 ≤ count → t.offset + count ≤ length frame
    → bytes_at t.offset count (with_checksums (ss ++ t ∷ []) old new frame) ≡ with_own t old new (bytes_at t.offset count frame)
mended-own ss t count old new frame rooms clear room inside =
    let k = t.layer.kind in
    let at = checksum_from k in
    let front = with_checksums ss old new frame in
    let len : length front ≡ length frame = length-with_checksums ss old new frame rooms in
    let part = bytes_at t.offset count front in
    ap (bytes_at t.offset count) (with_checksums-append ss (t ∷ []) old new frame)
    ∙ (bytes_at-put_around t.offset count at (t.offset + at) (big_bytes 2 (mended_of k (number_at (t.offset + at) 2 front) old new)) front refl room (omega arith)
    ∙ (ap (λ c. put at (big_bytes 2 (mended_of k c old new)) part) (sym (number_at-inner t.offset count at 2 front room))
    ∙ ap (with_own t old new) (with_checksums-clear ss t.offset count old new frame rooms clear)))
