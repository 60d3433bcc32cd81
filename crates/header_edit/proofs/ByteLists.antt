-- A frame's bytes are bytes after a write and after a change of checksums too.
use Rattle.std.proofs.Common.{ℕ, zero, suc, ◌+◌, ◌<◌, List, [], ◌∷◌, take, length, arith}
use Rattle.std.proofs.lemmas.List.Elements.{All-append, All-take, All-drop, All-cons, All-nil}
use Rattle.std.specs.Int.{byte_at}
use Rattle.byteorder.specs.Endian.{big_bytes}
use Rattle.packet_headers.specs.declared.items.LayerAt.{LayerAt}
use Rattle.header_edit.specs.Frame.{put, with_checksum, with_checksums}
use Rattle.header_edit.specs.Shown.{AreBytes}

abbrev IsByte : ℕ → Type 0
IsByte b = b < 256

byte_at-below : (i n : ℕ) → byte_at i n < 256
byte_at-below zero n = omega arith
byte_at-below (suc i) n = omega arith

pub AreBytes-big_bytes : (n x : ℕ) → AreBytes (big_bytes n x)
AreBytes-big_bytes zero x = All-nil IsByte
AreBytes-big_bytes (suc n) x = All-cons IsByte (byte_at n x) (big_bytes n x) (byte_at-below n x) (AreBytes-big_bytes n x)

pub AreBytes-put : (place : ℕ) (part frame : List ℕ) → AreBytes part → AreBytes frame → AreBytes (put place part frame)
unfolding put
AreBytes-put place part frame h k =
    All-append IsByte (take place frame) _ (All-take IsByte place frame k)
    (All-append IsByte part _ h (All-drop IsByte (place + length part) frame k))

pub AreBytes-with_checksums : (ss : List LayerAt) (old new frame : List ℕ) → AreBytes frame → AreBytes (with_checksums ss old new frame)
AreBytes-with_checksums [] old new frame h = h
AreBytes-with_checksums (s ∷ ss) old new frame h =
    AreBytes-with_checksums ss old new (with_checksum s.layer.kind s.offset old new frame) (AreBytes-put _ (big_bytes 2 _) frame (AreBytes-big_bytes 2 _) h)
