-- An edit of a frame's bytes. Of the layers it takes the kinds and the offsets alone; each old value
-- is read from the bytes.
use Rattle.std.specs.Prelude.{ℕ, ◌+◌, if◌then◌else◌, Option, Some, None, List, [], ◌∷◌, ◌++◌, length, take, drop}
use Rattle.std.specs.Option.{option_to_list}
use Rattle.byteorder.specs.Endian.{big_bytes}
use Rattle.packet_headers.specs.declared.items.ItemKind.{ItemKind}
use Rattle.packet_headers.specs.declared.items.ItemKind.TheVariants as kind
use Rattle.packet_headers.specs.declared.items.LayerAt.{LayerAt}
use Rattle.packet_headers.specs.declared.edits.Edit.{Edit}
use Rattle.packet_headers.specs.Fields.{number_at}
use Rattle.packet_headers.specs.Key.{is_of}
use Rattle.header_edit.specs.Checksum.{words_of, mended, mended_udp}
use Rattle.header_edit.specs.Field.{Field, field_in, has_field, new_words, is_in_transport_sum}
use Rattle.header_edit.specs.Layers.{first, is_transport}

-- `count` bytes from `place` on
abbrev pub bytes_at : ℕ → ℕ → List ℕ → List ℕ
bytes_at place count bytes = take count (drop place bytes)

-- the same bytes but for `part`, which stands from `place` on
unfoldable pub put : ℕ → List ℕ → List ℕ → List ℕ
put place part bytes = take place bytes ++ (part ++ drop (place + length part) bytes)

-- where the checksum stands in a header of IPv4, TCP or UDP
abbrev pub checksum_from : ItemKind → ℕ
checksum_from kind.Ipv4 = 10
checksum_from kind.Tcp = 16
checksum_from _ = 6

-- the checksum of a header of this kind, after the bytes `old` that it covers became `new`
abbrev pub mended_of : ItemKind → ℕ → List ℕ → List ℕ → ℕ
mended_of kind.Udp checksum old new = mended_udp checksum (words_of old) (words_of new)
mended_of _ checksum old new = mended checksum (words_of old) (words_of new)

-- the frame in which the checksum of this header is mended
abbrev pub with_checksum : ItemKind → ℕ → List ℕ → List ℕ → List ℕ → List ℕ
with_checksum k offset old new frame =
    put (offset + checksum_from k) (big_bytes 2 (mended_of k (number_at (offset + checksum_from k) 2 frame) old new)) frame

-- the same for each of these headers
abbrev pub with_checksums : List LayerAt → List ℕ → List ℕ → List ℕ → List ℕ
with_checksums [] old new frame = frame
with_checksums (l ∷ ls) old new frame = with_checksums ls old new (with_checksum l.layer.kind l.offset old new frame)

-- the frame in which the bytes from `place` on became `new`, and the checksums of these headers were
-- mended for it
abbrev pub changed : ℕ → List ℕ → List LayerAt → List ℕ → List ℕ
changed place new headers frame = put place new (with_checksums headers (bytes_at place (length new) frame) new frame)

-- the headers whose checksums cover the field of an edit, which changes the layer `l`
abbrev pub covering : Edit → LayerAt → Option LayerAt → List LayerAt
covering e l transport =
    (if is_of kind.Ipv4 l then l ∷ [] else []) ++ (if is_in_transport_sum e then option_to_list transport else [])

-- the frame in which this field of the layer `l` is changed
abbrev pub with_words : Edit → LayerAt → Option LayerAt → Option Field → List ℕ → List ℕ
with_words e l transport None frame = frame
with_words e l transport (Some f) frame =
    changed (l.offset + f.from) (big_bytes f.count (new_words e l.layer.kind (number_at (l.offset + f.from) f.count frame))) (covering e l transport) frame

abbrev pub edit_layer : Edit → Option LayerAt → Option LayerAt → List ℕ → List ℕ
edit_layer e None transport frame = frame
edit_layer e (Some l) transport frame = with_words e l transport (field_in e l.layer.kind) frame

-- an edit of a frame that has these layers
unfoldable pub edit_bytes : Edit → List LayerAt → List ℕ → List ℕ
edit_bytes e ls frame = edit_layer e (first (has_field e) ls) (first is_transport ls) frame
