-- An edit of a frame's layers: the field of the first layer of the needed kind in front of VXLAN is
-- changed, or nothing where there is none.
use Rattle.std.specs.Prelude.{ℕ, Bool, true, false, if◌then◌else◌, slice_index, slice_set, Option, Some, None, List, [], ◌∷◌}
use Rattle.packet_headers.specs.declared.items.ItemKind.{ItemKind}
use Rattle.packet_headers.specs.declared.items.ItemKind.TheVariants as kind
use Rattle.packet_headers.specs.declared.items.LayerAt.{LayerAt}
use Rattle.packet_headers.specs.declared.edits.Edit.{Edit}
use Rattle.packet_headers.specs.Key.{is_of}
use Rattle.header_edit.specs.Field.{Field, field_in, has_field, new_number}

-- the layer with this field changed, where its kind has it
abbrev pub with_field : Edit → LayerAt → Option Field → LayerAt
with_field e l None = l
with_field e l (Some f) =
    record l { layer = record l.layer { v = slice_set l.layer.v f.number (new_number e (slice_index l.layer.v f.number)) } }

abbrev pub edited : Edit → LayerAt → LayerAt
edited e l = with_field e l (field_in e l.layer.kind)

abbrev pub edit_layers : Edit → List LayerAt → List LayerAt
edit_layers e [] = []
edit_layers e (l ∷ ls) =
    if is_of kind.Vxlan l then l ∷ ls
    else (if has_field e l.layer.kind then edited e l ∷ ls else l ∷ edit_layers e ls)

-- the first layer of these kinds in front of VXLAN
abbrev pub first : (ItemKind → Bool) → List LayerAt → Option LayerAt
first kinds [] = None
first kinds (l ∷ ls) =
    if is_of kind.Vxlan l then None else (if kinds l.layer.kind then Some l else first kinds ls)

-- what an edit of a layer leaves: its kind, and where it begins
abbrev pub place_of : LayerAt → ItemKind × ℕ
place_of l = (l.layer.kind, l.offset)

abbrev pub is_transport : ItemKind → Bool
is_transport kind.Tcp = true
is_transport kind.Udp = true
is_transport _ = false
