use Rattle.std.proofs.Common.{◌≡◌, drop, fold, flat_map, length}
use Rattle.packet_headers.specs.Layers.{LieWithin}
use Rattle.replica.specs.Path.{edits_at}
use Rattle.replica.specs.Rewritten.{frame_at, edited}
use Rattle.replica.proofs.rewriting.edit_by_path.Given as goal

-- the edits of the rules that are left come to what all come to
abbrev pub invariant-loop-id : goal.invariant-loop-id
invariant-loop-id l = record {
  edited : fold edited (frame_at l.key l.frame) (flat_map (edits_at l.rules) (drop l.id-index l.path))
      ≡ fold edited (frame_at l.initial.key l.initial.frame) (flat_map (edits_at l.rules) l.path);
  within : LieWithin 0 (length l.frame) l.key;
}
