use Rattle.std.proofs.Common.{◌≡◌, drop, fold, flat_map, length}
use Rattle.packet_headers.specs.Layers.{LieWithin}
use Rattle.replica.specs.Path.{edits_by}
use Rattle.replica.specs.Rewritten.{frame_at, edited}
use Rattle.replica.proofs.rewriting.edit_by_rule.Given as goal

-- the edits that are left come to what all come to
abbrev pub invariant-loop-action : goal.invariant-loop-action
invariant-loop-action l = record {
  edited : fold edited (frame_at l.key l.frame) (flat_map edits_by (drop l.action-index l.rule.actions))
      ≡ fold edited (frame_at l.initial.key l.initial.frame) (flat_map edits_by l.rule.actions);
  within : LieWithin 0 (length l.frame) l.key;
}
