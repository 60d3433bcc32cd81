use Rattle.std.proofs.Common.{arith, ap, ◌∙◌, map, slice_index_or, []}
use Rattle.std.proofs.lemmas.List.FromFn.{get_or-map-range_with_len}
use Rattle.std.specs.List.{range_with_len}
use Rattle.flow_actions.specs.Halves.{half_hash, half_table}
use Rattle.flow_actions.proofs.halves.half_hash.Goals as goal

pub returns : goal.returns
unfolding half_table
returns c =
    ap (λ rows. slice_index_or (slice_index_or rows c.args.place []) c.args.half 0) c.halves.ensures
    ∙ (ap (λ row. slice_index_or row c.args.half 0)
    (get_or-map-range_with_len (λ place. map (half_hash place) (range_with_len 0 16)) 0 72 c.args.place c.args.place [] c.requires.place (omega arith))
    ∙ get_or-map-range_with_len (half_hash c.args.place) 0 16 c.args.half c.args.half 0 c.requires.half (omega arith))
