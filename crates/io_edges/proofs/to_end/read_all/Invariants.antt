use Rattle.std.proofs.Common.{◌≡◌, ◌≤◌, ◌-◌, ◌+◌, vec_len, is_some}
use Rattle.io_edges.specs.ReadAll.{Taken}
use Rattle.io_edges.proofs.to_end.read_all.Given as goal

abbrev pub invariant-loop-count : goal.invariant-loop-count
invariant-loop-count g l = record {
  taken : Taken (g.S.Source.left l.initial.source) (g.S.Source.left l.source) (g.S.Source.faults l.initial.source) (g.S.Source.faults l.source) l.bytes.items;
  within : vec_len l.bytes ≤ l.limit;
  told : is_some (g.S.Source.left l.source) ≡ is_some (g.S.Source.left l.initial.source);
  keeps : g.S.Source.keeps l.initial.source l.source;
}

abbrev pub decreases-loop-count : goal.decreases-loop-count
decreases-loop-count g l = l.limit + 1 - vec_len l.bytes
