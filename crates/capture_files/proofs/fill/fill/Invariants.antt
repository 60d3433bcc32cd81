use Rattle.std.proofs.Common.{length, take, ◌-◌, ◌≡◌, ◌≤◌, is_some}
use Rattle.std.specs.Io.KnownBytes.{Consumes}
use Rattle.capture_files.proofs.fill.fill.Given as goal

abbrev pub invariant-loop-got : goal.invariant-loop-got
invariant-loop-got g l = record {
  within : l.got ≤ length l.buf;
  bytes : Consumes (g.S.Source.left l.initial.source) (g.S.Source.left l.source) (take l.got l.buf);
  told : is_some (g.S.Source.left l.source) ≡ is_some (g.S.Source.left l.initial.source);
  calm : g.S.Source.faults l.source ≡ g.S.Source.faults l.initial.source;
  keeps : g.S.Source.keeps l.initial.source l.source;
}

abbrev pub decreases-loop-got : goal.decreases-loop-got
decreases-loop-got g l = length l.initial.buf - l.got
