use Rattle.std.proofs.Common.{◌∙◌, arith, length-drop}
use Rattle.std.proofs.lemmas.List.{take_rest}
use Rattle.io_edges.proofs.Fronts.{Appends-rest}
use Rattle.io_edges.proofs.writing.write_all.Goals as goal

-- the write took the first of the rest
pub loop-sent-preserved : goal.loop-sent-preserved
loop-sent-preserved g c = record {
  took = Appends-rest _ _ _ _ _ _ c.loop-sent.invariant.took c.in-Ok.ensures.writes.bytes;
  told = c.in-Ok.ensures.writes.told ∙ c.loop-sent.invariant.told;
  calm = c.in-Ok.ensures.cause.kept ∙ c.loop-sent.invariant.calm;
  within = let bound = simp take_rest at c.in-Ok.ensures.writes.bound in omega (arith, length-drop c.loop-sent.sent c.args.bytes.now);
  keeps = g.met.K.Sink.keeps_more _ _ _ c.loop-sent.invariant.keeps c.in-Ok.ensures.keeps;
}
