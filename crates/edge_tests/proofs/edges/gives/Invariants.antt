use Rattle.edge_tests.proofs.edges.gives.Given as goal

abbrev pub invariant-loop-answer : goal.invariant-loop-answer
invariant-loop-answer g l = g.S.Source.keeps l.initial.source l.source
