use Rattle.std.proofs.lemmas.List.Elements.{All-pop}
use Rattle.frame_ring.specs.Rings.{IsPassOf, IsFresh}
use Rattle.ring_tests.proofs.Numbered.{Numbered-pop}
use Rattle.ring_tests.proofs.passes.take_pass.Goals as goal

pub returns-clause-number : goal.returns-clause-number
returns-clause-number c = (Numbered-pop _ _ _ _ c.pop.ensures.last c.unwrap.ensures c.requires.numbers).1

pub returns-clause-numbers : goal.returns-clause-numbers
returns-clause-numbers c = (Numbered-pop _ _ _ _ c.pop.ensures.last c.unwrap.ensures c.requires.numbers).0

pub returns-clause-passes : goal.returns-clause-passes
returns-clause-passes c =
    ((All-pop (IsPassOf c.args.ring.now) _ _ _ c.pop.ensures.last c.requires.passes.0).0, (All-pop IsFresh _ _ _ c.pop.ensures.last c.requires.passes.1).0)
