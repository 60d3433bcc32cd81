-- The chain gives what each of its steps gives in turn.
use Rattle.std.proofs.Common.{rules, tests}
use Rattle.std.proofs.lemmas.Iterator.Consumers.{map_from_collect, YieldsList-from_filter, YieldsList-at}
use Rattle.std.proofs.lemmas.Iterator.Search.{YieldsList-from_take_while}
use Rattle.std.proofs.lemmas.Iterator.Splits.{YieldsList-from_slice_split}
use Rattle.flow_grammar.proofs.words.words_of.Goals as goal

pub returns : goal.returns
returns c =
    map_from_collect _ c.collect.ensures.ran
    (YieldsList-from_take_while _ _
    (YieldsList-at c.take_while.ensures.source
    (YieldsList-from_filter _ _
    (YieldsList-at c.filter.ensures.source
    (YieldsList-from_slice_split _ _ c.args.line.now c.split.ensures.rest c.split.ensures.done
    c.split.ensures.closure (λ x b q h. search (rules, tests))))
    c.filter.ensures.closure (λ x b q h. search (rules, tests))))
    c.take_while.ensures.closure c.take_while.ensures.done (λ x b q h. search (rules, tests)))
