-- The test of each word, read through its reference.
use Rattle.std.proofs.Common.{rules, tests, ◌∙◌, sym}
use Rattle.std.specs.List.{list_all}
use Rattle.std.proofs.lemmas.Iterator.{YieldsList-from_slice}
use Rattle.std.proofs.lemmas.Iterator.Search.{all_from_yields_List}
use Rattle.std.proofs.lemmas.List.Folds.{list_all-map}
use Rattle.flow_grammar.specs.Words.{is_printable}
use Rattle.flow_grammar.proofs.words.are_printable.Goals as goal

pub returns : goal.returns
returns c =
    all_from_yields_List (λ word. list_all is_printable word.now) _ _ _ c.all.ensures.ran
    (YieldsList-from_slice c.args.words.now cc) (λ x b q h. search (rules, tests))
    ∙ sym (list_all-map (list_all is_printable) (λ word. word.now) c.args.words.now)
