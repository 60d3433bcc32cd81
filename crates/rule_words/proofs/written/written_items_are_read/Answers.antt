use Rattle.rule_words.specs.Items.{no_items}
use Rattle.rule_words.proofs.WrittenItems.{items-read, items-only}
use Rattle.rule_words.proofs.written.written_items_are_read.Goals as goal

pub returns-clause-read : goal.returns-clause-read
returns-clause-read c = λ items pattern rest is. items-read items no_items pattern rest is

pub returns-clause-only : goal.returns-clause-only
returns-clause-only c = λ words pattern rest is. items-only no_items pattern words rest is
