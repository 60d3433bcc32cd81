use Rattle.rule_words.specs.Attributes.{no_attributes}
use Rattle.rule_words.proofs.WrittenAttributes.{attributes-read, directions-read}
use Rattle.rule_words.proofs.written.written_attributes_are_read.Goals as goal

pub returns-clause-attributes : goal.returns-clause-attributes
returns-clause-attributes c = λ ending attrs attr rest none is. attributes-read ending attrs no_attributes attr rest none is

pub returns-clause-directions : goal.returns-clause-directions
returns-clause-directions c = λ ending attrs attr rest none is. directions-read ending attrs no_attributes attr rest none is
