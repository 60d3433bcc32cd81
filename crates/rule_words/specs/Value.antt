-- Values behind a word: numbers of so many bits, and addresses.
use Rattle.std.specs.Prelude.{ℕ, List, Option}
use Rattle.rule_words.specs.declared.value.Form.{Form}
use Rattle.rule_words.specs.declared.value.Form.TheVariants as forms
use Rattle.rule_words.specs.Number.{number_of_bits}
use Rattle.rule_words.specs.Address as addresses

-- how many bits a value has at most
abbrev pub width_of : Form → ℕ
width_of (forms.Number bits) = bits
width_of (forms.Address a) = addresses.width_of a

-- the value that a word is
abbrev pub value_of : Form → List ℕ → Option ℕ
value_of (forms.Number bits) word = number_of_bits bits word
value_of (forms.Address a) word = addresses.address_of a word
