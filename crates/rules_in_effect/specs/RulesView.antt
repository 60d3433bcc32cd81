-- What contracts see of the rules in effect.
use Rattle.std.specs.Prelude.{ℕ, List}
use Rattle.rules_in_effect.specs.declared.in_effect.InEffect.{InEffect}

-- the rules in the order in which they took effect, and how many more can take effect without memory
pub record RulesView : Type 0 where
  pub list : List InEffect
  pub room : ℕ
