-- What contracts see of a rule.
use Rattle.std.specs.Prelude.{ℕ, List}
use Rattle.flow_actions.specs.declared.action.Action.{Action}
use Rattle.pattern_items.specs.declared.test.Test.{Test}

pub record RuleView : Type 0 where
  pub id : ℕ
  pub group : ℕ
  pub priority : ℕ
  pub test : Test
  pub actions : List Action
