-- What contracts see of a template table: the attributes and templates of its rules, how many slots there are, the taken slots
-- by the ids of their rules, each reserved or settled with its rule, and the greatest id for which a slot was ever reserved.
use Rattle.std.specs.Prelude.{ℕ, List, [], Option, None}
use Rattle.flow_rules.specs.declared.spec.Attr.{Attr}
use Rattle.flow_rules.specs.RuleView.{RuleView}

pub record TableView : Type 0 where
  pub attr : Attr
  pub patterns : List ℕ
  pub actions : List ℕ
  pub rules_number : ℕ
  pub slots : List (ℕ × Option RuleView)
  pub greatest : Option ℕ

abbrev pub empty_table : Attr → ℕ → List ℕ → List ℕ → TableView
empty_table attr rules_number patterns actions =
    record { attr = attr; patterns = patterns; actions = actions; rules_number = rules_number; slots = []; greatest = None }
