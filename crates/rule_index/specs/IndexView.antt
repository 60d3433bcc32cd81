-- What contracts see of an index.
use Rattle.std.specs.Prelude.{ℕ, if◌then◌else◌, List, [], ◌∷◌, Option, None, Some}
use Rattle.flow_rules.specs.RuleView.{RuleView}
use Rattle.flow_rules.specs.Changes.{has_id}

-- the rules in the order of their inserts, and how many inserts there were
pub record IndexView : Type 0 where
  pub rules : List RuleView
  pub inserts : ℕ

abbrev pub no_rules : IndexView
no_rules = record { rules = []; inserts = 0 }

-- the first rule of an id
abbrev pub named : ℕ → List RuleView → Option RuleView
named id [] = None
named id (rule ∷ rules) = if has_id id rule then Some rule else named id rules
