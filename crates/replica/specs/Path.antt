-- Which edits a walk does: those of the rules on its path, in order. No shared action is an edit.
use Rattle.std.specs.Prelude.{◌≡◌, ℕ, flat_map, List, [], ◌∷◌, Option, None, Some}
use Rattle.packet_headers.specs.declared.items.LayerAt.{LayerAt}
use Rattle.packet_headers.specs.declared.edits.Edit.{Edit}
use Rattle.flow_actions.specs.declared.action.Action.{Action}
use Rattle.flow_actions.specs.declared.action.Action.TheVariants as actions
use Rattle.flow_rules.specs.Naming.{rule_at}
use Rattle.flow_rules.specs.RuleView.{RuleView}
use Rattle.flow_rules.specs.Walk.{Flows, walk, verdict_of}

-- the edit, where the action is one
abbrev pub edits_by : Action → List Edit
edits_by (actions.Set edit) = edit ∷ []
edits_by _ = []

-- the edits of a rule, in order
abbrev pub edits_of : RuleView → List Edit
edits_of rule = flat_map edits_by rule.actions

abbrev pub edits_in : Option RuleView → List Edit
edits_in None = []
edits_in (Some rule) = edits_of rule

-- the edits of the rule of an id
abbrev pub edits_at : List RuleView → ℕ → List Edit
edits_at rules id = edits_in (rule_at id rules)

abbrev pub AreOfPath : Flows → List LayerAt → Type 0
AreOfPath flows layers = (walk flows layers).edits ≡ flat_map (edits_at flows.rules) (verdict_of flows layers).path.items
