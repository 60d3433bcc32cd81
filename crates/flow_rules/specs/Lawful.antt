-- Lawful changes: behind each of them stands what may be in effect, and a rule that takes effect has an id of its own.
use Rattle.std.specs.Prelude.{◌≡◌, ℕ, ◌≤◌, ◌<◌, false, List, [], ◌∷◌, length, count_by, Option, None, Some, All}
use Rattle.std.specs.List.{list_any}
use Rattle.std.specs.Option.{option_map}
use Rattle.flow_actions.specs.declared.action.Action.{Action}
use Rattle.flow_actions.specs.Kinds.{kind_of}
use Rattle.flow_rules.specs.declared.limits.Limits.{Limits}
use Rattle.flow_rules.specs.declared.change.Change.{Change}
use Rattle.flow_rules.specs.declared.change.Change.TheVariants as changes
use Rattle.flow_rules.specs.Changes.{changed}
use Rattle.flow_rules.specs.Faults.{Kinds, is_unknown, is_fate_in, is_shared}
use Rattle.flow_rules.specs.Naming.{rule_at}
use Rattle.flow_rules.specs.OnPort.{IsFor}
use Rattle.flow_rules.specs.RuleView.{RuleView}
use Rattle.flow_rules.specs.Shared.{Shared, shared_at, IsSharedOn, AreSharedOn}
use Rattle.flow_rules.specs.Valid.{IsValidRule}
use Rattle.flow_rules.specs.Walk.{Flows}

-- the kind of the shared action of an id, if one is in effect
abbrev pub kinds_in : Shared → Kinds
kinds_in shared id = option_map kind_of (shared_at id shared)

-- each shared action that the rule names is in effect
abbrev pub NamesShared : Shared → RuleView → Type 0
NamesShared shared rule = All (λ action. is_unknown (kinds_in shared) action ≡ false) rule.actions

-- at most one of the rule's actions says where a frame goes, where a shared one counts as the kind that it has
abbrev pub HasOneFate : Shared → RuleView → Type 0
HasOneFate shared rule = count_by (is_fate_in (kinds_in shared)) rule.actions ≤ 1

-- what may be in effect on a port of so many Rx queues: valid rules and shared actions of the port, and not too many rules
pub record MayBeInEffect (rxq : ℕ) (flows : Flows) : Type 0 where
  pub valid : All IsValidRule flows.rules
  pub on_port : All (IsFor rxq) flows.rules
  pub values : AreSharedOn rxq flows.shared
  pub named : All (NamesShared flows.shared) flows.rules
  pub one_fate : All (HasOneFate flows.shared) flows.rules
  pub few : length flows.rules ≤ 131072

-- no rule in effect has the id of a rule that takes effect
abbrev pub IsNew : Flows → Change → Type 0
IsNew flows (changes.Added rule) = rule_at rule.id flows.rules ≡ None
IsNew flows _ = Unit {0}

abbrev pub AreLawfulOn : ℕ → Flows → List Change → Type 0
AreLawfulOn rxq flows [] = Unit {0}
AreLawfulOn rxq flows (change ∷ list) =
    IsNew flows change × MayBeInEffect rxq (changed flows change) × AreLawfulOn rxq (changed flows change) list

-- changes that may come, in this order, under these limits where packets see these flows
abbrev pub AreLawful : Limits → Flows → List Change → Type 0
AreLawful limits flows list = AreLawfulOn limits.rxq flows list

-- a rule that takes effect beside these flows: it is valid and the port's, names shared actions in effect, has at most one
-- fate, and there is room for it
pub record MayTakeEffect (rxq : ℕ) (flows : Flows) (rule : RuleView) : Type 0 where
  pub valid : IsValidRule rule
  pub on_port : IsFor rxq rule
  pub named : NamesShared flows.shared rule
  pub one_fate : HasOneFate flows.shared rule
  pub room : length flows.rules < 131072

-- a value comes in the place of none, or of one of its kind
abbrev pub IsOfItsKind : Option Action → Action → Type 0
IsOfItsKind None value = Unit {0}
IsOfItsKind (Some old) value = kind_of old ≡ kind_of value

-- what each change asks of the flows before it, so that those behind it may be in effect
abbrev pub MayCome : ℕ → Flows → Change → Type 0
MayCome rxq flows (changes.Added rule) = MayTakeEffect rxq flows rule
MayCome rxq flows (changes.Removed id) = Unit {0}
MayCome rxq flows changes.Flushed = Unit {0}
MayCome rxq flows (changes.IndirectSet id value) = IsSharedOn rxq value × IsOfItsKind (shared_at id flows.shared) value
MayCome rxq flows (changes.IndirectGone id) = All (λ (rule : RuleView). list_any (is_shared id) rule.actions ≡ false) flows.rules
MayCome rxq flows (changes.Isolated on) = Unit {0}
