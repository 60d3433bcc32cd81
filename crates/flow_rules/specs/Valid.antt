-- What a valid rule keeps: its group and priority are in their ranges, it has at most 16 actions, each jump goes to a later
-- group, and at most one action of its own says where a frame goes.
use Rattle.std.specs.Prelude.{ℕ, ◌≡◌, ◌≤◌, ◌<◌, Bool, List, length, count_by, All}
use Rattle.flow_actions.specs.declared.action.Action.{Action}
use Rattle.flow_actions.specs.declared.action.Action.TheVariants as actions
use Rattle.header_edit.specs.Field.{IsLawful}
use Rattle.flow_actions.specs.Kinds.{kind_of, is_fate}
use Rattle.flow_rules.specs.declared.rule.Rule.TheInside.{Inside}
use Rattle.flow_rules.specs.RuleView.{RuleView}

-- an action's value, in a rule of this group: a queue has one byte, there are 16 groups, and an edit's value fits its field
abbrev pub IsGood : ℕ → Action → Type 0
IsGood group actions.Void = Unit {0}
IsGood group (actions.Queue queue) = queue < 256
IsGood group actions.Drop = Unit {0}
IsGood group (actions.Jump to) = (group < to) × (to ≤ 15)
IsGood group (actions.Rss rss) = All (λ queue. queue < 256) rss.queues.items
IsGood group (actions.Mark mark) = Unit {0}
IsGood group actions.Count = Unit {0}
IsGood group (actions.Indirect id) = Unit {0}
IsGood group (actions.Set edit) = IsLawful edit

-- what it takes to perform an action: a queue has one byte, and an edit's value fits its field
abbrev pub IsFit : Action → Type 0
IsFit actions.Void = Unit {0}
IsFit (actions.Queue queue) = queue < 256
IsFit actions.Drop = Unit {0}
IsFit (actions.Jump to) = Unit {0}
IsFit (actions.Rss rss) = All (λ queue. queue < 256) rss.queues.items
IsFit (actions.Mark mark) = Unit {0}
IsFit actions.Count = Unit {0}
IsFit (actions.Indirect id) = Unit {0}
IsFit (actions.Set edit) = IsLawful edit

abbrev pub has_fate : Action → Bool
has_fate action = is_fate (kind_of action)

-- there are 16 groups, and priorities have 16 bits
pub record IsValid (group priority : ℕ) (list : List Action) : Type 0 where
  pub in_groups : group ≤ 15
  pub in_priorities : priority ≤ 65535
  pub few : length list ≤ 16
  pub values : All (IsGood group) list
  pub one_fate : count_by has_fate list ≤ 1

abbrev pub view_of : Inside → RuleView
view_of r = record { id = r.id; group = r.group; priority = r.priority; test = r.test; actions = r.actions.list.items }

abbrev pub IsValidRule : RuleView → Type 0
IsValidRule rule = IsValid rule.group rule.priority rule.actions

abbrev pub IsValidInside : Inside → Type 0
IsValidInside r = IsValidRule (view_of r) × (r.actions.more ≡ 0)

-- the queues are the port's
abbrev pub IsOnPort : ℕ → Action → Type 0
IsOnPort rxq actions.Void = Unit {0}
IsOnPort rxq (actions.Queue queue) = queue < rxq
IsOnPort rxq actions.Drop = Unit {0}
IsOnPort rxq (actions.Jump to) = Unit {0}
IsOnPort rxq (actions.Rss rss) = All (λ queue. queue < rxq) rss.queues.items
IsOnPort rxq (actions.Mark mark) = Unit {0}
IsOnPort rxq actions.Count = Unit {0}
IsOnPort rxq (actions.Indirect id) = Unit {0}
IsOnPort rxq (actions.Set edit) = Unit {0}
