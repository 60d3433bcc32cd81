-- The walk of a frame over the groups of rules (rte_flow guide: groups and jumps). It is one fold: a record of what the walk
-- carries, and one definition that performs an action on it.
use Rattle.std.specs.Prelude.{ℕ, zero, suc, Bool, true, false, List, [], ◌∷◌, ◌++◌, fold, Option, None, Some}
use Rattle.packet_headers.specs.declared.items.LayerAt.{LayerAt}
use Rattle.packet_headers.specs.declared.edits.Edit.{Edit}
use Rattle.flow_actions.specs.declared.action.Action.{Action}
use Rattle.flow_actions.specs.declared.action.Action.TheVariants as actions
use Rattle.flow_actions.specs.declared.verdict.Fate.{Fate}
use Rattle.flow_actions.specs.declared.verdict.Fate.TheVariants as fates
use Rattle.flow_actions.specs.declared.verdict.Verdict.{Verdict}
use Rattle.flow_actions.specs.Spread.{hash_in, queue_in}
use Rattle.header_edit.specs.Layers.{edit_layers}
use Rattle.flow_rules.specs.declared.counter.Counter.{Counter}
use Rattle.flow_rules.specs.declared.walk.Course.{Course}
use Rattle.flow_rules.specs.declared.walk.Course.TheVariants as courses
use Rattle.flow_rules.specs.RuleView.{RuleView}
use Rattle.flow_rules.specs.Shared.{Shared, value_in, counter_in}
use Rattle.flow_rules.specs.Best.{best}

-- what packets see: the rules in effect, in the order in which they took effect, the actions that they share, whether a miss drops,
-- and how many Rx queues there are
pub record Flows : Type 0 where
  pub rules : List RuleView
  pub shared : Shared
  pub isolated : Bool
  pub rxq : ℕ

-- What a walk carries: the frame's layers as edited so far, its mark, its RSS hash, the ids of the rules on its path, the
-- counters that were named, one element for each time, the edits that were done, and where it goes on.
pub record Walked : Type 0 where
  pub layers : List LayerAt
  pub mark : Option ℕ
  pub hash : Option ℕ
  pub path : List ℕ
  pub named : List Counter
  pub edits : List Edit
  pub next : Course

-- a walk begins in group 0
abbrev pub start : List LayerAt → Walked
start layers = record { layers = layers; mark = None; hash = None; path = []; named = []; edits = []; next = courses.Group 0 }

-- an action is performed, where a COUNT names this counter
abbrev pub acted : ℕ → Counter → Walked → Action → Walked
acted rxq counter walked actions.Void = walked
acted rxq counter walked (actions.Queue queue) = record walked { next = courses.End (fates.Queue queue) }
acted rxq counter walked actions.Drop = record walked { next = courses.End fates.Drop }
acted rxq counter walked (actions.Jump group) = record walked { next = courses.Group group }
acted rxq counter walked (actions.Rss rss) =
    record walked { hash = Some (hash_in rss.types walked.layers); next = courses.End (fates.Queue (queue_in rss rxq walked.layers)) }
acted rxq counter walked (actions.Mark mark) = record walked { mark = Some mark }
acted rxq counter walked actions.Count = record walked { named = walked.named ++ counter ∷ [] }
acted rxq counter walked (actions.Indirect id) = walked
acted rxq counter walked (actions.Set edit) = record walked { layers = edit_layers edit walked.layers; edits = walked.edits ++ edit ∷ [] }

-- an action of a rule is performed: one of its own, or a shared one with the value that it has
abbrev pub performed : Flows → RuleView → Walked → Action → Walked
performed flows rule walked action = acted flows.rxq (counter_in rule.id action) walked (value_in flows.shared action)

-- a frame that no rule of a group takes goes to queue 0, or is dropped in isolated mode
abbrev pub missed : Bool → Fate
missed true = fates.Drop
missed false = fates.Queue 0

-- A group was visited: the rule that takes the frame joins the path, and its actions are performed in order. Without a
-- fate among them the frame goes to queue 0.
abbrev pub visited : Flows → Walked → Option RuleView → Walked
visited flows walked None = record walked { next = courses.End (missed flows.isolated) }
visited flows walked (Some rule) =
    fold (performed flows rule) (record walked { path = walked.path ++ rule.id ∷ []; next = courses.End (fates.Queue 0) }) rule.actions

abbrev pub gone_on : (Walked → Walked) → Flows → Walked → Course → Walked
gone_on go flows walked (courses.End fate) = walked
gone_on go flows walked (courses.Group group) = go (visited flows walked (best flows.rules group walked.layers))

-- so many visits at most, and none behind the end
abbrev pub walked_by : ℕ → Flows → Walked → Walked
walked_by zero flows walked = walked
walked_by (suc more) flows walked = gone_on (walked_by more flows) flows walked walked.next

-- There are 16 groups, and jumps go to later ones, so 16 visits are enough: over valid rules more of them change nothing.
unfoldable pub walk : Flows → List LayerAt → Walked
walk flows layers = walked_by 16 flows (start layers)

-- where a walk ended; one that didn't end would count as a miss
abbrev pub fate_of : Bool → Course → Fate
fate_of isolated (courses.End fate) = fate
fate_of isolated (courses.Group group) = missed isolated

-- what the verdict tells of a walk
abbrev pub verdict_in : Flows → Walked → Verdict
verdict_in flows walked = record { fate = fate_of flows.isolated walked.next; mark = walked.mark; hash = walked.hash; path = record { items = walked.path } }

-- the verdict on a frame of these layers
unfoldable pub verdict_of : Flows → List LayerAt → Verdict
verdict_of flows layers = verdict_in flows (walk flows layers)

-- the counters that a frame of these layers raises, one element for each time that it raises one
unfoldable pub counters_of : Flows → List LayerAt → List Counter
counters_of flows layers = (walk flows layers).named
