-- The queue of a verdict is one of the port's, where the queues of all rules are.
use Rattle.std.proofs.Common.{◌≡◌, ℕ, ◌≤◌, ◌<◌, sym, subst, Bool, true, false, List, Option, None, Some}
use Rattle.std.specs.List.{All}
use Rattle.packet_headers.specs.declared.items.LayerAt.{LayerAt}
use Rattle.flow_actions.specs.declared.action.Action.{Action}
use Rattle.flow_actions.specs.declared.action.Action.TheVariants as actions
use Rattle.flow_actions.specs.Spread.{hash_in, queue_in}
use Rattle.flow_actions.proofs.Choice.{chosen-below}
use Rattle.flow_rules.specs.declared.walk.Course.{Course}
use Rattle.flow_rules.specs.declared.walk.Course.TheVariants as courses
use Rattle.flow_rules.specs.RuleView.{RuleView}
use Rattle.flow_rules.specs.Valid.{IsOnPort}
use Rattle.flow_rules.specs.Best.{best}
use Rattle.flow_rules.specs.declared.counter.Counter.{Counter}
use Rattle.flow_rules.specs.Shared.{AreSharedOn, counter_in, value_in}
use Rattle.flow_rules.proofs.SharedValues.{value-keeps, shared-all}
use Rattle.flow_rules.specs.Walk.{Flows, Walked, start, acted, performed, missed, visited, fate_of, walk, walked_by, verdict_of}
use Rattle.flow_rules.proofs.Visits.{HoldsOf, HoldsOf-best, performed-keeps, visits-keep}
use Rattle.flow_rules.specs.OnPort.{IsFor, IsBelow}

-- a walk that has ended in a queue did so in one of the port's
abbrev IsEndBelow : ℕ → Course → Type 0
IsEndBelow n (courses.End fate) = IsBelow n fate
IsEndBelow n (courses.Group group) = Unit {0}

missed-below : (rxq : ℕ) → 1 ≤ rxq → (isolated : Bool) → IsBelow rxq (missed isolated)
missed-below rxq one true = tt
missed-below rxq one false = one

acted-below : (rxq : ℕ) → 1 ≤ rxq → (counter : Counter) (walked : Walked) (action : Action) → IsOnPort rxq action
    → IsEndBelow rxq walked.next → IsEndBelow rxq (acted rxq counter walked action).next
acted-below rxq one counter walked actions.Void there below = below
acted-below rxq one counter walked (actions.Queue queue) there below = there
acted-below rxq one counter walked actions.Drop there below = tt
acted-below rxq one counter walked (actions.Jump to) there below = tt
acted-below rxq one counter walked (actions.Rss rss) there below = chosen-below rss.queues.items rxq (hash_in rss.types walked.layers) one there
acted-below rxq one counter walked (actions.Mark mark) there below = below
acted-below rxq one counter walked actions.Count there below = below
acted-below rxq one counter walked (actions.Indirect id) there below = below
acted-below rxq one counter walked (actions.Set edit) there below = below

performed-below : (rxq : ℕ) → 1 ≤ rxq → (flows : Flows) → flows.rxq ≡ rxq → AreSharedOn rxq flows.shared → (rule : RuleView) (walked : Walked) (action : Action) → IsOnPort rxq action
    → IsEndBelow rxq walked.next → IsEndBelow rxq (performed flows rule walked action).next
performed-below rxq one flows port shared rule walked action there below =
    subst (λ n. IsEndBelow rxq (acted n (counter_in rule.id action) walked (value_in flows.shared action)).next) (sym port)
    (acted-below rxq one (counter_in rule.id action) walked (value_in flows.shared action)
    (value-keeps (IsOnPort rxq) tt flows.shared (λ id value found. (shared-all rxq flows.shared shared id value found).1) action there) below)

visited-below : (rxq : ℕ) → 1 ≤ rxq → (flows : Flows) → flows.rxq ≡ rxq → AreSharedOn rxq flows.shared → (walked : Walked) (rule : Option RuleView) → HoldsOf (IsFor rxq) rule → IsEndBelow rxq (visited flows walked rule).next
visited-below rxq one flows port shared walked None holds = missed-below rxq one flows.isolated
visited-below rxq one flows port shared walked (Some rule) holds =
    performed-keeps (IsOnPort rxq) (λ w. IsEndBelow rxq w.next) flows rule (performed-below rxq one flows port shared rule) _ rule.actions holds one

fate-below : (rxq : ℕ) → 1 ≤ rxq → (isolated : Bool) (next : Course) → IsEndBelow rxq next → IsBelow rxq (fate_of isolated next)
fate-below rxq one isolated (courses.End fate) below = below
fate-below rxq one isolated (courses.Group group) below = missed-below rxq one isolated

pub verdict-below : (rxq : ℕ) → 1 ≤ rxq → (flows : Flows) → flows.rxq ≡ rxq → (layers : List LayerAt) → All (IsFor rxq) flows.rules → AreSharedOn rxq flows.shared → IsBelow rxq (verdict_of flows layers).fate
unfolding verdict_of walk
verdict-below rxq one flows port layers all shared =
    fate-below rxq one flows.isolated (walked_by 16 flows (start layers)).next
    (visits-keep (λ w. IsEndBelow rxq w.next) flows
    (λ w group below. visited-below rxq one flows port shared w (best flows.rules group w.layers) (HoldsOf-best (IsFor rxq) flows.rules group w.layers all))
    16 (start layers) tt)
