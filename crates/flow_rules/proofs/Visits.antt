-- What visits of groups keep, and that the walk over valid rules has ended when 16 groups were visited.
use Rattle.std.proofs.Common.{◌≡◌, ℕ, zero, suc, ◌+◌, ◌≤◌, ◌<◌, true, false, nat_lt, nat_eq, List, [], ◌∷◌, fold, Option, None, Some, refl, sym, subst, arith}
use Rattle.std.specs.List.{All}
use Rattle.std.proofs.lemmas.List.Elements.{All-head, All-tail, All-filter, filter_passes}
use Rattle.std.proofs.lemmas.Bool.{and_parts, eqb-true, cond_both}
use Rattle.packet_headers.specs.declared.items.LayerAt.{LayerAt}
use Rattle.pattern_items.specs.Matches.{accepts}
use Rattle.flow_actions.specs.declared.action.Action.{Action}
use Rattle.flow_actions.specs.declared.action.Action.TheVariants as actions
use Rattle.flow_rules.specs.declared.walk.Course.{Course}
use Rattle.flow_rules.specs.declared.walk.Course.TheVariants as courses
use Rattle.flow_rules.specs.RuleView.{RuleView}
use Rattle.flow_rules.specs.Valid.{IsGood, IsValidRule}
use Rattle.flow_rules.specs.Best.{takes, better, first_lowest, best}
use Rattle.flow_rules.specs.declared.counter.Counter.{Counter}
use Rattle.flow_rules.specs.Shared.{counter_in, value_in, IsSharedOn, AreSharedOn}
use Rattle.flow_rules.proofs.SharedValues.{value-keeps, shared-all}
use Rattle.flow_rules.specs.Walk.{Flows, Walked, acted, performed, visited, gone_on, walked_by}

-- what holds of a rule, where there is one
abbrev pub HoldsOf : (RuleView → Type 0) → Option RuleView → Type 0
HoldsOf P None = Unit {0}
HoldsOf P (Some rule) = P rule

HoldsOf-better : (P : RuleView → Type 0) (rule : RuleView) (later : Option RuleView) → P rule → HoldsOf P later → P (better rule later)
HoldsOf-better P rule None p q = p
HoldsOf-better P rule (Some later) p q = cond_both (nat_lt later.priority rule.priority) later rule P (λ _. q) (λ _. p)

HoldsOf-lowest : (P : RuleView → Type 0) (rules : List RuleView) → All P rules → HoldsOf P (first_lowest rules)
HoldsOf-lowest P [] all = tt
HoldsOf-lowest P (rule ∷ rules) all =
    HoldsOf-better P rule (first_lowest rules) (All-head P rule rules all) (HoldsOf-lowest P rules (All-tail P rule rules all))

-- what holds of all rules holds of the best of a group
pub HoldsOf-best : (P : RuleView → Type 0) (rules : List RuleView) (group : ℕ) (layers : List LayerAt) → All P rules → HoldsOf P (best rules group layers)
HoldsOf-best P rules group layers all = HoldsOf-lowest P _ (All-filter (takes group layers) P rules all)

-- the best of a group stands in that group
abbrev IsOf : ℕ → RuleView → Type 0
IsOf group rule = rule.group ≡ group

in_group : (group : ℕ) (layers : List LayerAt) (rule : Option RuleView) → HoldsOf (λ r. takes group layers r ≡ true) rule → HoldsOf (IsOf group) rule
in_group group layers None t = tt
in_group group layers (Some rule) t = eqb-true rule.group group (and_parts (nat_eq rule.group group) (accepts rule.test layers) t).0

IsOf-best : (rules : List RuleView) (group : ℕ) (layers : List LayerAt) → HoldsOf (IsOf group) (best rules group layers)
IsOf-best rules group layers = in_group group layers (best rules group layers) (HoldsOf-lowest (λ r. takes group layers r ≡ true) _ (filter_passes (takes group layers) rules))

-- actions keep what each of them keeps
pub performed-keeps : (Q : Action → Type 0) (P : Walked → Type 0) (flows : Flows) (rule : RuleView)
    → ((walked : Walked) (action : Action) → Q action → P walked → P (performed flows rule walked action))
    → (walked : Walked) (list : List Action) → All Q list → P walked → P (fold (performed flows rule) walked list)
performed-keeps Q P flows rule each walked [] all p = p
performed-keeps Q P flows rule each walked (action ∷ list) all p =
    performed-keeps Q P flows rule each (performed flows rule walked action) list (All-tail Q action list all) (each walked action (All-head Q action list all) p)

-- visits keep what each of them keeps
pub visits-keep : (P : Walked → Type 0) (flows : Flows)
    → ((walked : Walked) (group : ℕ) → P walked → P (visited flows walked (best flows.rules group walked.layers)))
    → (n : ℕ) (walked : Walked) → P walked → P (walked_by n flows walked)
visits-keep P flows each zero walked p = p
visits-keep P flows each (suc n) walked p = by walked.next (λ w q. visits-keep P flows each n w q) where
  by : (next : Course) → ((w : Walked) → P w → P (walked_by n flows w)) → P (gone_on (walked_by n flows) flows walked next)
  by (courses.End fate) on = p
  by (courses.Group group) on = on (visited flows walked (best flows.rules group walked.layers)) (each walked group p)

-- a walk that goes on does so in one of the 16 groups, and behind the first so many of them
abbrev pub IsAhead : ℕ → Course → Type 0
IsAhead k (courses.End fate) = Unit {0}
IsAhead k (courses.Group group) = (k ≤ group) × (group ≤ 15)

-- an action that goes to a group goes to a later one of the 16
abbrev JumpsOn : ℕ → Action → Type 0
JumpsOn group (actions.Jump to) = (group < to) × (to ≤ 15)
JumpsOn group _ = Unit {0}

jumps-good : (group : ℕ) (action : Action) → IsGood group action → JumpsOn group action
jumps-good group actions.Void good = tt
jumps-good group (actions.Queue queue) good = tt
jumps-good group actions.Drop good = tt
jumps-good group (actions.Jump to) good = good
jumps-good group (actions.Rss rss) good = tt
jumps-good group (actions.Mark mark) good = tt
jumps-good group actions.Count good = tt
jumps-good group (actions.Indirect id) good = tt
jumps-good group (actions.Set edit) good = tt

-- a shared action goes to no group
jumps-shared : (rxq group : ℕ) (action : Action) → IsSharedOn rxq action → JumpsOn group action
jumps-shared rxq group actions.Void on = tt
jumps-shared rxq group (actions.Queue queue) on = tt
jumps-shared rxq group actions.Drop on = tt
jumps-shared rxq group (actions.Jump to) on = absurd (no on.0) where
  no : false ≡ true → ⊥
  no e = cc
jumps-shared rxq group (actions.Rss rss) on = tt
jumps-shared rxq group (actions.Mark mark) on = tt
jumps-shared rxq group actions.Count on = tt
jumps-shared rxq group (actions.Indirect id) on = tt
jumps-shared rxq group (actions.Set edit) on = tt

ahead-acted : (rxq k group : ℕ) (counter : Counter) → k ≤ group → (walked : Walked) (action : Action) → JumpsOn group action → IsAhead (k + 1) walked.next
    → IsAhead (k + 1) (acted rxq counter walked action).next
ahead-acted rxq k group counter below walked actions.Void on ahead = ahead
ahead-acted rxq k group counter below walked (actions.Queue queue) on ahead = tt
ahead-acted rxq k group counter below walked actions.Drop on ahead = tt
ahead-acted rxq k group counter below walked (actions.Jump to) on ahead = (omega (arith, below, on.0), on.1)
ahead-acted rxq k group counter below walked (actions.Rss rss) on ahead = tt
ahead-acted rxq k group counter below walked (actions.Mark mark) on ahead = ahead
ahead-acted rxq k group counter below walked actions.Count on ahead = ahead
ahead-acted rxq k group counter below walked (actions.Indirect id) on ahead = ahead
ahead-acted rxq k group counter below walked (actions.Set edit) on ahead = ahead

ahead-performed : (k : ℕ) (flows : Flows) → AreSharedOn flows.rxq flows.shared → (rule : RuleView) → k ≤ rule.group → (walked : Walked) (action : Action) → IsGood rule.group action
    → IsAhead (k + 1) walked.next → IsAhead (k + 1) (performed flows rule walked action).next
ahead-performed k flows shared rule below walked action good =
    ahead-acted flows.rxq k rule.group (counter_in rule.id action) below walked (value_in flows.shared action)
    (value-keeps (JumpsOn rule.group) tt flows.shared (λ id value found. jumps-shared flows.rxq rule.group value (shared-all flows.rxq flows.shared shared id value found))
    action (jumps-good rule.group action good))

ahead-visited : (k group : ℕ) (flows : Flows) → AreSharedOn flows.rxq flows.shared → (walked : Walked) → k ≤ group → (rule : Option RuleView) → HoldsOf IsValidRule rule → HoldsOf (IsOf group) rule
    → IsAhead (k + 1) (visited flows walked rule).next
ahead-visited k group flows shared walked below None valid of = tt
ahead-visited k group flows shared walked below (Some rule) valid of =
    performed-keeps (IsGood rule.group) (λ w. IsAhead (k + 1) w.next) flows rule (ahead-performed k flows shared rule (omega (arith, below, of))) _ rule.actions valid.values tt

-- where 16 groups are behind, any more visits do the same
same : (n m k : ℕ) (flows : Flows) (walked : Walked) → All IsValidRule flows.rules → AreSharedOn flows.rxq flows.shared → IsAhead k walked.next → 16 ≤ n + k → 16 ≤ m + k
    → walked_by n flows walked ≡ walked_by m flows walked
same zero zero k flows walked valid shared ahead most most' = refl
same zero (suc m) k flows walked valid shared ahead most most' = by walked.next ahead where
  by : (next : Course) → IsAhead k next → walked ≡ gone_on (walked_by m flows) flows walked next
  by (courses.End fate) a = refl
  by (courses.Group group) a = absurd (omega (arith, a.0, a.1, most))
same (suc n) zero k flows walked valid shared ahead most most' = by walked.next ahead where
  by : (next : Course) → IsAhead k next → gone_on (walked_by n flows) flows walked next ≡ walked
  by (courses.End fate) a = refl
  by (courses.Group group) a = absurd (omega (arith, a.0, a.1, most'))
same (suc n) (suc m) k flows walked valid shared ahead most most' =
    by walked.next ahead (λ w a. same n m (k + 1) flows w valid shared a (omega (arith, most)) (omega (arith, most'))) where
      by : (next : Course) → IsAhead k next → ((w : Walked) → IsAhead (k + 1) w.next → walked_by n flows w ≡ walked_by m flows w)
          → gone_on (walked_by n flows) flows walked next ≡ gone_on (walked_by m flows) flows walked next
      by (courses.End fate) a on = refl
      by (courses.Group group) a on = on (visited flows walked (best flows.rules group walked.layers))
          (ahead-visited k group flows shared walked a.0 (best flows.rules group walked.layers) (HoldsOf-best IsValidRule flows.rules group walked.layers valid) (IsOf-best flows.rules group walked.layers))

pub same_from_start : (n m : ℕ) (flows : Flows) (walked : Walked) → All IsValidRule flows.rules → AreSharedOn flows.rxq flows.shared → walked.next ≡ courses.Group 0 → 16 ≤ n → 16 ≤ m
    → walked_by n flows walked ≡ walked_by m flows walked
same_from_start n m flows walked valid shared at_start most most' =
    same n m 0 flows walked valid shared (subst (IsAhead 0) (sym at_start) (omega arith, omega arith)) (omega (arith, most)) (omega (arith, most'))
