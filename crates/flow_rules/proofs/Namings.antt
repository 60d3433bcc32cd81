-- Which counters a walk names: those of the rules on its path, in order, and at most 256.
use Rattle.std.proofs.Common.{◌≡◌, ℕ, zero, suc, ◌+◌, ◌*◌, ◌≤◌, flat_map, List, [], ◌∷◌, ◌++◌, fold, length, Option, None, Some, refl, sym, ap, ◌∙◌, subst, arith}
use Rattle.std.specs.List.{All}
use Rattle.std.proofs.lemmas.List.{append-nil, append_assoc, length-append}
use Rattle.std.proofs.lemmas.List.Concat.{flat_map-append}
use Rattle.packet_headers.specs.declared.items.LayerAt.{LayerAt}
use Rattle.flow_actions.specs.declared.action.Action.{Action}
use Rattle.flow_actions.specs.declared.action.Action.TheVariants as actions
use Rattle.flow_actions.specs.declared.verdict.Fate.TheVariants as fates
use Rattle.flow_rules.specs.declared.counter.Counter.{Counter}
use Rattle.flow_rules.specs.declared.walk.Course.{Course}
use Rattle.flow_rules.specs.declared.walk.Course.TheVariants as courses
use Rattle.flow_rules.specs.RuleView.{RuleView}
use Rattle.flow_rules.specs.Valid.{IsValidRule}
use Rattle.flow_rules.specs.Best.{best}
use Rattle.flow_rules.specs.Shared.{Shared, value_in, counter_in}
use Rattle.flow_rules.specs.Walk.{Flows, Walked, start, acted, performed, visited, gone_on, walked_by, walk, verdict_of, counters_of}
use Rattle.flow_rules.specs.Naming.{named_by, namings, namings_of, namings_at, rule_at, HaveOwnIds, AreNamedByPath}
use Rattle.flow_rules.proofs.Visits.{HoldsOf, HoldsOf-best, visits-keep}

acted-names : (rxq : ℕ) (counter : Counter) (walked : Walked) (action : Action) → (acted rxq counter walked action).named ≡ walked.named ++ named_by counter action
acted-names rxq counter walked actions.Void = sym (append-nil walked.named)
acted-names rxq counter walked (actions.Queue queue) = sym (append-nil walked.named)
acted-names rxq counter walked actions.Drop = sym (append-nil walked.named)
acted-names rxq counter walked (actions.Jump to) = sym (append-nil walked.named)
acted-names rxq counter walked (actions.Rss rss) = sym (append-nil walked.named)
acted-names rxq counter walked (actions.Mark mark) = sym (append-nil walked.named)
acted-names rxq counter walked actions.Count = refl
acted-names rxq counter walked (actions.Indirect id) = sym (append-nil walked.named)
acted-names rxq counter walked (actions.Set edit) = sym (append-nil walked.named)

acted-path : (rxq : ℕ) (counter : Counter) (walked : Walked) (action : Action) → (acted rxq counter walked action).path ≡ walked.path
acted-path rxq counter walked actions.Void = refl
acted-path rxq counter walked (actions.Queue queue) = refl
acted-path rxq counter walked actions.Drop = refl
acted-path rxq counter walked (actions.Jump to) = refl
acted-path rxq counter walked (actions.Rss rss) = refl
acted-path rxq counter walked (actions.Mark mark) = refl
acted-path rxq counter walked actions.Count = refl
acted-path rxq counter walked (actions.Indirect id) = refl
acted-path rxq counter walked (actions.Set edit) = refl

-- what one action of a rule names
abbrev names_here : Flows → RuleView → Action → List Counter
names_here flows rule action = named_by (counter_in rule.id action) (value_in flows.shared action)

all-name : (flows : Flows) (rule : RuleView) (walked : Walked) (list : List Action)
    → (fold (performed flows rule) walked list).named ≡ walked.named ++ flat_map (names_here flows rule) list
all-name flows rule walked [] = sym (append-nil walked.named)
all-name flows rule walked (action ∷ list) =
    all-name flows rule (performed flows rule walked action) list
    ∙ ap (λ named. named ++ flat_map (names_here flows rule) list) (acted-names flows.rxq (counter_in rule.id action) walked (value_in flows.shared action))
    ∙ append_assoc walked.named (names_here flows rule action) (flat_map (names_here flows rule) list)

all-stay : (flows : Flows) (rule : RuleView) (walked : Walked) (list : List Action) → (fold (performed flows rule) walked list).path ≡ walked.path
all-stay flows rule walked [] = refl
all-stay flows rule walked (action ∷ list) =
    all-stay flows rule (performed flows rule walked action) list ∙ acted-path flows.rxq (counter_in rule.id action) walked (value_in flows.shared action)

-- what was named so far is what the rules on the path so far name
abbrev IsNamed : Flows → Walked → Type 0
IsNamed flows walked = walked.named ≡ flat_map (namings_at flows) walked.path

named-visited : (flows : Flows) (walked : Walked) (rule : Option RuleView) → HoldsOf (λ r. rule_at r.id flows.rules ≡ Some r) rule
    → IsNamed flows walked → IsNamed flows (visited flows walked rule)
named-visited flows walked None own named = named
named-visited flows walked (Some rule) own named =
    let begun : Walked = record walked { path = walked.path ++ rule.id ∷ []; next = courses.End (fates.Queue 0) } in
    let here : flat_map (namings_at flows) (rule.id ∷ []) ≡ namings flows.shared rule =
    append-nil (namings_at flows rule.id) ∙ ap (namings_of flows.shared) own in
    all-name flows rule begun rule.actions
    ∙ ap (λ before. before ++ namings flows.shared rule) named
    ∙ ap (λ behind. flat_map (namings_at flows) walked.path ++ behind) (sym here)
    ∙ sym (flat_map-append (namings_at flows) walked.path (rule.id ∷ []))
    ∙ ap (flat_map (namings_at flows)) (sym (all-stay flows rule begun rule.actions))

pub named-by_path : (flows : Flows) (layers : List LayerAt) → HaveOwnIds flows.rules → AreNamedByPath flows layers
unfolding counters_of verdict_of walk
named-by_path flows layers own =
    visits-keep (IsNamed flows) flows
    (λ w group named. named-visited flows w (best flows.rules group w.layers) (HoldsOf-best (λ r. rule_at r.id flows.rules ≡ Some r) flows.rules group w.layers own) named)
    16 (start layers) refl

few-named : (counter : Counter) (action : Action) → length (named_by counter action) ≤ 1
few-named counter actions.Void = omega arith
few-named counter (actions.Queue queue) = omega arith
few-named counter actions.Drop = omega arith
few-named counter (actions.Jump to) = omega arith
few-named counter (actions.Rss rss) = omega arith
few-named counter (actions.Mark mark) = omega arith
few-named counter actions.Count = omega arith
few-named counter (actions.Indirect id) = omega arith
few-named counter (actions.Set edit) = omega arith

-- a rule names at most one counter for each action
few-namings : (flows : Flows) (rule : RuleView) (list : List Action) → length (flat_map (names_here flows rule) list) ≤ length list
few-namings flows rule [] = omega arith
few-namings flows rule (action ∷ list) = omega (
  arith,
  length-append (names_here flows rule action) (flat_map (names_here flows rule) list),
  few-namings flows rule list,
  few-named (counter_in rule.id action) (value_in flows.shared action),
)

few-visited : (flows : Flows) (walked : Walked) (rule : Option RuleView) → HoldsOf IsValidRule rule → length (visited flows walked rule).named ≤ length walked.named + 16
few-visited flows walked None valid = omega arith
few-visited flows walked (Some rule) valid =
    let begun : Walked = record walked { path = walked.path ++ rule.id ∷ []; next = courses.End (fates.Queue 0) } in
    omega (
      arith,
      ap length (all-name flows rule begun rule.actions),
      length-append walked.named (flat_map (names_here flows rule) rule.actions),
      few-namings flows rule rule.actions,
      valid.few,
    )

few-walked : (n : ℕ) (flows : Flows) (walked : Walked) → All IsValidRule flows.rules → length (walked_by n flows walked).named ≤ length walked.named + 16 * n
few-walked zero flows walked valid = omega arith
few-walked (suc n) flows walked valid = by walked.next (λ after. few-walked n flows after valid) where
  by : (next : Course) → ((after : Walked) → length (walked_by n flows after).named ≤ length after.named + 16 * n)
      → length (gone_on (walked_by n flows) flows walked next).named ≤ length walked.named + 16 * suc n
  by (courses.End fate) on = omega arith
  by (courses.Group group) on =
      omega (
        arith,
        on (visited flows walked (best flows.rules group walked.layers)),
        few-visited flows walked (best flows.rules group walked.layers) (HoldsOf-best IsValidRule flows.rules group walked.layers valid),
      )

-- a walk names at most 16 counters in each of the 16 groups
pub few-counters : (flows : Flows) (layers : List LayerAt) → All IsValidRule flows.rules → length (counters_of flows layers) ≤ 256
unfolding counters_of walk
few-counters flows layers valid = few-walked 16 flows (start layers) valid
