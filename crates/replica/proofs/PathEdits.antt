-- A walk does the edits of the rules on its path, in order.
use Rattle.std.proofs.Common.{◌≡◌, ℕ, flat_map, List, [], ◌∷◌, ◌++◌, fold, Option, None, Some, refl, sym, ap, ◌∙◌}
use Rattle.std.proofs.lemmas.List.{append-nil, append_assoc}
use Rattle.std.proofs.lemmas.List.Concat.{flat_map-append}
use Rattle.packet_headers.specs.declared.items.LayerAt.{LayerAt}
use Rattle.packet_headers.specs.declared.edits.Edit.{Edit}
use Rattle.flow_actions.specs.declared.action.Action.{Action}
use Rattle.flow_actions.specs.declared.action.Action.TheVariants as actions
use Rattle.flow_rules.specs.declared.counter.Counter.{Counter}
use Rattle.flow_rules.specs.RuleView.{RuleView}
use Rattle.flow_rules.specs.Best.{best}
use Rattle.flow_rules.specs.Shared.{Shared, shared_at, or_void, value_in, counter_in, IsSharedOn, AreSharedOn}
use Rattle.flow_rules.specs.Walk.{Flows, Walked, start, acted, performed, visited, walk, verdict_of}
use Rattle.flow_rules.specs.Naming.{rule_at, HaveOwnIds}
use Rattle.flow_rules.proofs.SharedValues.{no-edit, shared-all}
use Rattle.flow_rules.proofs.Visits.{HoldsOf, HoldsOf-best, visits-keep}
use Rattle.replica.specs.Path.{edits_by, edits_of, edits_in, edits_at, AreOfPath}

-- from one walk to another these edits were done, and no group was visited
abbrev Adds : Walked → Walked → List Edit → Type 0
Adds before after list = (after.edits ≡ before.edits ++ list) × (after.path ≡ before.path)

acted-adds : (rxq : ℕ) (counter : Counter) (walked : Walked) (action : Action) → Adds walked (acted rxq counter walked action) (edits_by action)
acted-adds rxq counter walked actions.Void = (sym (append-nil walked.edits), refl)
acted-adds rxq counter walked (actions.Queue queue) = (sym (append-nil walked.edits), refl)
acted-adds rxq counter walked actions.Drop = (sym (append-nil walked.edits), refl)
acted-adds rxq counter walked (actions.Jump to) = (sym (append-nil walked.edits), refl)
acted-adds rxq counter walked (actions.Rss rss) = (sym (append-nil walked.edits), refl)
acted-adds rxq counter walked (actions.Mark mark) = (sym (append-nil walked.edits), refl)
acted-adds rxq counter walked actions.Count = (sym (append-nil walked.edits), refl)
acted-adds rxq counter walked (actions.Indirect id) = (sym (append-nil walked.edits), refl)
acted-adds rxq counter walked (actions.Set edit) = (refl, refl)

-- rules can't share an edit
none-shared : (rxq : ℕ) (value : Action) → IsSharedOn rxq value → edits_by value ≡ []
none-shared rxq actions.Void on = refl
none-shared rxq (actions.Queue queue) on = refl
none-shared rxq actions.Drop on = refl
none-shared rxq (actions.Jump to) on = refl
none-shared rxq (actions.Rss rss) on = refl
none-shared rxq (actions.Mark mark) on = refl
none-shared rxq actions.Count on = refl
none-shared rxq (actions.Indirect id) on = refl
none-shared rxq (actions.Set edit) on = absurd (no-edit edit on.0)

-- so what an action comes to is an edit just where the action is one
same-edits : (rxq : ℕ) (shared : Shared) → AreSharedOn rxq shared → (action : Action) → edits_by (value_in shared action) ≡ edits_by action
same-edits rxq shared all actions.Void = refl
same-edits rxq shared all (actions.Queue queue) = refl
same-edits rxq shared all actions.Drop = refl
same-edits rxq shared all (actions.Jump to) = refl
same-edits rxq shared all (actions.Rss rss) = refl
same-edits rxq shared all (actions.Mark mark) = refl
same-edits rxq shared all actions.Count = refl
same-edits rxq shared all (actions.Indirect id) = by (shared_at id shared) (shared-all rxq shared all id) where
  by : (found : Option Action) → ((value : Action) → found ≡ Some value → IsSharedOn rxq value) → edits_by (or_void found) ≡ []
  by None each = refl
  by (Some value) each = none-shared rxq value (each value refl)
same-edits rxq shared all (actions.Set edit) = refl

all-add : (flows : Flows) → AreSharedOn flows.rxq flows.shared → (rule : RuleView) (walked : Walked) (list : List Action)
    → Adds walked (fold (performed flows rule) walked list) (flat_map edits_by list)
all-add flows shared rule walked [] = (sym (append-nil walked.edits), refl)
all-add flows shared rule walked (action ∷ list) =
    let here = acted-adds flows.rxq (counter_in rule.id action) walked (value_in flows.shared action) in
    let behind = all-add flows shared rule (performed flows rule walked action) list in (
      behind.0
          ∙ ap (λ done. done ++ flat_map edits_by list) (here.0 ∙ ap (λ more. walked.edits ++ more) (same-edits flows.rxq flows.shared shared action))
          ∙ append_assoc walked.edits (edits_by action) (flat_map edits_by list),
      behind.1 ∙ here.1,
    )

-- the edits that were done are those of the rules on the path so far
abbrev AreSoFar : Flows → Walked → Type 0
AreSoFar flows walked = walked.edits ≡ flat_map (edits_at flows.rules) walked.path

-- a rule joined the path, and its actions were performed
so_far-joined : (flows : Flows) → AreSharedOn flows.rxq flows.shared → (walked begun : Walked) (rule : RuleView) → rule_at rule.id flows.rules ≡ Some rule
    → begun.edits ≡ walked.edits → begun.path ≡ walked.path ++ rule.id ∷ []
    → AreSoFar flows walked → AreSoFar flows (fold (performed flows rule) begun rule.actions)
so_far-joined flows shared walked begun rule own same joined done =
    let here : flat_map (edits_at flows.rules) (rule.id ∷ []) ≡ edits_of rule = append-nil (edits_at flows.rules rule.id) ∙ ap edits_in own in
    let added = all-add flows shared rule begun rule.actions in
    added.0
    ∙ ap (λ before. before ++ edits_of rule) (same ∙ done)
    ∙ ap (λ behind. flat_map (edits_at flows.rules) walked.path ++ behind) (sym here)
    ∙ sym (flat_map-append (edits_at flows.rules) walked.path (rule.id ∷ []))
    ∙ ap (flat_map (edits_at flows.rules)) (sym joined ∙ sym added.1)

so_far-visited : (flows : Flows) → AreSharedOn flows.rxq flows.shared → (walked : Walked) (rule : Option RuleView) → HoldsOf (λ r. rule_at r.id flows.rules ≡ Some r) rule
    → AreSoFar flows walked → AreSoFar flows (visited flows walked rule)
so_far-visited flows shared walked None own done = done
so_far-visited flows shared walked (Some rule) own done = so_far-joined flows shared walked _ rule own refl refl done

pub edits-by_path : (flows : Flows) (layers : List LayerAt) → HaveOwnIds flows.rules → AreSharedOn flows.rxq flows.shared → AreOfPath flows layers
unfolding verdict_of walk
edits-by_path flows layers own shared =
    visits-keep (AreSoFar flows) flows
    (λ w group done. so_far-visited flows shared w (best flows.rules group w.layers) (HoldsOf-best (λ r. rule_at r.id flows.rules ≡ Some r) flows.rules group w.layers own) done)
    16 (start layers) refl
