-- Behind the edits of a walk the layers are those with which it ended.
use Rattle.std.proofs.Common.{◌≡◌, ℕ, List, [], ◌∷◌, fold, Option, None, Some, refl, ap, ◌∙◌}
use Rattle.std.proofs.lemmas.List.Sums.{fold-append}
use Rattle.packet_headers.specs.declared.items.LayerAt.{LayerAt}
use Rattle.header_edit.specs.Layers.{edit_layers}
use Rattle.flow_actions.specs.declared.action.Action.{Action}
use Rattle.flow_actions.specs.declared.action.Action.TheVariants as actions
use Rattle.flow_rules.specs.declared.counter.Counter.{Counter}
use Rattle.flow_rules.specs.RuleView.{RuleView}
use Rattle.flow_rules.specs.Best.{best}
use Rattle.flow_rules.specs.Shared.{value_in, counter_in}
use Rattle.flow_rules.specs.Walk.{Flows, Walked, start, acted, visited, walk}
use Rattle.flow_rules.proofs.Visits.{performed-keeps, visits-keep}
use Rattle.replica.specs.Rewritten.{Frame, frame_at, edited, AreWalked}

-- the layers of a walk are those that its edits leave
abbrev Agrees : Frame → Walked → Type 0
Agrees frame walked = (fold edited frame walked.edits).layers ≡ walked.layers

agrees-acted : (frame : Frame) (rxq : ℕ) (counter : Counter) (walked : Walked) (action : Action) → Agrees frame walked → Agrees frame (acted rxq counter walked action)
agrees-acted frame rxq counter walked actions.Void agrees = agrees
agrees-acted frame rxq counter walked (actions.Queue queue) agrees = agrees
agrees-acted frame rxq counter walked actions.Drop agrees = agrees
agrees-acted frame rxq counter walked (actions.Jump to) agrees = agrees
agrees-acted frame rxq counter walked (actions.Rss rss) agrees = agrees
agrees-acted frame rxq counter walked (actions.Mark mark) agrees = agrees
agrees-acted frame rxq counter walked actions.Count agrees = agrees
agrees-acted frame rxq counter walked (actions.Indirect id) agrees = agrees
agrees-acted frame rxq counter walked (actions.Set edit) agrees =
    ap (λ (f : Frame). f.layers) (fold-append edited frame walked.edits (edit ∷ [])) ∙ ap (edit_layers edit) agrees

agrees-visited : (frame : Frame) (flows : Flows) (walked : Walked) (rule : Option RuleView) → Agrees frame walked → Agrees frame (visited flows walked rule)
agrees-visited frame flows walked None agrees = agrees
agrees-visited frame flows walked (Some rule) agrees =
    performed-keeps (λ _. Unit {0}) (Agrees frame) flows rule
    (λ w action _ a. agrees-acted frame flows.rxq (counter_in rule.id action) w (value_in flows.shared action) a)
    _ rule.actions (λ _ _ _. tt) agrees

pub walked-layers : (flows : Flows) (layers : List LayerAt) (bytes : List ℕ) → AreWalked flows layers bytes
unfolding walk
walked-layers flows layers bytes =
    visits-keep (Agrees (frame_at layers bytes)) flows
    (λ w group agrees. agrees-visited (frame_at layers bytes) flows w (best flows.rules group w.layers) agrees)
    16 (start layers) refl
