use Rattle.std.proofs.Common.{◌≡◌, flat_map, fold, List, sym, ap, ◌∙◌}
use Rattle.packet_headers.specs.declared.edits.Edit.{Edit}
use Rattle.flow_actions.specs.declared.verdict.Verdict.{Verdict}
use Rattle.flow_rules.specs.RuleView.{RuleView}
use Rattle.flow_rules.specs.Walk.{walk}
use Rattle.replica.specs.Path.{edits_at}
use Rattle.replica.specs.Rewritten.{Frame, frame_at, edited, rewritten}
use Rattle.replica.proofs.PathEdits.{edits-by_path}
use Rattle.replica.proofs.rewriting.rewrite.Goals as goal

pub returns : goal.returns
unfolding rewritten
returns c =
    let flows = c.args.flows.now in
    let layers = c.args.key.now in
    let path = c.as_slice.result.now in
    let edits_are : flat_map (edits_at c.rules.result.now) path ≡ (walk flows layers).edits
    = ap (λ (rules : List RuleView). flat_map (edits_at rules) path) c.rules.ensures.rules
    ∙ ap (flat_map (edits_at flows.rules)) (c.as_slice.ensures.value ∙ ap (λ (v : Verdict). v.path.items) c.requires.walked)
    ∙ sym (edits-by_path flows layers c.rules.ensures.own c.rules.ensures.shared) in
    ap (λ (frame : Frame). frame.bytes) c.edit_by_path.ensures
    ∙ ap (λ (list : List Edit). (fold edited (frame_at layers c.args.frame.now) list).bytes) edits_are
