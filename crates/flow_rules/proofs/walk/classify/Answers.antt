use Rattle.std.proofs.Common.{◌≡◌, ℕ, List, ap, sym, ◌∙◌, [], None}
use Rattle.flow_actions.specs.declared.verdict.Verdict.{Verdict}
use Rattle.flow_actions.specs.declared.verdict.Fate.{Fate}
use Rattle.flow_rules.specs.declared.walk.Course.TheVariants as courses
use Rattle.flow_rules.specs.Walk.{Walked, start, fate_of, walked_by, verdict_in, verdict_of, walk}
use Rattle.flow_rules.specs.Way.{IsAt}
use Rattle.flow_rules.proofs.walk.classify.Goals as goal

pub returns : goal.returns
unfolding verdict_of walk
returns g c =
    let flows = g.F.FlowsInEffect.flows c.args.flows.now in
    let layers = c.args.key.now in
    let way = c.go_on.new.way in
    let begun : List ℕ → Walked
    = λ path. record { layers = layers; mark = None; hash = None; path = path; named = []; edits = []; next = courses.Group 0 } in
    let whole : IsAt layers way (walk flows layers) = c.go_on.ensures (start layers) (ap begun (sym c.new.ensures)) in
    let ended : c.fate.result ≡ fate_of flows.isolated way.next = c.fate.ensures ∙ ap (λ b. fate_of b way.next) c.is_isolated.ensures in
    let told : Fate → Verdict = λ fate. record { fate = fate; mark = way.mark; hash = way.hash; path = way.path } in
    ap told ended ∙ sym (ap (verdict_in flows) whole)
