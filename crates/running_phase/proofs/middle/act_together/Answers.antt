use Rattle.std.proofs.Common.{◌≡◌, ◌∙◌, ◌+◌, ◌++◌, [], ◌∷◌, All, cond, List, length, subst, sym, ap}
use Rattle.std.specs.List.{count_by}
use Rattle.std.proofs.lemmas.List.Elements.{All-push}
use Rattle.running_phase.specs.declared.actors.Actor.{Actor}
use Rattle.running_phase.specs.Actors.{AreOfKind, IsDone, is_worker}
use Rattle.running_phase.proofs.Seats.{same_kinds, workers_pushed, written_back}
use Rattle.running_phase.proofs.middle.act_together.Goals as goal

pub returns-clause-done : goal.returns-clause-done
returns-clause-done g c =
    let P = IsDone c.args.port.now c.args.plan.now in
    let others = c.act_beside.new.others in
    let before = c.args.crew.others.items in
    let same : length others ≡ length c.as_mut_slice.result.now = c.act_beside.auto.others in
    let lent : length c.as_mut_slice.result.now ≡ length before = ap length c.as_mut_slice.ensures.value in
    let len : length c.as_mut_slice.result.now ≡ c.args.crew.others.len = c.as_mut_slice.ensures.len in
    subst (All P) (sym (c.in_ok-push.ensures.items ∙ ap (λ l. l ++ c.act_beside.new.lead ∷ []) (written_back c.args.crew.others.len others before (same ∙ lent) (same ∙ len))))
    (All-push P others c.act_beside.new.lead c.act_beside.ensures.others c.act_beside.ensures.lead.0)

pub returns-clause-workers : goal.returns-clause-workers
returns-clause-workers g c =
    let others = c.act_beside.new.others in
    let before = c.args.crew.others.items in
    let same : length others ≡ length c.as_mut_slice.result.now = c.act_beside.auto.others in
    let lent : length c.as_mut_slice.result.now ≡ length before = ap length c.as_mut_slice.ensures.value in
    let len : length c.as_mut_slice.result.now ≡ c.args.crew.others.len = c.as_mut_slice.ensures.len in
    ap (count_by is_worker) (c.in_ok-push.ensures.items ∙ ap (λ l. l ++ c.act_beside.new.lead ∷ []) (written_back c.args.crew.others.len others before (same ∙ lent) (same ∙ len)))
    ∙ workers_pushed others c.act_beside.new.lead
    ∙ ap (λ n. n + cond (is_worker c.act_beside.new.lead) 1 0) (same_kinds before others (same ∙ lent) (subst (λ (l : List Actor). AreOfKind l others) c.as_mut_slice.ensures.value c.act_beside.ensures.kinds))
    ∙ ap (λ b. count_by is_worker before + cond b 1 0) (c.act_beside.ensures.lead.1 ∙ c.requires.lead.1)
