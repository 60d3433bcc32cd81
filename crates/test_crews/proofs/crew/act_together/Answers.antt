use Rattle.std.proofs.Common.{◌≡◌, ◌∙◌, All, length, subst, sym, ap}
use Rattle.test_crews.specs.Members.{IsDone}
use Rattle.test_crews.proofs.Crews.{written_back}
use Rattle.test_crews.proofs.crew.act_together.Goals as goal

pub returns-clause-done : goal.returns-clause-done
returns-clause-done g c =
    let left = c.act_all.new.crew in
    let before = c.args.crew.items in
    let same : length left ≡ length c.as_mut_slice.result.now = c.act_all.auto.crew in
    let lent : length c.as_mut_slice.result.now ≡ length before = ap length c.as_mut_slice.ensures.value in
    let len : length c.as_mut_slice.result.now ≡ c.args.crew.len = c.as_mut_slice.ensures.len in
    subst (All (IsDone c.args.port.now)) (sym (written_back c.args.crew.len left before (same ∙ lent) (same ∙ len))) c.act_all.ensures

pub returns-clause-count : goal.returns-clause-count
returns-clause-count g c =
    let left = c.act_all.new.crew in
    let before = c.args.crew.items in
    let same : length left ≡ length c.as_mut_slice.result.now = c.act_all.auto.crew in
    let lent : length c.as_mut_slice.result.now ≡ length before = ap length c.as_mut_slice.ensures.value in
    let len : length c.as_mut_slice.result.now ≡ c.args.crew.len = c.as_mut_slice.ensures.len in
    ap length (written_back c.args.crew.len left before (same ∙ lent) (same ∙ len)) ∙ same ∙ lent
