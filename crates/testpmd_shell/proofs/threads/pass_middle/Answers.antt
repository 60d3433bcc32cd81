use Rattle.std.proofs.Common.{◌∙◌}
use Rattle.testpmd_shell.proofs.Copying.{kept-sent}
use Rattle.testpmd_shell.proofs.threads.pass_middle.Goals as goal

pub returns-clause-sent : goal.returns-clause-sent
returns-clause-sent g c taken frames more are was =
    let ran = c.in_ok-made.ensures in
    let made = c.in_ok-made.made in
    let kept = c.in_ok-keep.ensures in
    kept-sent taken frames more c.args.phase.now.frames.now c.args.adapter made.adapter ran.middle.0 (record { limits = ran.limits; history = ran.middle.1 }) are
    c.args.workers.now.kept made.sent c.keep.new.kept (ran.keeps ∙ c.requires.keeps) kept.still kept.more (λ look finds. ran.sent look finds ran.middle.0 ran.middle.1) was
