use Rattle.std.proofs.Common.{◌∙◌}
use Rattle.testpmd_shell.proofs.Asking.{asks-next}
use Rattle.testpmd_shell.proofs.ask.ask_all.Goals as goal

pub loop-call-preserved : goal.loop-call-preserved
loop-call-preserved c = record {
  limits = c.in_ok-step.ensures.entered.limits ∙ c.loop-call.invariant.limits;
  asked = asks-next c.args.adapter.now.limits c.args.caller.0 c.loop-call.call-index c.args.calls.now c.call-item.result c.in_ok-step.field-0 _ c.loop-call.adapter c.step.new.self
      c.loop-call.invariant.limits c.loop-call-test.true c.call-item.is c.in_ok-step.ensures.reply c.in_ok-step.ensures.entered c.loop-call.invariant.asked;
}
