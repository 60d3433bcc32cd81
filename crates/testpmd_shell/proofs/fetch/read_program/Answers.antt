use Rattle.std.proofs.Common.{◌≡◌, ◌≤◌, ◌∙◌, ap, sym, subst, List, ℕ, true, false, Err}
use Rattle.flow_grammar.specs.declared.part.Part.{Part}
use Rattle.flow_grammar.specs.Limits.{calls_in, is_too_large}
use Rattle.testpmd_shell.proofs.ScriptSize.{few-fits, is_over-read, IsOver-read, IsScriptStop-over}
use Rattle.testpmd_shell.proofs.fetch.read_program.Goals as goal

pub returns-in-Ok-program-clause-within : goal.returns-in-Ok-program-clause-within
returns-in-Ok-program-clause-within g c =
    is_over-read _ c.in-Ok.script.items c.in-Ok.ensures.script c.in-Ok.ensures.within
    (subst (λ (xs : List ℕ). is_too_large xs ≡ false) c.deref.ensures.value c.in-Ok-program.ensures.within_limits)

pub returns-in-Err-TooLarge-clause-stopped : goal.returns-in-Err-TooLarge-clause-stopped
returns-in-Err-TooLarge-clause-stopped g c = (
  c.in-Ok.ensures.calm,
  IsOver-read _ c.in-Ok.script.items c.in-Ok.ensures.script
      (subst (λ (xs : List ℕ). is_too_large xs ≡ true) c.deref.ensures.value (c.program.ensures.too_large (c.in-Err-TooLarge.is ∙ ap Err c.in-Err-TooLarge.field-0-is))),
)

pub returns-in-Err-clause-stopped : goal.returns-in-Err-clause-stopped
returns-in-Err-clause-stopped g c = IsScriptStop-over _ _ _ c.in-Err.why c.in-Err.ensures.stopped

pub returns-in-Ok-program-clause-few : goal.returns-in-Ok-program-clause-few
returns-in-Ok-program-clause-few g c =
    subst (λ (p : List Part). calls_in p ≤ 65536) (sym c.in-Ok-program.ensures.program) (few-fits c.deref.result.now c.in-Ok-program.ensures.within_limits)
