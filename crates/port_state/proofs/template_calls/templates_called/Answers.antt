use Rattle.std.proofs.Common.{◌≡◌, sym, ◌∙◌, None}
use Rattle.flow_rules.specs.Faults.{first}
use Rattle.port_state.specs.declared.effect.TemplateEffect.{TemplateEffect}
use Rattle.port_state.specs.declared.effect.TemplateEffect.TheVariants as templates
use Rattle.port_state.specs.Effect.{AreTemplatesDue}
use Rattle.port_state.specs.KeptState.{state_in}
use Rattle.port_state.specs.State.{State}
use Rattle.port_state.specs.TemplateCalls.{template_refusals}
use Rattle.port_state.proofs.template_calls.templates_called.Goals as goal

-- a change without a fault is due
due : (s : State) (effect : TemplateEffect) → first (template_refusals s effect) ≡ None → AreTemplatesDue s effect
due s (templates.PatternMade id attr pattern) none = tt
due s (templates.PatternGone id) none = none
due s (templates.ActionsMade id attr lists) none = tt
due s (templates.ActionsGone id) none = none
due s (templates.TableMade id attr rules_number named) none = tt
due s (templates.TableGone id) none = none

pub returns-in-None-clause-due : goal.returns-in-None-clause-due
returns-in-None-clause-due c = due (state_in c.args.state.now) c.args.effect (sym c.template_fault.ensures ∙ c.in-None.is)
