use Rattle.std.proofs.Common.{sym, ap, ◌∙◌, map, List}
use Rattle.flow_rules.specs.RuleView.{RuleView}
use Rattle.flow_rules.specs.Best.{best}
use Rattle.port_state.specs.State.{rule_in}
use Rattle.port_state.specs.KeptState.{KeptState, state_in}
use Rattle.port_state.proofs.RulesKept.{rules-placed}
use Rattle.port_state.proofs.state.StateFlowsInEffect.best.Goals as goal

pub returns : goal.returns
returns c =
    c.best.ensures ∙ ap (λ (rs : List RuleView). best rs c.args.group c.args.key.now) (sym (rules-placed c.self.inside.rules.list))
    ∙ ap (λ (k : KeptState). best (map rule_in (state_in k).rules) c.args.group c.args.key.now) c.self.view_is
