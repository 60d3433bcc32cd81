use Rattle.port_state.proofs.Carried.{carried-rules, same_rule}
use Rattle.rules_in_effect.specs.Entries as rules
use Rattle.port_state.proofs.state.State.isolate.Goals as goal

pub returns-clause-counts : goal.returns-clause-counts
returns-clause-counts c =
    carried-rules c.self.inside _ c.self.view_is c.self.inside.rules.list c.args.on c.self.inside.rxq c.len-number.ensures.sound.ids (λ q. same_rule (rules.entry_at q c.self.inside.rules.list))
