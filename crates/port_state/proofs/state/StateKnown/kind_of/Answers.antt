use Rattle.std.proofs.Common.{sym, ap, ◌∙◌, Option}
use Rattle.std.specs.Option.{option_map}
use Rattle.flow_actions.specs.declared.action.Action.{Action}
use Rattle.flow_actions.specs.Kinds.{kind_of}
use Rattle.indirect_counters.proofs.Effects.{seen-at}
use Rattle.port_state.specs.State.{kinds_in}
use Rattle.port_state.specs.KeptState.{KeptState, state_in}
use Rattle.port_state.proofs.state.StateKnown.kind_of.Goals as goal

pub returns : goal.returns
returns c =
    c.kind_of.ensures ∙ sym (ap (λ (o : Option Action). option_map kind_of o) (seen-at c.args.id c.self.inside.shared.entries c.len-number.ensures.sound.ids))
    ∙ ap (λ (k : KeptState). kinds_in (state_in k) c.args.id) c.self.view_is
