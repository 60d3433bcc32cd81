use Rattle.std.proofs.Common.{ap, ◌∙◌}
use Rattle.object_ids.specs.Ids.{id_for}
use Rattle.port_state.specs.KeptState.{KeptState}
use Rattle.port_state.proofs.Objects.{objects-id}
use Rattle.port_state.proofs.state.State.new_id.Goals as goal

pub returns : goal.returns
returns c = c.id_for.ensures ∙ ap (λ (k : KeptState). id_for c.args.id k.shared) c.self.view_is ∙ objects-id c.args.self.now c.requires c.args.id
