use Rattle.std.proofs.Common.{ap, ◌∙◌}
use Rattle.object_ids.specs.Ids.{id_for}
use Rattle.port_state.specs.KeptState.{KeptState, state_in}
use Rattle.port_state.proofs.TemplatesJudged.{id_for-plans}
use Rattle.port_state.proofs.state.State.table_id.Goals as goal

pub returns : goal.returns
returns c =
    c.create_table_id.ensures ∙ id_for-plans c.self.inside.templates.tables c.args.id
    ∙ ap (λ (k : KeptState). id_for c.args.id (state_in k).templates.tables) c.self.view_is
