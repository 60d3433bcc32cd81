use Rattle.std.proofs.Common.{sym, ap, ◌∙◌, subst}
use Rattle.flow_rules.specs.Faults.{first}
use Rattle.template_tables.specs.Refusals.{table_end_refusals}
use Rattle.port_state.specs.Kept.{AreKept}
use Rattle.port_state.specs.State.{templates_in}
use Rattle.port_state.specs.KeptState.{KeptState, state_in}
use Rattle.port_state.specs.StateInside.{state_kept}
use Rattle.port_state.proofs.TemplatesJudged.{table-end}
use Rattle.port_state.proofs.state.State.table_end_fault.Goals as goal

pub returns : goal.returns
returns c =
    c.destroy_table_fault.ensures ∙ table-end (state_kept c.self.inside) c.self.invariant.slots (subst AreKept (sym c.self.view_is) c.requires) c.args.id
    ∙ ap (λ (k : KeptState). first (table_end_refusals (templates_in (state_in k)) c.args.id)) c.self.view_is
