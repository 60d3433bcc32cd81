use Rattle.std.proofs.Common.{sym, ap, ◌∙◌}
use Rattle.std.specs.Option.{option_copied}
use Rattle.port_state.specs.Raising.{is_count_of}
use Rattle.port_state.proofs.raising.is_shared_count.Goals as goal

pub returns-in-Some-clause-value : goal.returns-in-Some-clause-value
returns-in-Some-clause-value c = c.is_count.ensures ∙ sym (ap is_count_of (sym c.value_of.ensures.value ∙ ap option_copied c.in-Some.is))

pub returns-in-None-clause-value : goal.returns-in-None-clause-value
returns-in-None-clause-value c = sym (ap is_count_of (sym c.value_of.ensures.value ∙ ap option_copied c.in-None.is))
