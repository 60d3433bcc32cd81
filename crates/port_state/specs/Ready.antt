-- What an operation finds in what the code keeps, so that it can take effect.
use Rattle.std.specs.Prelude.{◌≡◌, true, IsSome, None, Some, map}
use Rattle.flow_rules.specs.Naming.{rule_at}
use Rattle.indirect_counters.specs.Entries.{created, entry_at, in_effect_at}
use Rattle.indirect_counters.specs.Refusals.{update_fault}
use Rattle.template_tables.specs.TemplatesView.{table_of}
use Rattle.port_state.specs.declared.held.Held.{Held}
use Rattle.port_state.specs.declared.held.Held.TheVariants as held
use Rattle.port_state.specs.Kept.{IsReserved}
use Rattle.port_state.specs.KeptState.{KeptState, state_in}
use Rattle.port_state.specs.State.{rule_in}

abbrev pub IsReady : KeptState → Held → Type 0
IsReady k (held.RuleCreated rule table) = (rule_at rule.id (map rule_in (state_in k).rules) ≡ None) × IsReserved rule.id (table_of table k.templates)
IsReady k (held.RuleDestroyed id) = Unit {0}
IsReady k (held.SharedCreated id value) = entry_at id k.shared ≡ Some (created value true)
IsReady k (held.SharedUpdated id value) = update_fault k.rxq k.shared id value ≡ None
IsReady k (held.SharedDestroyed id) = IsSome (in_effect_at id k.shared)
