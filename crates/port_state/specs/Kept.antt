-- What the code keeps for operations that are held: slots of tables that are reserved, and shared actions that aren't in effect yet.
use Rattle.std.specs.Prelude.{◌≡◌, ℕ, ◌+◌, ◌<◌, Bool, true, false, not, ◌||◌, nat_eq, nat_lt, is_some, length, List, All, Option, None, Some, count_by}
use Rattle.std.specs.Map.{lookup}
use Rattle.flow_rules.specs.RuleView.{RuleView}
use Rattle.flow_rules.specs.Shared.{shared_at}
use Rattle.object_ids.specs.Ids.{is_used}
use Rattle.indirect_counters.specs.Entries.{Entries, created, entry_at, values_in_effect}
use Rattle.template_tables.specs.Slots.{IsAbove}
use Rattle.template_tables.specs.TableView.{TableView}
use Rattle.template_tables.specs.TemplatesView.{TemplatesView, table_of}
use Rattle.port_state.specs.declared.held.Held.{Held}
use Rattle.port_state.specs.declared.held.Held.TheVariants as held
use Rattle.port_state.specs.Apart.{is_held_shared, is_shared_creation}
use Rattle.port_state.specs.KeptState.{KeptState, state_in}
use Rattle.port_state.specs.State.{all_held}

-- the creation of a rule of the table of an id is held
abbrev pub is_held_in : ℕ → Held → Bool
is_held_in id (held.RuleCreated rule table) = nat_eq id table
is_held_in id _ = false

-- a slot that is reserved, and not settled
abbrev pub is_reserved : ℕ × Option RuleView → Bool
is_reserved slot = not (is_some slot.1)

abbrev pub IsGiven : ℕ → ℕ × Option RuleView → Type 0
IsGiven ids slot = slot.0 < ids

-- as many slots of each table are reserved as creations are held for it, and no slot is, or ever was, for an id that is given later;
-- nothing is held for a table that isn't there
pub record IsReservedFor (ids id : ℕ) (ops : List Held) (table : TableView) : Type 0 where
  pub number : count_by is_reserved table.slots ≡ count_by (is_held_in id) ops
  pub given : All (IsGiven ids) table.slots
  pub above : IsAbove ids table.greatest

abbrev pub HasReserved : ℕ → List Held → ℕ → Option TableView → Type 0
HasReserved ids ops id None = count_by (is_held_in id) ops ≡ 0
HasReserved ids ops id (Some table) = IsReservedFor ids id ops table

-- a slot is reserved for a rule whose creation is held, and a place at its id for a shared action
abbrev pub IsReserved : ℕ → Option TableView → Type 0
IsReserved id None = ⊥
IsReserved id (Some table) = lookup (nat_eq id) table.slots ≡ Some None

abbrev pub IsHeldIn : TemplatesView → Entries → Held → Type 0
IsHeldIn templates shared (held.RuleCreated rule table) = IsReserved rule.id (table_of table templates)
IsHeldIn templates shared (held.SharedCreated id value) = entry_at id shared ≡ Some (created value true)
IsHeldIn templates shared _ = Unit {0}

pub record AreKeptFor (ids : ℕ) (templates : TemplatesView) (shared : Entries) (ops : List Held) : Type 0 where
  pub tables : (id : ℕ) → HasReserved ids ops id (table_of id templates)
  pub each : All (IsHeldIn templates shared) ops
  pub used : (id : ℕ) → is_used id shared ≡ (is_some (shared_at id (values_in_effect shared)) || nat_lt 0 (count_by (is_held_shared id) ops))
  pub number : length shared ≡ length (values_in_effect shared) + count_by is_shared_creation ops

abbrev pub AreKept : KeptState → Type 0
AreKept k = AreKeptFor k.ids k.templates k.shared (all_held (state_in k))
