-- What holds of the operations that flow queues hold: their ids stand apart from those in effect, and from each other, and their values are
-- those of the port.
use Rattle.std.specs.Prelude.{◌≡◌, ℕ, ◌+◌, ◌<◌, ◌≤◌, Bool, true, false, nat_eq, is_some, count_by, All, List, None, if◌then◌else◌}
use Rattle.flow_rules.specs.Changes.{has_id}
use Rattle.flow_rules.specs.Shared.{shared_at, IsSharedOn}
use Rattle.indirect_counters.specs.Refusals as shared_calls
use Rattle.port_state.specs.declared.held.Held.{Held}
use Rattle.port_state.specs.declared.held.Held.TheVariants as held
use Rattle.port_state.specs.State.{Placed, State, all_held}

-- a rule of an id, in effect or as its creation is held
abbrev pub is_rule : ℕ → Placed → Bool
is_rule id r = has_id id r.rule

abbrev pub is_held_rule : ℕ → Held → Bool
is_held_rule id (held.RuleCreated rule table) = has_id id rule
is_held_rule id _ = false

-- the creation of a shared action, of an id or of any, is held
abbrev pub is_held_shared : ℕ → Held → Bool
is_held_shared id (held.SharedCreated new value) = nat_eq id new
is_held_shared id _ = false

abbrev pub is_shared_creation : Held → Bool
is_shared_creation (held.SharedCreated new value) = true
is_shared_creation _ = false

-- the id of a rule was given, in effect or as its creation is held
abbrev pub IsBelow : ℕ → Placed → Type 0
IsBelow ids r = r.rule.id < ids

abbrev pub IsHeldBelow : ℕ → Held → Type 0
IsHeldBelow ids (held.RuleCreated rule table) = rule.id < ids
IsHeldBelow ids _ = Unit {0}

-- a value that is held for a shared action was taken as it was enqueued
abbrev pub IsFit : ℕ → Held → Type 0
IsFit rxq (held.SharedCreated id value) = IsSharedOn rxq value
IsFit rxq (held.SharedUpdated id value) = shared_calls.queued_update_fault rxq value ≡ None
IsFit rxq _ = Unit {0}

-- no id stands twice among rules in effect and held ones
abbrev pub AreOthers : List Placed → List Held → Type 0
AreOthers rules ops = (id : ℕ) → count_by (is_rule id) rules + count_by (is_held_rule id) ops ≤ 1

pub record AreApart (s : State) : Type 0 where
  pub rules : AreOthers s.rules (all_held s)
  pub shared : (id : ℕ) → (if is_some (shared_at id s.shared) then 1 else 0) + count_by (is_held_shared id) (all_held s) ≤ 1
  pub given : All (IsBelow s.ids) s.rules
  pub below : All (IsHeldBelow s.ids) (all_held s)
  pub fit : All (IsFit s.rxq) (all_held s)

-- the others hold nothing of the id of an operation
abbrev pub IsAlone : Held → List Held → Type 0
IsAlone (held.RuleCreated rule table) others = count_by (is_held_rule rule.id) others ≡ 0
IsAlone (held.RuleDestroyed id) others = count_by (is_held_rule id) others ≡ 0
IsAlone (held.SharedCreated id value) others = count_by (is_held_shared id) others ≡ 0
IsAlone (held.SharedUpdated id value) others = count_by (is_held_shared id) others ≡ 0
IsAlone (held.SharedDestroyed id) others = count_by (is_held_shared id) others ≡ 0
