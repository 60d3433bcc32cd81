-- Rules in the order in which they took effect, each under its handle.
use Rattle.std.specs.Prelude.{ℕ, map, filter, if◌then◌else◌, List, Option}
use Rattle.std.specs.Map.{lookup}
use Rattle.slot_pool.specs.declared.handle.Handle.{Handle}
use Rattle.slot_pool.specs.Handle.{same_handle}
use Rattle.slot_pool.specs.Links.{is_other}
use Rattle.rules_in_effect.specs.declared.in_effect.InEffect.{InEffect}
use Rattle.rules_in_effect.specs.Entries.{with_hit}

-- the rules in order, each under its handle, and how many more can come without memory
pub record OrderView : Type 0 where
  pub kept : List (Handle × InEffect)
  pub room : ℕ

abbrev pub entry_in : Handle × InEffect → InEffect
entry_in pair = pair.1

abbrev pub entries : List (Handle × InEffect) → List InEffect
entries kept = map entry_in kept

-- the rule under a handle
abbrev pub under : Handle → List (Handle × InEffect) → Option InEffect
under handle kept = lookup (same_handle handle) kept

-- the rules under other handles
abbrev pub but : Handle → List (Handle × InEffect) → List (Handle × InEffect)
but handle kept = filter (λ pair. is_other handle pair.0) kept

-- one frame more, of so many bytes, for the rule under a handle
abbrev pub hit_pair : Handle → ℕ → Handle × InEffect → Handle × InEffect
hit_pair handle bytes pair = (pair.0, if same_handle handle pair.0 then with_hit bytes pair.1 else pair.1)

abbrev pub hit_under : Handle → ℕ → List (Handle × InEffect) → List (Handle × InEffect)
hit_under handle bytes kept = map (hit_pair handle bytes) kept
