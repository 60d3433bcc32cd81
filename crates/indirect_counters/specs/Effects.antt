-- What the calls do to the list of shared actions.
use Rattle.std.specs.Prelude.{ℕ, ◌+◌, ◌-◌, Bool, false, nat_eq, [], ◌∷◌, ◌++◌, Option, None, Some, if◌then◌else◌}
use Rattle.std.specs.Map.{remove_entry}
use Rattle.flow_actions.specs.declared.action.Action.{Action}
use Rattle.indirect_counters.specs.declared.shared_action.SharedAction.{SharedAction}
use Rattle.indirect_counters.specs.Counts.{counted, no_count}
use Rattle.indirect_counters.specs.Entries.{Entries, entry_at, created}

-- a new action, behind the others
abbrev pub added : ℕ → Action → Bool → Entries → Entries
added id value held entries = entries ++ (id, created value held) ∷ []

-- without the action of an id
abbrev pub without : ℕ → Entries → Entries
without id entries = remove_entry (nat_eq id) entries

-- what stands at an id is changed
abbrev pub changed_at : ℕ → (SharedAction → SharedAction) → Entries → Entries
changed_at id change [] = []
changed_at id change (entry ∷ entries) = if nat_eq id entry.0 then (entry.0, change entry.1) ∷ entries else entry ∷ changed_at id change entries

-- a held action takes effect and has counted nothing; it goes behind the others, which took effect before it
abbrev pub behind_others : ℕ → Option SharedAction → Entries → Entries
behind_others id None entries = entries
behind_others id (Some entry) entries = without id entries ++ (id, record entry { held = false; count = no_count }) ∷ []

abbrev pub activated : ℕ → Entries → Entries
activated id entries = behind_others id (entry_at id entries) entries

-- the value is replaced
abbrev pub updated : ℕ → Action → Entries → Entries
updated id value = changed_at id (λ entry. record entry { value = value })

-- one more rule uses it
abbrev pub adopted : ℕ → Entries → Entries
adopted id = changed_at id (λ entry. record entry { users = entry.users + 1 })

-- one rule fewer uses it
abbrev pub released : ℕ → Entries → Entries
released id = changed_at id (λ entry. record entry { users = entry.users - 1 })

-- it counts a frame of so many bytes
abbrev pub raised : ℕ → ℕ → Entries → Entries
raised id bytes = changed_at id (λ entry. record entry { count = counted entry.count bytes })
