-- A state whose list of shared actions changes alone.
use Rattle.std.proofs.Common.{◌≡◌, ℕ, nat_eq, map, sym, subst, ap, ◌∙◌, List}
use Rattle.std.specs.List.{IsDistinct}
use Rattle.std.specs.Map.{keys_of}
use Rattle.flow_actions.specs.declared.action.Action.{Action}
use Rattle.flow_rules.specs.Shared.{Shared, IsSharedOn}
use Rattle.indirect_counters.specs.Entries.{Entries, values_in_effect}
use Rattle.indirect_counters.specs.Room.{IndirectsView}
use Rattle.indirect_counters.specs.Sound.{AreOn, CanAdd}
use Rattle.port_state.specs.declared.held.Held.{Held}
use Rattle.port_state.specs.declared.state.State.TheInside.{Inside}
use Rattle.port_state.specs.Kept.{AreKeptFor}
use Rattle.port_state.specs.KeptState.{KeptState, placed, plans_of, state_in}
use Rattle.port_state.specs.StateInside.{IsSound, state_kept}
use Rattle.port_state.proofs.Parts.{with_parts}

-- what the code knows of it
pub sound-shared : (s : Inside) (shared : IndirectsView) (entries : Entries) → shared.entries ≡ entries → AreOn s.rxq entries → IsSound s → IsSound (record s { shared = shared })
sound-shared s shared entries is on sound = record {
  on_port = subst (AreOn s.rxq) (sym is) on;
  settled = sound.settled;
  slots = sound.slots;
  queues = sound.queues;
  tables = sound.tables;
}

-- the values in effect change so
pub state-shared : (s : Inside) (old : KeptState) (new entries : Entries) (change : Shared → Shared) → state_kept s ≡ old → new ≡ entries
    → values_in_effect entries ≡ change (values_in_effect s.shared.entries)
    → with_parts s (map placed s.rules.list) (values_in_effect new) (plans_of s.templates) ≡ record (state_in old) { shared = change (state_in old).shared }
state-shared s old new entries change same is values =
    let with_values = λ (vs : Shared). with_parts s (map placed s.rules.list) vs (plans_of s.templates) in
    ap (λ es. with_values (values_in_effect es)) is ∙ ap with_values values ∙ ap (λ (k : KeptState). record (state_in k) { shared = change (state_in k).shared }) same

-- what is known of the state as it was
pub can-inside : (k old : KeptState) (id : ℕ) (value : Action) → k ≡ old → CanAdd id value old.shared → CanAdd id value k.shared
can-inside k old id value same can = subst (λ (x : KeptState). CanAdd id value x.shared) (sym same) can

pub on-inside : (k old : KeptState) (value : Action) → k ≡ old → IsSharedOn old.rxq value → IsSharedOn k.rxq value
on-inside k old value same on = subst (λ (x : KeptState). IsSharedOn x.rxq value) (sym same) on

pub kept-inside : (k old : KeptState) (ops : List Held) → k ≡ old → AreKeptFor old.ids old.templates old.shared ops → AreKeptFor k.ids k.templates k.shared ops
kept-inside k old ops same kept = subst (λ (x : KeptState). AreKeptFor x.ids x.templates x.shared ops) (sym same) kept

-- no id stands twice in a list that is the same
pub ids-apart : (new entries : Entries) → new ≡ entries → IsDistinct nat_eq (keys_of new) → IsDistinct nat_eq (keys_of entries)
ids-apart new entries is ids = subst (λ (es : Entries). IsDistinct nat_eq (keys_of es)) is ids
