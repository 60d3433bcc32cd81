use Rattle.std.proofs.Common.{◌≡◌, ℕ, sym, subst, IsSome}
use Rattle.flow_rules.specs.Shared.{without_shared}
use Rattle.indirect_counters.specs.Entries.{Entries, in_effect_at}
use Rattle.indirect_counters.proofs.Effects.{values-without}
use Rattle.indirect_counters.proofs.Lawful.{AreOn-without}
use Rattle.port_state.specs.Kept.{AreKeptFor}
use Rattle.port_state.specs.KeptState.{KeptState}
use Rattle.port_state.specs.StateInside.{state_kept}
use Rattle.port_state.proofs.Carried.{carried-shared, removed_shared}
use Rattle.port_state.proofs.SharedChanged.{ids-apart, kept-inside, sound-shared, state-shared}
use Rattle.port_state.proofs.SharedHeld.{gone-kept}
use Rattle.port_state.proofs.state.State.unshare.Goals as goal

there : (k old : KeptState) → k ≡ old → (id : ℕ) → IsSome (in_effect_at id old.shared) → IsSome (in_effect_at id k.shared)
there k old same id is = subst (λ (x : KeptState). IsSome (in_effect_at id x.shared)) (sym same) is

pub invariant_of-self : goal.invariant_of-self
invariant_of-self c =
    let s = c.self.inside in
    sound-shared s c.remove.new.self _ c.remove.ensures.entries (AreOn-without s.rxq c.args.id s.shared.entries c.self.invariant.on_port) c.self.invariant

pub returns-clause-state : goal.returns-clause-state
returns-clause-state c =
    let s = c.self.inside in
    state-shared s _ _ _ (without_shared c.args.id) c.self.view_is c.remove.ensures.entries
    (values-without c.args.id s.shared.entries (there (state_kept s) _ c.self.view_is c.args.id c.requires.there))

pub returns-clause-counts : goal.returns-clause-counts
returns-clause-counts c =
    let s = c.self.inside in
    carried-shared s _ _ _ c.self.view_is c.remove.ensures.entries c.len-behind.ensures.sound.ids (λ q. removed_shared c.args.id q s.shared.entries c.len-before.ensures.sound.ids)

pub returns-clause-kept : goal.returns-clause-kept
returns-clause-kept c = λ others alone kept.
    let s = c.self.inside in
    subst (λ (es : Entries). AreKeptFor s.ids s.templates es others) (sym c.remove.ensures.entries)
    (gone-kept s.ids c.args.id s.templates s.shared.entries others c.len-before.ensures.sound.ids
    (ids-apart _ _ c.remove.ensures.entries c.len-behind.ensures.sound.ids)
    (there (state_kept s) _ c.self.view_is c.args.id c.requires.there) alone (kept-inside (state_kept s) _ others c.self.view_is kept))
