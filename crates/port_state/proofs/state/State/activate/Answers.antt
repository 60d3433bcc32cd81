use Rattle.std.proofs.Common.{◌≡◌, ℕ, ◌∷◌, is_some, true, refl, sym, subst, ap, Some}
use Rattle.flow_actions.specs.declared.action.Action.{Action}
use Rattle.flow_rules.specs.Shared.{with_shared}
use Rattle.indirect_counters.specs.Entries.{Entries, created, entry_at}
use Rattle.indirect_counters.proofs.Effects.{values-activated}
use Rattle.indirect_counters.proofs.Lawful.{AreOn-activated}
use Rattle.port_state.specs.declared.held.Held.TheVariants as held
use Rattle.port_state.specs.Kept.{AreKeptFor}
use Rattle.port_state.specs.KeptState.{KeptState}
use Rattle.port_state.specs.StateInside.{state_kept}
use Rattle.port_state.proofs.Carried.{activated_shared, carried-shared}
use Rattle.port_state.proofs.SharedChanged.{ids-apart, kept-inside, sound-shared, state-shared}
use Rattle.port_state.proofs.SharedHeld.{activated-kept}
use Rattle.port_state.proofs.state.State.activate.Goals as goal

here : (k old : KeptState) → k ≡ old → (id : ℕ) (value : Action) → entry_at id old.shared ≡ Some (created value true) → entry_at id k.shared ≡ Some (created value true)
here k old same id value is = subst (λ (x : KeptState). entry_at id x.shared ≡ Some (created value true)) (sym same) is

pub activate-requires-clause-there : goal.activate-requires-clause-there
activate-requires-clause-there c = ap is_some (here (state_kept c.self.inside) _ c.self.view_is c.args.id c.args.action c.requires.held)

pub invariant_of-self : goal.invariant_of-self
invariant_of-self c =
    let s = c.self.inside in
    sound-shared s c.activate.new.self _ c.activate.ensures.entries (AreOn-activated s.rxq c.args.id s.shared.entries c.self.invariant.on_port) c.self.invariant

pub returns-clause-state : goal.returns-clause-state
returns-clause-state c =
    let s = c.self.inside in
    let waits = here (state_kept s) _ c.self.view_is c.args.id c.args.action c.requires.held in
    state-shared s _ _ _ (with_shared c.args.id c.args.action) c.self.view_is c.activate.ensures.entries
    (values-activated c.args.id s.shared.entries (created c.args.action true) c.len-before.ensures.sound.ids waits refl)

pub returns-clause-counts : goal.returns-clause-counts
returns-clause-counts c =
    let s = c.self.inside in
    let waits = here (state_kept s) _ c.self.view_is c.args.id c.args.action c.requires.held in
    carried-shared s _ _ _ c.self.view_is c.activate.ensures.entries c.len-behind.ensures.sound.ids
    (λ q. activated_shared c.args.id q c.args.action s.shared.entries c.len-before.ensures.sound.ids waits)

pub returns-clause-kept : goal.returns-clause-kept
returns-clause-kept c = λ others alone kept.
    let s = c.self.inside in
    let waits = here (state_kept s) _ c.self.view_is c.args.id c.args.action c.requires.held in
    subst (λ (es : Entries). AreKeptFor s.ids s.templates es others) (sym c.activate.ensures.entries)
    (activated-kept s.ids c.args.id c.args.action s.templates s.shared.entries others c.len-before.ensures.sound.ids
    (ids-apart _ _ c.activate.ensures.entries c.len-behind.ensures.sound.ids) waits alone
    (kept-inside (state_kept s) _ (held.SharedCreated c.args.id c.args.action ∷ others) c.self.view_is kept))
