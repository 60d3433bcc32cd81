use Rattle.std.proofs.Common.{◌≡◌, ℕ, sym, subst, ap, ◌∙◌, None}
use Rattle.flow_actions.specs.declared.action.Action.{Action}
use Rattle.flow_rules.specs.Shared.{IsSharedOn, with_shared}
use Rattle.indirect_counters.specs.Entries.{Entries}
use Rattle.indirect_counters.specs.Refusals.{update_fault}
use Rattle.indirect_counters.proofs.Creating.{update-clear, IsSharedOn-updated}
use Rattle.indirect_counters.proofs.Effects.{seen-updated}
use Rattle.indirect_counters.proofs.Lawful.{AreOn-updated}
use Rattle.port_state.specs.Kept.{AreKeptFor}
use Rattle.port_state.specs.KeptState.{KeptState}
use Rattle.port_state.specs.StateInside.{state_kept}
use Rattle.port_state.proofs.Carried.{carried-shared, updated_shared}
use Rattle.port_state.proofs.SharedChanged.{ids-apart, kept-inside, sound-shared, state-shared}
use Rattle.port_state.proofs.SharedHeld.{updated-kept}
use Rattle.port_state.proofs.TemplatesKept.{at-ok}
use Rattle.port_state.proofs.state.State.replace.Goals as goal

-- the value may be replaced, on the port of the limits
due : (k old : KeptState) → k ≡ old → (rxq id : ℕ) (action : Action) → rxq ≡ old.rxq → update_fault old.rxq old.shared id action ≡ None → update_fault rxq k.shared id action ≡ None
due k old same rxq id action port none =
    ap (λ (x : KeptState). update_fault rxq x.shared id action) same ∙ ap (λ n. update_fault n old.shared id action) port ∙ none

pub invariant_of-self : goal.invariant_of-self
invariant_of-self c =
    let s = c.self.inside in
    let none = due (state_kept s) _ c.self.view_is c.args.limits.now.rxq c.args.id c.args.action c.requires.port c.requires.due in
    let is = at-ok c.update.result _ (c.update.ensures.fault ∙ none) c.update.ensures.updated in
    let port : c.args.limits.now.rxq ≡ s.rxq = c.requires.port ∙ ap (λ (k : KeptState). k.rxq) (sym c.self.view_is) in
    let on : IsSharedOn s.rxq c.args.action = subst (λ n. IsSharedOn n c.args.action) port (IsSharedOn-updated c.args.limits.now.rxq s.shared.entries c.args.id c.args.action none) in
    sound-shared s c.update.new.self _ is (AreOn-updated s.rxq c.args.id c.args.action s.shared.entries on c.self.invariant.on_port) c.self.invariant

pub returns-clause-state : goal.returns-clause-state
returns-clause-state c =
    let s = c.self.inside in
    let none = due (state_kept s) _ c.self.view_is c.args.limits.now.rxq c.args.id c.args.action c.requires.port c.requires.due in
    let is = at-ok c.update.result _ (c.update.ensures.fault ∙ none) c.update.ensures.updated in
    state-shared s _ _ _ (with_shared c.args.id c.args.action) c.self.view_is is
    (seen-updated c.args.id c.args.action s.shared.entries (update-clear c.args.limits.now.rxq s.shared.entries c.args.id c.args.action none).there)

pub returns-clause-counts : goal.returns-clause-counts
returns-clause-counts c =
    let s = c.self.inside in
    let none = due (state_kept s) _ c.self.view_is c.args.limits.now.rxq c.args.id c.args.action c.requires.port c.requires.due in
    let is = at-ok c.update.result _ (c.update.ensures.fault ∙ none) c.update.ensures.updated in
    carried-shared s _ _ _ c.self.view_is is c.len-behind.ensures.sound.ids (λ q. updated_shared c.args.id q c.args.action s.shared.entries)

pub returns-clause-kept : goal.returns-clause-kept
returns-clause-kept c = λ others alone kept.
    let s = c.self.inside in
    let none = due (state_kept s) _ c.self.view_is c.args.limits.now.rxq c.args.id c.args.action c.requires.port c.requires.due in
    let is = at-ok c.update.result _ (c.update.ensures.fault ∙ none) c.update.ensures.updated in
    subst (λ (es : Entries). AreKeptFor s.ids s.templates es others) (sym is)
    (updated-kept s.ids c.args.id c.args.action s.templates s.shared.entries others c.len-before.ensures.sound.ids
    (ids-apart _ _ is c.len-behind.ensures.sound.ids) alone (kept-inside (state_kept s) _ others c.self.view_is kept))
