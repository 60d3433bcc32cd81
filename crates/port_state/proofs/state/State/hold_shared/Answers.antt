use Rattle.std.proofs.Common.{◌∷◌, true, sym, subst, ap, ◌∙◌}
use Rattle.flow_rules.specs.Shared.{Shared}
use Rattle.indirect_counters.specs.Entries.{Entries}
use Rattle.indirect_counters.proofs.Effects.{values-held}
use Rattle.indirect_counters.proofs.Lawful.{AreOn-added}
use Rattle.port_state.specs.declared.held.Held.TheVariants as held
use Rattle.port_state.specs.Kept.{AreKept, AreKeptFor}
use Rattle.port_state.specs.KeptState.{KeptState, count_in, count_kept, state_in}
use Rattle.port_state.specs.State.{all_held}
use Rattle.port_state.specs.StateInside.{state_kept}
use Rattle.port_state.proofs.Carried.{counts-held}
use Rattle.port_state.proofs.SharedChanged.{can-inside, ids-apart, on-inside, sound-shared, state-shared}
use Rattle.port_state.proofs.SharedHeld.{held-kept}
use Rattle.port_state.proofs.state.State.hold_shared.Goals as goal

pub add-requires-clause-fine : goal.add-requires-clause-fine
add-requires-clause-fine c = can-inside _ _ c.args.id c.args.action.now c.self.view_is c.requires.free

pub invariant_of-self : goal.invariant_of-self
invariant_of-self c =
    let s = c.self.inside in
    sound-shared s c.add.new.self _ c.add.ensures.entries
    (AreOn-added s.rxq c.args.id c.args.action.now true s.shared.entries (on-inside (state_kept s) _ c.args.action.now c.self.view_is c.requires.lawful) c.self.invariant.on_port) c.self.invariant

pub returns-clause-state : goal.returns-clause-state
returns-clause-state c =
    let s = c.self.inside in
    state-shared s _ _ _ (λ (vs : Shared). vs) c.self.view_is c.add.ensures.entries (values-held c.args.id c.args.action.now s.shared.entries)

pub returns-clause-counts : goal.returns-clause-counts
returns-clause-counts c = λ counter.
    let s = c.self.inside in
    let free = (can-inside (state_kept s) _ c.args.id c.args.action.now c.self.view_is c.requires.free).free in
    ap (λ es. count_kept s.rules.list es counter) c.add.ensures.entries
    ∙ counts-held c.args.id c.args.action.now s.rules.list s.shared.entries free counter
    ∙ ap (λ (k : KeptState). count_in k counter) c.self.view_is

pub returns-clause-kept : goal.returns-clause-kept
returns-clause-kept c =
    let s = c.self.inside in
    let free = (can-inside (state_kept s) _ c.args.id c.args.action.now c.self.view_is c.requires.free).free in
    let op = held.SharedCreated c.args.id c.args.action.now in
    let ops = all_held (state_in (state_kept s)) in
    subst (λ (k : KeptState). AreKeptFor s.ids s.templates c.add.new.self.entries (op ∷ all_held (state_in k))) c.self.view_is
    (subst (λ (es : Entries). AreKeptFor s.ids s.templates es (op ∷ ops)) (sym c.add.ensures.entries)
    (held-kept s.ids c.args.id c.args.action.now s.templates s.shared.entries ops c.len-before.ensures.sound.ids
    (ids-apart _ _ c.add.ensures.entries c.len-behind.ensures.sound.ids) free (subst AreKept (sym c.self.view_is) c.requires.kept)))
