use Rattle.std.proofs.Common.{sym, subst, false}
use Rattle.flow_rules.specs.Shared.{with_shared}
use Rattle.indirect_counters.specs.Entries.{Entries}
use Rattle.indirect_counters.proofs.Effects.{values-added}
use Rattle.indirect_counters.proofs.Lawful.{AreOn-added}
use Rattle.port_state.specs.Kept.{AreKept, AreKeptFor}
use Rattle.port_state.specs.KeptState.{state_in}
use Rattle.port_state.specs.State.{all_held}
use Rattle.port_state.specs.StateInside.{state_kept}
use Rattle.port_state.proofs.Carried.{added_shared, carried-shared}
use Rattle.port_state.proofs.SharedChanged.{can-inside, ids-apart, on-inside, sound-shared, state-shared}
use Rattle.port_state.proofs.SharedHeld.{shared-kept}
use Rattle.port_state.proofs.state.State.share.Goals as goal

pub add-requires-clause-fine : goal.add-requires-clause-fine
add-requires-clause-fine c = can-inside _ _ c.args.id c.args.action c.self.view_is c.requires.free

pub invariant_of-self : goal.invariant_of-self
invariant_of-self c =
    let s = c.self.inside in
    sound-shared s c.add.new.self _ c.add.ensures.entries
    (AreOn-added s.rxq c.args.id c.args.action false s.shared.entries (on-inside (state_kept s) _ c.args.action c.self.view_is c.requires.lawful) c.self.invariant.on_port) c.self.invariant

pub returns-clause-state : goal.returns-clause-state
returns-clause-state c =
    let s = c.self.inside in
    let free = (can-inside (state_kept s) _ c.args.id c.args.action c.self.view_is c.requires.free).free in
    state-shared s _ _ _ (with_shared c.args.id c.args.action) c.self.view_is c.add.ensures.entries (values-added c.args.id c.args.action s.shared.entries free)

pub returns-clause-counts : goal.returns-clause-counts
returns-clause-counts c =
    let s = c.self.inside in
    let free = (can-inside (state_kept s) _ c.args.id c.args.action c.self.view_is c.requires.free).free in
    carried-shared s _ _ _ c.self.view_is c.add.ensures.entries c.len-behind.ensures.sound.ids (λ q. added_shared c.args.id q c.args.action false s.shared.entries free)

pub returns-clause-kept : goal.returns-clause-kept
returns-clause-kept c = λ kept.
    let s = c.self.inside in
    let free = (can-inside (state_kept s) _ c.args.id c.args.action c.self.view_is c.requires.free).free in
    let ops = all_held (state_in (state_kept s)) in
    subst (λ (es : Entries). AreKeptFor s.ids s.templates es ops) (sym c.add.ensures.entries)
    (shared-kept s.ids c.args.id c.args.action s.templates s.shared.entries ops c.len-before.ensures.sound.ids
    (ids-apart _ _ c.add.ensures.entries c.len-behind.ensures.sound.ids) free (subst AreKept (sym c.self.view_is) kept))
