use Rattle.std.proofs.Common.{◌≡◌, ◌<◌, ◌≤◌, ◌^◌, ◌++◌, ◌∷◌, [], length, sym, ap, ◌∙◌, subst, refl, arith, List}
use Rattle.flow_rules.specs.declared.change.Change.{Change}
use Rattle.flow_rules.specs.declared.limits.Limits.{Limits}
use Rattle.flow_calls.specs.declared.reply.Reply.{Reply}
use Rattle.flow_calls.specs.declared.entry.Entry.{Entry}
use Rattle.flow_calls.specs.declared.entry.Entry.TheVariants.{Asked}
use Rattle.adapter.specs.Seen.{Seen}
use Rattle.adapter.specs.Kept.{entry_kept}
use Rattle.port_state.specs.Apart.{AreApart}
use Rattle.port_state.specs.State.{State, flows_of}
use Rattle.port_state.specs.Counters.{carried}
use Rattle.port_state.specs.KeptState.{state_in, count_in}
use Rattle.port_state.specs.Standing.{Standing, standing_kept}
use Rattle.port_state.specs.Changes.{AreTold, changes_by}
use Rattle.port_state.specs.Effect.{IsDue, done, changes_done, operations}
use Rattle.port_state.specs.Reply.{answer_of, reply_to}
use Rattle.adapter.specs.Sound.{Sound}
use Rattle.port_state.proofs.ChangesTold.{AreTold-push}
use Rattle.adapter.proofs.SoundGrowth.{Sound-asked, IsUnder-sound, reply-sound}
use Rattle.adapter.proofs.adapter.Adapter.step.Goals as goal

-- the port of a state that was reserved for is that of the limits, and its ids stand apart
port : (limits : Limits) (at : Standing) (h : List Entry) (s : State) → Sound limits at h → s ≡ at.state → limits.rxq ≡ s.rxq
port limits at h s sound same = sym (IsUnder-sound limits at h sound).port ∙ ap (λ (x : State). x.rxq) (sym same)

apart : (limits : Limits) (at : Standing) (h : List Entry) (s : State) → Sound limits at h → s ≡ at.state → AreApart s
apart limits at h s sound same = subst AreApart (sym same) (IsUnder-sound limits at h sound).apart

pub judge-requires-clause-port : goal.judge-requires-clause-port
judge-requires-clause-port c = port c.self.inside.limits (standing_kept c.self.inside.standing) c.self.inside.history.entries (state_in c.self.inside.standing.state) c.self.invariant.0 refl

pub carry_out-requires-clause-port : goal.carry_out-requires-clause-port
carry_out-requires-clause-port c =
    port c.self.inside.limits (standing_kept c.self.inside.standing) c.self.inside.history.entries (state_in c.reserve.new.self) c.self.invariant.0 c.reserve.ensures.state

pub carry_out-requires-clause-apart : goal.carry_out-requires-clause-apart
carry_out-requires-clause-apart c =
    apart c.self.inside.limits (standing_kept c.self.inside.standing) c.self.inside.history.entries (state_in c.reserve.new.self) c.self.invariant.0 c.reserve.ensures.state

pub carry_out-requires-clause-due : goal.carry_out-requires-clause-due
carry_out-requires-clause-due c = subst (λ (s : State). IsDue s c.in_ok-reply.field-0.effect) (sym c.reserve.ensures.state) c.in_ok-reply.ensures.due

pub carry_out-requires-clause-room : goal.carry_out-requires-clause-room
carry_out-requires-clause-room c =
    subst (λ n. n ≤ c.reserve.new.self.room) (c.operations-more.ensures ∙ ap (λ (s : State). operations s c.in_ok-reply.field-0.effect) (sym c.reserve.ensures.state)) c.in_ok-reserve.ensures.room

pub carry_out-requires-clause-changes_room : goal.carry_out-requires-clause-changes_room
carry_out-requires-clause-changes_room c =
    subst (λ n. n ≤ c.reserve-2.new.self.room) (c.operations-more.ensures ∙ ap (λ (s : State). operations s c.in_ok-reply.field-0.effect) (sym c.reserve.ensures.state)) c.in_ok-reserve-2.ensures.room

pub invariant_of-self-2 : goal.invariant_of-self-2
invariant_of-self-2 c =
    let inside = c.self.inside in
    let op = c.args.call.now.op in
    let at = standing_kept inside.standing in
    let effect = c.in_ok-reply.field-0.effect in
    let more : length inside.history.entries < 2 ^ 32 = omega (arith, ap length c.make_room_for_line.ensures.entries, c.in_ok-make_room_for_line.ensures.ready.short) in
    let kept : c.in_ok-kept.kept ≡ c.in_ok-reply.field-0.reply = c.in_ok-kept.ensures in
    let given : c.in_ok-kept.kept ≡ answer_of inside.limits at op = kept ∙ c.in_ok-reply.ensures.reply in
    let at' : Standing = record { state = state_in c.carry_out.new.self; totals = at.totals; count = count_in c.carry_out.new.self } in
    let entry : c.add_line.new.self.entries ≡ inside.history.entries ++ Asked c.args.caller c.args.call.now (answer_of inside.limits at op) ∷ []
    = c.add_line.ensures.entries ∙ ap (λ (l : List Entry). l ++ entry_kept c.in_ok-entry.entry ∷ []) c.make_room_for_line.ensures.entries
    ∙ ap (λ (x : Entry). inside.history.entries ++ x ∷ []) (c.in_ok-entry.ensures ∙ ap (λ (r : Reply). Asked c.args.caller c.args.call.now r) given) in
    let list : changes_done (state_in c.reserve.new.self) effect ≡ changes_by inside.limits at.state op
    = ap (λ (s : State). changes_done s effect) c.reserve.ensures.state ∙ c.in_ok-reply.ensures.changes in (
      subst (λ (h : List Entry). Sound inside.limits at' h) (sym entry)
          (Sound-asked inside.limits at at' inside.history.entries c.args.caller c.args.call.now c.self.invariant.0 more
          (c.in_ok-carry_out.ensures.state ∙ ap (λ (s : State). done s effect) c.reserve.ensures.state ∙ c.in_ok-reply.ensures.effect) refl
          (λ n. c.in_ok-carry_out.ensures.counts n
          ∙ ap (λ (s : State). carried n (flows_of s) (changes_done (state_in c.reserve.new.self) effect) (count_in c.reserve.new.self n)) c.reserve.ensures.state
          ∙ ap (λ (l : List Change). carried n (flows_of at.state) l (count_in c.reserve.new.self n)) list
          ∙ ap (carried n (flows_of at.state) (changes_by inside.limits at.state op)) (c.reserve.ensures.counts n))),
      subst (λ (h : List Entry). AreTold inside.limits h c.carry_out.new.changes.list) (sym entry)
          (AreTold-push inside.limits inside.history.entries (Asked c.args.caller c.args.call.now (answer_of inside.limits at op)) inside.changes.list c.carry_out.new.changes.list
          (changes_done (state_in c.reserve.new.self) effect) c.self.invariant.1
          (c.in_ok-carry_out.ensures.changes ∙ ap (λ (l : List Change). l ++ changes_done (state_in c.reserve.new.self) effect) c.reserve-2.ensures.same)
          (list ∙ ap (λ s. changes_by inside.limits s op) c.self.invariant.0.state)
          c.len.ensures.few),
      c.in_ok-carry_out.ensures.kept,
    )

pub returns-clause-reply : goal.returns-clause-reply
returns-clause-reply c =
    let inside = c.self.inside in
    let op = c.args.call.now.op in
    let at = standing_kept inside.standing in
    c.in_ok-reply.ensures.reply ∙ reply-sound inside.limits at inside.history.entries op c.self.invariant.0 ∙ ap (λ (s : Seen). reply_to s.limits s.history op) c.self.view_is
