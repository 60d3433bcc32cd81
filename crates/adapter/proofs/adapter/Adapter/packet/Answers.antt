use Rattle.std.proofs.Common.{ℕ, sym, ap, ◌∙◌, subst, List}
use Rattle.flow_rules.specs.Walk.{verdict_of}
use Rattle.flow_calls.specs.declared.entry.Entry.{Entry}
use Rattle.adapter.specs.Seen.{Seen}
use Rattle.port_state.specs.State.{flows_of, state_of}
use Rattle.port_state.specs.Standing.{standing_kept, Counts}
use Rattle.adapter.specs.Sound.{Sound}
use Rattle.port_state.specs.Changes.{AreTold}
use Rattle.port_state.proofs.ChangesTold.{AreTold-passed}
use Rattle.adapter.proofs.SoundGrowth.{Sound-passed, IsBelow-verdict, HasRoom-totals, HasRoomFor-counts}
use Rattle.adapter.proofs.adapter.Adapter.packet.Goals as goal

pub count_frame-requires-clause-below : goal.count_frame-requires-clause-below
count_frame-requires-clause-below c =
    IsBelow-verdict c.self.inside.limits c.self.inside.history.entries c.args.parcel.now.key _ c.self.invariant.0.ranges
    (c.requires.verdict ∙ ap (λ (s : Seen). verdict_of (flows_of (state_of s.limits s.history)) c.args.parcel.now.key) (sym c.self.view_is))

pub count_frame-requires-clause-room : goal.count_frame-requires-clause-room
count_frame-requires-clause-room c = HasRoomFor-counts c.self.inside.limits (standing_kept c.self.inside.standing) c.self.inside.history.entries c.self.invariant.0

pub count_frame-requires-clause-totals : goal.count_frame-requires-clause-totals
count_frame-requires-clause-totals c = HasRoom-totals c.self.inside.limits (standing_kept c.self.inside.standing) c.self.inside.history.entries c.self.invariant.0

pub invariant_of-self-2 : goal.invariant_of-self-2
invariant_of-self-2 c =
    let inside = c.self.inside in
    let at = standing_kept inside.standing in
    let at' = standing_kept c.count_frame.new.self in
    let v = c.args.verdict.now in (
      subst (λ (h : List Entry). Sound inside.limits at' h) (sym c.in_ok-add_frame.ensures.ok)
          (Sound-passed inside.limits at at' inside.history.entries c.args.caller c.args.parcel.now v c.self.invariant.0 c.in_ok-add_frame.ensures.short
          (c.requires.verdict ∙ ap (λ (s : Seen). verdict_of (flows_of (state_of s.limits s.history)) c.args.parcel.now.key) (sym c.self.view_is))
          (subst (λ (ids : List ℕ). Counts at at' ids v.fate c.args.parcel.now.len) c.as_slice.ensures.value c.count_frame.ensures.counts)),
      subst (λ (h : List Entry). AreTold inside.limits h inside.changes.list) (sym c.in_ok-add_frame.ensures.ok)
          (AreTold-passed inside.limits inside.history.entries c.args.caller c.args.parcel.now v inside.changes.list c.self.invariant.1),
      c.count_frame.ensures.kept c.self.invariant.2,
    )
