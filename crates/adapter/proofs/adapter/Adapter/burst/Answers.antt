use Rattle.std.proofs.Common.{rules, ◌≡◌, ℕ, [], ◌∷◌, ◌++◌, List, sym, ap, ◌∙◌, subst, append-nil}
use Rattle.std.proofs.lemmas.List.{nil_from_length}
use Rattle.flow_calls.specs.declared.entry.Entry.{Entry}
use Rattle.port_state.specs.Standing.{standing_kept, Counts}
use Rattle.adapter.proofs.Bursts.{Entering, Entering-next, first-below}
use Rattle.adapter.proofs.SoundGrowth.{HasRoom-totals}
use Rattle.adapter.proofs.adapter.Adapter.burst.Goals as goal

pub count_frame-requires-clause-below : goal.count_frame-requires-clause-below
count_frame-requires-clause-below c =
    let at = c.loop-packed.self-inside in
    let left : c.loop-packed.packed-iterator.rest.items ≡ c.in-Some.packed ∷ c.next.new.self.rest.items = search rules in
    let whole = c.args.self.now.history ++ c.args.frames.items in
    first-below at.limits at.changes.list whole c.args.self.now.spare (standing_kept at.standing) at.history c.in-Some.packed c.next.new.self.rest.items c.tally-tally.result
    (subst (Entering at.limits at.changes.list whole c.args.self.now.spare (standing_kept at.standing) at.history) left c.loop-packed.invariant.1) c.tally-tally.ensures

pub count_frame-requires-clause-totals : goal.count_frame-requires-clause-totals
count_frame-requires-clause-totals c =
    HasRoom-totals c.loop-packed.self-inside.limits (standing_kept c.loop-packed.self-inside.standing) c.loop-packed.self-inside.history.entries c.loop-packed.invariant.1.sound

pub loop-packed-preserved : goal.loop-packed-preserved
loop-packed-preserved c =
    let at = c.loop-packed.self-inside in
    let left : c.loop-packed.packed-iterator.rest.items ≡ c.in-Some.packed ∷ c.next.new.self.rest.items = search rules in
    let whole = c.args.self.now.history ++ c.args.frames.items in (
      c.loop-packed.invariant.0,
      Entering-next at.limits at.changes.list whole c.args.self.now.spare (standing_kept at.standing) at.history c.in-Some.packed c.next.new.self.rest.items
          (standing_kept c.count_frame.new.self) c.add.new.self c.tally-tally.result
          (subst (Entering at.limits at.changes.list whole c.args.self.now.spare (standing_kept at.standing) at.history) left c.loop-packed.invariant.1) c.tally-tally.ensures
          (subst (λ (ids : List ℕ). Counts (standing_kept at.standing) (standing_kept c.count_frame.new.self) ids c.tally-tally.result.fate c.tally-tally.result.bytes) c.as_slice.ensures.value c.count_frame.ensures.counts)
          (c.add.ensures.entries ∙ ap (λ (x : Entry). at.history.entries ++ x ∷ []) c.into_kept.ensures)
          c.add.ensures.spare c.add.ensures.room,
      c.count_frame.ensures.kept c.loop-packed.invariant.2,
    )

pub returns-clause-entered : goal.returns-clause-entered
returns-clause-entered c =
    let at = c.loop-packed.self-inside in
    let left = c.loop-packed.packed-iterator.rest in
    let none : left.items ≡ [] = nil_from_length left.items (search rules) in
    record {
      limits = c.loop-packed.invariant.0;
      history = sym (append-nil at.history.entries) ∙ ap (λ rest. at.history.entries ++ rest) (sym none) ∙ c.loop-packed.invariant.1.entries;
    }
