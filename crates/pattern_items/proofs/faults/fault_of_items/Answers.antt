use Rattle.std.proofs.Common.{◌+◌, ◌∙◌, sym, ap, drop, arith}
use Rattle.pattern_items.specs.declared.order.Before.{Before}
use Rattle.pattern_items.specs.Faults.{faults_from, first}
use Rattle.pattern_items.proofs.FirstFaults.{fault_here, fault_behind, tags_next}
use Rattle.pattern_items.proofs.faults.fault_of_items.Goals as goal

pub returns-in-Some : goal.returns-in-Some
returns-in-Some c =
    fault_here c.args.items.now c.loop-place.place c.loop-place.before c.in-Some.fault _ (omega arith) c.if-is_void.ensures c.in-Some.ensures
    ∙ sym c.loop-place.invariant.1

pub loop-place-preserved : goal.loop-place-preserved
loop-place-preserved c = (
  tags_next c.loop-place.before c.next-before.result _ c.loop-place.place c.next-before.ensures c.loop-place.invariant.0,
  c.loop-place.invariant.1
      ∙ fault_behind c.args.items.now c.loop-place.place c.loop-place.before _ (omega arith) c.if-is_void.ensures c.in_default.ensures
      ∙ ap (λ (b : Before). first (faults_from (c.loop-place.place + 1) b (drop (c.loop-place.place + 1) c.args.items.now))) (sym c.next-before.ensures),
)
