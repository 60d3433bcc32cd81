use Rattle.std.proofs.Common.{refl, sym, subst, List}
use Rattle.flow_calls.specs.declared.entry.Entry.{Entry}
use Rattle.port_state.specs.KeptState.{state_in, count_in}
use Rattle.port_state.specs.Standing.{Standing}
use Rattle.adapter.specs.Sound.{Sound}
use Rattle.port_state.specs.Changes.{AreTold}
use Rattle.port_state.proofs.ChangesTold.{AreTold-nil}
use Rattle.adapter.proofs.SoundGrowth.{Sound-nil, no_totals}
use Rattle.adapter.proofs.adapter.Adapter.new.Goals as goal

pub invariant_of-result : goal.invariant_of-result
invariant_of-result c =
    let at : Standing = record { state = state_in c.new.result; totals = no_totals; count = count_in c.new.result } in (
      subst (λ (h : List Entry). Sound c.args.limits at h) (sym c.new-2.ensures.entries) (Sound-nil c.args.limits at c.new.ensures.state refl c.new.ensures.counts c.requires),
      subst (λ (h : List Entry). AreTold c.args.limits h c.new-3.result.list) (sym c.new-2.ensures.entries) (AreTold-nil c.args.limits c.new-3.result.list c.new-3.ensures),
      c.new.ensures.kept,
    )
