use Rattle.std.proofs.Common.{◌∙◌}
use Rattle.running_phase.proofs.Taking.{within_copy}
use Rattle.running_phase.proofs.worker.keeping.edited.Goals as goal

pub rewrite_by-requires-clause-within : goal.rewrite_by-requires-clause-within
rewrite_by-requires-clause-within c =
    within_copy c.deref_mut.result.now c.args.parcel.now c.args.frame.now (c.deref_mut.ensures.value ∙ c.in_ok-bytes.ensures.items ∙ c.as_slice.ensures.value) c.requires.parcel
