use Rattle.rule_index.proofs.Homes.{is_even}
use Rattle.rule_index.proofs.wanted.Wanted.by.Goals as goal

pub own_digest-digest-requires : goal.own_digest-digest-requires
own_digest-digest-requires c = is_even _ c.shape_within-shape.result c.shape_within-shape.ensures
