use Rattle.std.proofs.Common.{refl}
use Rattle.slot_pool.proofs.Views.{numbers_below}
use Rattle.slot_pool.proofs.pool.Pool.puts.Goals as goal

pub returns-clause-value : goal.returns-clause-value
returns-clause-value g c = rw (← c.self.view_is) refl

pub returns-clause-numbers : goal.returns-clause-numbers
returns-clause-numbers g c = rw (← c.self.view_is) (numbers_below c.self.inside.places.items c.self.inside.puts)
