-- Where all items are met no layer changes that.
use Rattle.std.proofs.Common.{◌≡◌, ℕ, true, nat_eq, length, List, Some, ap, arith}
use Rattle.std.proofs.lemmas.Bool.{eqb-true}
use Rattle.std.proofs.lemmas.Option.{slice_get_past}
use Rattle.packet_headers.specs.declared.items.LayerAt.{LayerAt}
use Rattle.pattern_items.specs.declared.test.ItemTest.{ItemTest}
use Rattle.pattern_items.specs.Walk.{meet_any, step}

pub all_are_met : (items : List ItemTest) (met : ℕ) (l : LayerAt) → nat_eq met (length items) ≡ true → step items met l ≡ Some met
all_are_met items met l e = ap (λ x. meet_any x met l) (slice_get_past items met (let same = eqb-true met (length items) e in omega arith))
