-- Where all lines have met theirs no layer changes that.
use Rattle.std.proofs.Common.{◌≡◌, Bool, true, nat_eq, length, List, Some, ap, arith}
use Rattle.std.proofs.lemmas.Bool.{eqb-true}
use Rattle.std.proofs.lemmas.Option.{slice_get_past}
use Rattle.packet_headers.specs.declared.items.LayerAt.{LayerAt}
use Rattle.rule_index.specs.declared.line.ShapeLine.{ShapeLine}
use Rattle.rule_index.specs.declared.digest.DigestWay.{DigestWay}
use Rattle.rule_index.specs.Digest.{meet_any, step}

pub all_are_met : (exact : Bool) (lines : List ShapeLine) (w : DigestWay) (l : LayerAt) → nat_eq w.met (length lines) ≡ true → step exact lines w l ≡ Some w
all_are_met exact lines w l e = ap (λ x. meet_any exact x w l) (slice_get_past lines w.met (let same = eqb-true w.met (length lines) e in omega arith))
