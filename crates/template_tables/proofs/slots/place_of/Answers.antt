use Rattle.std.proofs.Common.{sym}
use Rattle.std.proofs.lemmas.Bool.{eq-eqb}
use Rattle.template_tables.proofs.Placed.{first_at, none_more}
use Rattle.template_tables.proofs.slots.place_of.Goals as goal

pub returns-then-slot-id-clause-found : goal.returns-then-slot-id-clause-found
returns-then-slot-id-clause-found c =
    first_at c.args.id c.args.slots.now c.loop-place.place c.index-slots-place.result c.loop-place-test.true c.index-slots-place.is c.loop-place.invariant
    (eq-eqb c.args.id c.index-slots-place.result.0 (sym c.if-slot-id.true))

pub loop-place-preserved : goal.loop-place-preserved
loop-place-preserved c =
    none_more c.args.id c.args.slots.now c.loop-place.place c.index-slots-place.result c.loop-place-test.true c.index-slots-place.is c.loop-place.invariant c.if-slot-id.false
