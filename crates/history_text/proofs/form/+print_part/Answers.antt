use Rattle.std.proofs.Common.{refl, ◌∙◌}
use Rattle.io_edges.proofs.Joins.{Prints-then, Prints-as}
use Rattle.history_text.proofs.Weaving.{filled-plain, filled-none, filled-some, left-none, left-plain, left-some}
use Rattle.history_text.proofs.form.+print_part.Goals as goal

pub returns-in_default-clause-prints : goal.returns-in_default-clause-prints
returns-in_default-clause-prints g t c =
    Prints-as (filled-none c.args.part.now c.args.numbers.now c.in_default.ensures.cases) c.print.ensures.prints

pub returns-in_default-clause-left : goal.returns-in_default-clause-left
returns-in_default-clause-left g t c = left-none c.args.part.now c.args.numbers.now c.in_default.ensures.cases

pub returns-in_default-first_hole-clause-prints : goal.returns-in_default-first_hole-clause-prints
returns-in_default-first_hole-clause-prints g t c =
    Prints-as (filled-plain c.args.part.now c.args.numbers.now (c.in_default-first_hole.ensures.none refl))
    c.print-in_default-first_hole.ensures.prints

pub returns-in_default-first_hole-clause-left : goal.returns-in_default-first_hole-clause-left
returns-in_default-first_hole-clause-left g t c =
    left-plain c.args.part.now c.args.numbers.now (c.in_default-first_hole.ensures.none refl)

pub returns-clause-prints : goal.returns-clause-prints
returns-clause-prints g t c =
    let hole = c.in-Some-first_hole.ensures.hole in
    Prints-as (filled-some c.args.part.now c.args.numbers.now c.in-Some.others.now c.in-Some-first_hole.place c.in-Some.number.now hole.0 hole.1 hole.2
    c.in-Some.ensures.cases.0)
    (Prints-then c.print-2.ensures.prints (Prints-then c.print_number.ensures.prints c.print_part.ensures.prints))

pub returns-clause-left : goal.returns-clause-left
returns-clause-left g t c =
    let hole = c.in-Some-first_hole.ensures.hole in
    c.print_part.ensures.left ∙ left-some c.args.part.now c.args.numbers.now c.in-Some.others.now c.in-Some-first_hole.place c.in-Some.number.now
    hole.0 hole.1 hole.2 c.in-Some.ensures.cases.0
