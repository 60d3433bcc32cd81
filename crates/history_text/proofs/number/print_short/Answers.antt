-- A number below ten is its digit.
use Rattle.std.proofs.Common.{arith, sym}
use Rattle.std.proofs.lemmas.Fmt.{decimal_digit}
use Rattle.io_edges.proofs.Joins.{Prints-as}
use Rattle.history_text.proofs.number.print_short.Goals as goal

pub returns-then-number-lt10 : goal.returns-then-number-lt10
returns-then-number-lt10 g c = Prints-as (sym (decimal_digit c.args.number (omega arith))) c.print.ensures.prints
