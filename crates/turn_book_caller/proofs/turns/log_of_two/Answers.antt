use Rattle.std.proofs.Common.{arith}
use Rattle.turn_book.specs.Seats.{seats_in}
use Rattle.turn_book.specs.Books.{IsFresh}
use Rattle.turn_book.proofs.Closing.{of_last}
use Rattle.turn_book_caller.specs.Logs.{entries_of, fixed_of}
use Rattle.turn_book_caller.proofs.turns.log_of_two.Goals as goal

pub note_in_two-noted-requires-clause-first : goal.note_in_two-noted-requires-clause-first
note_in_two-noted-requires-clause-first g c κs within =
    let second = of_last (IsFresh entries_of fixed_of c.in-Ok.book) (seats_in c.in-Ok.list) (seats_in c.pop.new.self) c.pop.result c.unwrap-second.result c.pop.ensures.last c.unwrap-second.ensures c.in-Ok.ensures.fresh in
    let first = of_last (IsFresh entries_of fixed_of c.in-Ok.book) (seats_in c.pop.new.self) (seats_in c.pop-2.new.self) c.pop-2.result c.unwrap-first.result c.pop-2.ensures.last c.unwrap-first.ensures second.0 in
    let full = first.1.1 in
    let few = c.requires in
    (first.1.0, omega arith)

pub note_in_two-noted-requires-clause-second : goal.note_in_two-noted-requires-clause-second
note_in_two-noted-requires-clause-second g c κs within =
    let second = of_last (IsFresh entries_of fixed_of c.in-Ok.book) (seats_in c.in-Ok.list) (seats_in c.pop.new.self) c.pop.result c.unwrap-second.result c.pop.ensures.last c.unwrap-second.ensures c.in-Ok.ensures.fresh in
    let full = second.1.1 in
    let few = c.requires in
    (second.1.0, omega arith)
