use Rattle.std.proofs.Common.{◌+◌, ◌≤◌}
use Rattle.turn_book.specs.Books.{IsSeatOf}
use Rattle.turn_book_caller.specs.Logs.{entries_of, fixed_of}
use Rattle.turn_book_caller.proofs.turns.note_below.Given as goal

abbrev pub invariant-loop-value : goal.invariant-loop-value
invariant-loop-value g l = record { at_rest : IsSeatOf entries_of fixed_of l.book l.seat; enough : l.count ≤ l.value + l.seat.left }
