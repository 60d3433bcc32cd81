use Rattle.std.proofs.Common.{◌≡◌, ◌+◌, [], ◌∷◌, false, Some}
use Rattle.turn_book.specs.Views.{place, knows}
use Rattle.turn_book.specs.Books.{opened, seen}
use Rattle.turn_book.proofs.book.Book.turn.Given as goal

-- the seat waits with its ticket
abbrev pub invariant-loop : goal.invariant-loop
invariant-loop g l =
    record {
      at_table : l.seat.token.table_id ≡ l.fn.seat.token.table_id;
      waits : l.seat.token.me ≡ (knows (place l.fn.seat.number l.seat.left (seen l.fn.seat) ∷ []) (Some l.ticket) false (g.M.Entries.entries (opened l.self)) (Some (g.M.Entries.fixed (opened l.self))), []);
      number : l.seat.number ≡ l.fn.seat.number;
      left : l.seat.left + 1 ≡ l.fn.seat.left;
    }
