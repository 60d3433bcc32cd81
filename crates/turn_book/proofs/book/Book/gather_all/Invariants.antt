use Rattle.std.proofs.Common.{◌≡◌, List, [], ◌++◌, false, None, Some, map, All, vec_len}
use Rattle.turn_book.specs.declared.view.Place.{Place}
use Rattle.turn_book.specs.Views.{knows}
use Rattle.turn_book.specs.Seats.{seats_in}
use Rattle.turn_book.specs.Books.{opened, place_of, IsSeatOf}
use Rattle.turn_book.proofs.book.Book.gather_all.Given as goal

-- the token carries the places of all seats behind those that are left
abbrev pub invariant-loop-other : goal.invariant-loop-other
invariant-loop-other g l =
    record {
      at_table : l.all.table_id ≡ l.self.table.shared.table_id;
      places : (own : List (Place g.row.M-Entry.Denot)) × (l.all.me ≡ (knows own None false (g.M.Entries.entries (opened l.self)) (Some (g.M.Entries.fixed (opened l.self))), []))
          × (map place_of (seats_in l.seats) ++ own ≡ map place_of (seats_in l.fn.seats));
      rest : All (IsSeatOf g.M.Entries.entries g.M.Entries.fixed l.self) (seats_in l.seats);
    }

abbrev pub decreases-loop-other : goal.decreases-loop-other
decreases-loop-other g l = vec_len l.seats.items
