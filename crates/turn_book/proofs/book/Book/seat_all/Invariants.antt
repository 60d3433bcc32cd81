use Rattle.std.proofs.Common.{◌≡◌, ◌-◌, [], false, None, Some, map, All, vec_capacity, vec_len}
use Rattle.std.specs.List.{range_with_len}
use Rattle.turn_book.specs.Views.{knows, numbered}
use Rattle.turn_book.specs.Books.{opened, IsFresh}
use Rattle.turn_book.proofs.book.Book.seat_all.Given as goal

-- the seats below `number` are made, and the rest carries the other places
abbrev pub invariant-loop-number : goal.invariant-loop-number
invariant-loop-number g l =
    record {
      at_table : l.rest.table_id ≡ l.self.table.shared.table_id;
      places : l.rest.me ≡ (knows (numbered (g.M.Entries.entries (opened l.self)) l.number (l.seats - l.number)) None false (g.M.Entries.entries (opened l.self)) (Some (g.M.Entries.fixed (opened l.self))), []);
      fresh : All (IsFresh g.M.Entries.entries g.M.Entries.fixed l.self) l.items.items;
      numbers : map (λ s. s.number) l.items.items ≡ range_with_len 0 l.number;
      made : vec_len l.items ≡ l.number;
      room : vec_capacity l.items ≡ l.seats;
    }
