use Rattle.std.proofs.Common.{◌∷◌, [], false, None, Some, map, ap, ◌∙◌, append-nil, arith}
use Rattle.turn_book.specs.Views.{knows}
use Rattle.turn_book.specs.Plays.{joined}
use Rattle.turn_book.specs.Seats.{seats_in}
use Rattle.turn_book.specs.Books.{opened, place_of, IsSeatOf}
use Rattle.turn_book.proofs.Seats.{joins_from}
use Rattle.turn_book.proofs.Closing.{of_last, places_of_last}
use Rattle.turn_book.proofs.book.Book.gather_all.Goals as goal

pub loop-other-init : goal.loop-other-init
loop-other-init g c =
    let b = c.args.self.now in
    let s = c.unwrap.result in
    let last = of_last (IsSeatOf g.M.Entries.entries g.M.Entries.fixed b) (seats_in c.args.seats) (seats_in c.pop.new.self) c.pop.result s c.pop.ensures.last c.unwrap.ensures c.requires.2 in
    record {
      at_table = last.1.0.0;
      places = (place_of s ∷ [], last.1.1, places_of_last (seats_in c.args.seats) (seats_in c.pop.new.self) c.pop.result s [] c.pop.ensures.last c.unwrap.ensures ∙ append-nil (map place_of (seats_in c.args.seats)));
      rest = last.0;
    }

pub join_seat-requires : goal.join_seat-requires
join_seat-requires g c =
    let b = c.args.self.now in
    let s = c.in-Some.other in
    let inv = c.loop-other.invariant in
    let last = of_last (IsSeatOf g.M.Entries.entries g.M.Entries.fixed b) (seats_in c.loop-other.seats) (seats_in c.pop-in-loop-other.new.self) c.pop-in-loop-other.result s c.pop-in-loop-other.ensures.last c.in-Some.is inv.rest in (
      inv.at_table,
      last.1.0.0,
      ap (λ m. m.1) last.1.1,
      (let two = last.1.0.1 in omega arith),
      joins_from g.M.Entries.entries g.M.Entries.fixed g.M.Entries.owner (opened b) b.table.shared.key.1 c.loop-other.all.id s.token.id inv.places.0 (place_of s ∷ []) (g.M.Entries.entries (opened b)) (Some (g.M.Entries.fixed (opened b)))
          c.loop-other.all.me.0 s.token.me.0 (ap (λ m. m.0) inv.places.1) (ap (λ m. m.0) last.1.1),
    )

pub loop-other-preserved : goal.loop-other-preserved
loop-other-preserved g c =
    let b = c.args.self.now in
    let s = c.in-Some.other in
    let inv = c.loop-other.invariant in
    let start = g.M.Entries.entries (opened b) in
    let part = Some (g.M.Entries.fixed (opened b)) in
    let last = of_last (IsSeatOf g.M.Entries.entries g.M.Entries.fixed b) (seats_in c.loop-other.seats) (seats_in c.pop-in-loop-other.new.self) c.pop-in-loop-other.result s c.pop-in-loop-other.ensures.last c.in-Some.is inv.rest in
    let join = c.join_seat.ensures in
    record {
      at_table = join.0 ∙ inv.at_table;
      places = (
        place_of s ∷ inv.places.0,
        join.2 ∙ ap (λ m. (joined m.0 s.token.me.0, m.1)) inv.places.1 ∙ ap (λ m. (joined (knows inv.places.0 None false start part) m.0, [])) last.1.1,
        places_of_last (seats_in c.loop-other.seats) (seats_in c.pop-in-loop-other.new.self) c.pop-in-loop-other.result s inv.places.0 c.pop-in-loop-other.ensures.last c.in-Some.is ∙ inv.places.2,
      );
      rest = last.0;
    }
