use Rattle.std.proofs.Common.{rules, ◌≡◌, ◌+◌, ◌<◌, ◌-◌, ◌^◌, ◌∷◌, [], false, None, Some, ap, ◌∙◌, refl, arith}
use Rattle.std.proofs.lemmas.List.Elements.{All-push, All-same}
use Rattle.turn_book.specs.Views.{place, knows, numbered}
use Rattle.turn_book.specs.Plays.{one_place, other_places}
use Rattle.turn_book.specs.Books.{opened, IsFresh}
use Rattle.turn_book.proofs.Seats.{splits_from}
use Rattle.turn_book.proofs.Ends.{numbered_more}
use Rattle.turn_book.proofs.Fresh.{fresh_seat, numbers_more}
use Rattle.turn_book.proofs.book.Book.seat_all.Goals as goal

pub split_seat-next-requires : goal.split_seat-next-requires
split_seat-next-requires g c =
    let b = c.args.self.now in
    let start = g.M.Entries.entries (opened b) in
    let part = Some (g.M.Entries.fixed (opened b)) in
    let n = c.loop-number.number in
    let lt : n < c.args.seats = omega arith in (
      search rules,
      search rules,
      splits_from g.M.Entries.entries g.M.Entries.fixed g.M.Entries.owner (opened b) b.table.shared.key.1 c.loop-number.rest.id (place n (2 ^ 32) start) (numbered start (n + 1) (c.args.seats - (n + 1))) start part c.loop-number.rest.me.0
          (ap (λ m. m.0) c.loop-number.invariant.places ∙ ap (λ ps. knows ps None false start part) (numbered_more start c.args.seats n lt)),
    )

pub loop-number-preserved : goal.loop-number-preserved
loop-number-preserved g c =
    let b = c.args.self.now in
    let start = g.M.Entries.entries (opened b) in
    let part = Some (g.M.Entries.fixed (opened b)) in
    let n = c.loop-number.number in
    let lt : n < c.args.seats = omega arith in
    let split = c.split_seat-next.ensures in
    let before = c.loop-number.invariant.places ∙ ap (λ ps. (knows ps None false start part, [])) (numbered_more start c.args.seats n lt) in
    let is_fresh = fresh_seat g.M.Entries.entries g.M.Entries.fixed b (record { token = c.split_seat-next.new.seat; number = n; left = 2 ^ 32 }) (split.0 ∙ c.loop-number.invariant.at_table, search rules, search rules) refl
    (split.2 ∙ ap (λ m. (one_place m.0, m.1)) before) in
    record {
      at_table = split.3 ∙ c.loop-number.invariant.at_table;
      places = split.4 ∙ ap (λ m. (other_places m.0, [])) before;
      fresh = All-same (IsFresh g.M.Entries.entries g.M.Entries.fixed b) _ _ c.push_reserved.ensures.items (All-push (IsFresh g.M.Entries.entries g.M.Entries.fixed b) _ _ c.loop-number.invariant.fresh is_fresh);
      numbers = numbers_more _ _ _ n (n + 1) c.push_reserved.ensures.items c.loop-number.invariant.numbers refl refl;
      made = search rules;
      room = search rules;
    }

pub returns-clause-fresh : goal.returns-clause-fresh
returns-clause-fresh g c =
    let b = c.args.self.now in
    let start = g.M.Entries.entries (opened b) in
    let part = Some (g.M.Entries.fixed (opened b)) in
    let n = c.loop-number.number in
    let some_seat = c.requires.room.0 in
    let last : n ≡ c.args.seats - 1 = omega arith in
    let one : c.args.seats - n ≡ 1 = omega (arith, some_seat) in
    let is_fresh = fresh_seat g.M.Entries.entries g.M.Entries.fixed b (record { token = c.loop-number.rest; number = c.args.seats - 1; left = 2 ^ 32 }) (c.loop-number.invariant.at_table, search rules, search rules) refl
    (c.loop-number.invariant.places ∙ ap (λ k. (knows (numbered start n k) None false start part, [])) one ∙ ap (λ k. (knows (place k (2 ^ 32) start ∷ []) None false start part, [])) last) in
    All-same (IsFresh g.M.Entries.entries g.M.Entries.fixed b) _ _ c.push_reserved-2.ensures.items (All-push (IsFresh g.M.Entries.entries g.M.Entries.fixed b) _ _ c.loop-number.invariant.fresh is_fresh)

pub returns-clause-numbers : goal.returns-clause-numbers
returns-clause-numbers g c =
    let n = c.loop-number.number in
    let some_seat = c.requires.room.0 in
    let last : c.args.seats - 1 ≡ n = omega arith in
    numbers_more _ _ _ n c.args.seats c.push_reserved-2.ensures.items c.loop-number.invariant.numbers last (omega (arith, some_seat))
