use Rattle.std.proofs.Common.{rules, ◌≡◌, ◌∷◌, ◌++◌, [], Some, ap, ◌∙◌, sym, subst, arith}
use Rattle.atomic_table.specs.Table.{opening}
use Rattle.turn_book.specs.Rule.{Kept, beginning}
use Rattle.turn_book.proofs.Ends.{opens}
use Rattle.turn_book.proofs.Fresh.{all_made}
use Rattle.turn_book.proofs.book.Book.new.Goals as goal

pub new-requires : goal.new-requires
new-requires g c =
    let value = c.of.result.value in
    let seats = c.from.result in
    let slots : c.push_reserved.new.self.items ≡ Some value ∷ [] = c.push_reserved.ensures.items ∙ ap (λ l. l ++ Some c.args.value ∷ []) c.in-Ok-with_capacity.ensures.items ∙ ap (λ v. Some v ∷ []) (sym c.of.ensures) in
    let some_seat = c.requires.0 in
    let few = c.requires.1 in
    let same = c.from.ensures in
    subst (λ xs. Kept g.M.Entries.entries g.M.Entries.fixed g.M.Entries.owner value seats (opening (0 ∷ 0 ∷ []) xs (beginning (g.M.Entries.entries value) (g.M.Entries.fixed value) seats))) (sym slots)
    (opens g.M.Entries.entries g.M.Entries.fixed g.M.Entries.owner value seats (omega arith) (omega arith))

pub returns-in-Ok-new-clause-all : goal.returns-in-Ok-new-clause-all
returns-in-Ok-new-clause-all g c =
    let seats : c.in-Ok-new.table.shared.key.1 ≡ c.args.seats = search rules in
    all_made g.M.Entries.entries g.M.Entries.fixed (record { table = c.in-Ok-new.table }) (record { items = c.seat_all-items.result }) c.args.seats c.requires.0 seats c.seat_all-items.ensures.fresh c.seat_all-items.ensures.numbers
