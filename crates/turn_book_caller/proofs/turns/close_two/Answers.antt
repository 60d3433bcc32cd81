use Rattle.std.proofs.Common.{◌≡◌, ◌∙◌, ◌<◌, ◌++◌, [], ◌∷◌, All, length, sym, ap, subst, arith}
use Rattle.std.proofs.lemmas.List.Elements.{All-nil, All-cons}
use Rattle.turn_book.specs.Seats.{seats_in}
use Rattle.turn_book.specs.Books.{IsSeatOf, seats_of}
use Rattle.turn_book_caller.specs.Logs.{entries_of, fixed_of}
use Rattle.turn_book_caller.proofs.turns.close_two.Goals as goal

pub close-requires : goal.close-requires
close-requires c =
    let b = c.args.book in
    let first = c.args.first in
    let second = c.args.second in
    let both : seats_in c.push-two.new.self ≡ first ∷ second ∷ [] = c.in-Ok-two.ensures.ok ∙ ap (λ l. l ++ second ∷ []) (c.in-Ok.ensures.ok ∙ ap (λ l. l ++ first ∷ []) c.requires.list.0) in
    let two = c.requires.list.2 in
    subst (λ l. (0 < length l) × (length l ≡ seats_of b) × All (IsSeatOf entries_of fixed_of b) l) (sym both)
    (omega arith, sym two, All-cons (IsSeatOf entries_of fixed_of b) first (second ∷ []) c.requires.seats.0 (All-cons (IsSeatOf entries_of fixed_of b) second [] c.requires.seats.1 (All-nil (IsSeatOf entries_of fixed_of b))))
