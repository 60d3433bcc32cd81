use Rattle.std.proofs.Common.{rules, ◌≡◌, ◌∙◌, ap, Some, ◌∷◌, ◌++◌, sym, subst}
use Rattle.atomic_table.specs.Table.{rest}
use Rattle.turn_book.specs.Views.{Each}
use Rattle.turn_book.specs.Books.{opened, seen, first_seen, mine}
use Rattle.turn_book.proofs.Leaves.{leaves_from}
use Rattle.turn_book.proofs.Mine.{own_grows, same_gain}
use Rattle.turn_book.proofs.turn.Turn.done.Goals as goal

pub fetch_add-requires : goal.fetch_add-requires
fetch_add-requires g c =
    let b = c.args.self.book.now in
    let s = c.args.self.seat.now in
    let turn = c.requires.turn in
    let gains = c.requires.gains in (
      search rules,
      search rules,
      leaves_from g.M.Entries.entries g.M.Entries.fixed g.M.Entries.owner (opened b) b.table.shared.key.1 _ c.exchange-nothing.new.seat.id s.number s.left turn.1.0 (seen s) _ _ c.args.self.value c.exchange-nothing.new.seat.me
          (c.exchange-nothing.ensures.3 ∙ ap (λ m. (m.0, (0, Some c.args.self.value) ∷ rest m.1)) turn.1.1) gains.0 gains.1 gains.2 (ap (λ x. Some x) (sym c.requires.fixed)),
    )

pub returns-clause-mine : goal.returns-clause-mine
returns-clause-mine g c = λ gained grows.
    let b = c.args.self.book.now in
    let s = c.args.self.seat.now in
    let gains = c.requires.gains in
    let all_seen : first_seen c.fetch_add.new.seat.me.0.own ≡ g.M.Entries.entries c.args.self.value = search rules in
    let who = g.M.Entries.owner (g.M.Entries.fixed (opened b)) in
    own_grows who s.number (g.M.Entries.entries (opened b)) (seen s) gains.0 _ c.requires.turn.2 (all_seen ∙ gains.1)
    (subst (λ f. Each (λ e. g.M.Entries.owner f e ≡ s.number) gains.0) c.requires.fixed gains.2)
    ∙ ap (λ l. mine g.M.Entries.entries g.M.Entries.fixed g.M.Entries.owner b s ++ l) (same_gain (seen s) gains.0 gained (g.M.Entries.entries c.args.self.value) gains.1 grows)
