use Rattle.std.proofs.Common.{rules, ◌≡◌, sym, refl, ap, Some, ◌∷◌, ◌∙◌, rules}
use Rattle.turn_book.specs.Books.{opened, seen, first_seen, own_entries}
use Rattle.atomic_table.specs.Table.{rest}
use Rattle.turn_book.proofs.Mine.{own_stays}
use Rattle.turn_book.proofs.Draws.{draws_from}
use Rattle.turn_book.proofs.Looks.{looks_from}
use Rattle.turn_book.proofs.Turns.{drawn_from, took, taken, goes_on}
use Rattle.turn_book.proofs.book.Book.turn.Goals as goal

pub fetch_add-ticket-requires : goal.fetch_add-ticket-requires
fetch_add-ticket-requires g c =
    let b = c.args.self.now in
    let s = c.args.seat.now in (
      c.requires.seat.0.0,
      search rules,
      draws_from g.M.Entries.entries g.M.Entries.fixed g.M.Entries.owner (opened b) b.table.shared.key.1 _ s.token.id s.number s.left (seen s) _ _ s.token.me c.requires.seat.1 c.requires.left,
    )

pub loop-init : goal.loop-init
loop-init g c =
    let b = c.args.self.now in
    let s = c.args.seat.now in
    record {
      at_table = search rules;
      waits = drawn_from s.number s.left c.fetch_add-ticket.result (seen s) _ _ s.token.me c.fetch_add-ticket.new.seat.me c.requires.seat.1 c.fetch_add-ticket.ensures.2;
      number = refl;
      left = search rules;
    }

pub load-requires : goal.load-requires
load-requires g c =
    let b = c.args.self.now in
    let s = c.args.seat.now in (
      search rules,
      search rules,
      looks_from g.M.Entries.entries g.M.Entries.fixed g.M.Entries.owner (opened b) b.table.shared.key.1 _ c.loop.seat.token.id s.number c.loop.seat.left c.fetch_add-ticket.result (seen s) _ _ c.loop.seat.token.me c.loop.invariant.waits,
    )

pub exchange-requires : goal.exchange-requires
exchange-requires g c =
    let told =
    took g.M.Entries.entries g.M.Entries.fixed g.M.Entries.owner c.args.seat.now.number c.loop.seat.left c.fetch_add-ticket.result c.load.result (seen c.args.seat.now) _ _ c.loop.seat.token.me c.load.new.seat.me
    c.loop.invariant.waits c.load.ensures.2 c.if-load-ticket.true in
    (search rules, (Some told.value, ap (λ m. m.1) told.now ∙ ap (λ m. (0, Some told.value) ∷ rest m.1) (sym told.now)))

pub returns-then-load-ticket-clause-continues : goal.returns-then-load-ticket-clause-continues
returns-then-load-ticket-clause-continues g c =
    let told =
    took g.M.Entries.entries g.M.Entries.fixed g.M.Entries.owner c.args.seat.now.number c.loop.seat.left c.fetch_add-ticket.result c.load.result (seen c.args.seat.now) _ _ c.loop.seat.token.me c.load.new.seat.me
    c.loop.invariant.waits c.load.ensures.2 c.if-load-ticket.true in
    let same = taken g.M.Entries.entries g.M.Entries.fixed g.M.Entries.owner _ _ _ _ _ _ c.load.new.seat.me told c.exchange.result _ c.unwrap-value.result c.exchange.ensures.2 c.unwrap-value.ensures in
    let more = goes_on g.M.Entries.entries g.M.Entries.fixed g.M.Entries.owner _ _ _ _ _ (g.M.Entries.fixed (opened c.args.self.now)) c.load.new.seat.me told c.unwrap-value.result same in
    more

pub returns-then-load-ticket-clause-mine : goal.returns-then-load-ticket-clause-mine
returns-then-load-ticket-clause-mine g c =
    let told =
    took g.M.Entries.entries g.M.Entries.fixed g.M.Entries.owner c.args.seat.now.number c.loop.seat.left c.fetch_add-ticket.result c.load.result (seen c.args.seat.now) _ _ c.loop.seat.token.me c.load.new.seat.me
    c.loop.invariant.waits c.load.ensures.2 c.if-load-ticket.true in
    let same = taken g.M.Entries.entries g.M.Entries.fixed g.M.Entries.owner _ _ _ _ _ _ c.load.new.seat.me told c.exchange.result _ c.unwrap-value.result c.exchange.ensures.2 c.unwrap-value.ensures in
    let more = goes_on g.M.Entries.entries g.M.Entries.fixed g.M.Entries.owner _ _ _ _ _ (g.M.Entries.fixed (opened c.args.self.now)) c.load.new.seat.me told c.unwrap-value.result same in
    let all_seen : first_seen c.exchange.new.seat.me.0.own ≡ g.M.Entries.entries c.unwrap-value.result
    = ap (λ m. first_seen m.0.own) c.exchange.ensures.3 ∙ ap (λ m. first_seen m.0.own) told.now ∙ ap g.M.Entries.entries same in
    ap (λ n. own_entries g.M.Entries.entries g.M.Entries.fixed g.M.Entries.owner c.args.self.now n (first_seen c.exchange.new.seat.me.0.own)) c.loop.invariant.number
    ∙ own_stays (g.M.Entries.owner (g.M.Entries.fixed (opened c.args.self.now))) c.args.seat.now.number (g.M.Entries.entries (opened c.args.self.now)) (seen c.args.seat.now) more.0 (first_seen c.exchange.new.seat.me.0.own)
    c.requires.seat.2 (all_seen ∙ more.1) more.2
