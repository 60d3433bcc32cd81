use Rattle.std.proofs.Common.{◌∙◌, sym, refl, subst}
use Rattle.std.specs.Prelude.{IsSome}
use Rattle.turn_book.proofs.Holders.{some_same}
use Rattle.turn_book.proofs.Closing.{ends_at, ends_with, closes_fixed, closes_begins, closes_seen, closes_own, closes_owned, closes_all}
use Rattle.turn_book.proofs.book.Book.close.Goals as goal

pub unwrap-requires : goal.unwrap-requires
unwrap-requires g c =
    let b = c.args.self in
    let all = c.close_with-closed.ensures.values in
    let fin = ends_at g.M.Entries.entries g.M.Entries.fixed g.M.Entries.owner b c.args.seats c.gather_all-token.result.id c.gather_all-token.result.me _ _ c.gather_all-token.ensures.places c.requires all.2 in
    let found = ends_with g.M.Entries.entries g.M.Entries.fixed g.M.Entries.owner _ _ _ _ fin c.take-value.result c.take-value.ensures.value in
    subst IsSome (sym found) refl

pub returns-clause-fixed : goal.returns-clause-fixed
returns-clause-fixed g c =
    let b = c.args.self in
    let all = c.close_with-closed.ensures.values in
    let fin = ends_at g.M.Entries.entries g.M.Entries.fixed g.M.Entries.owner b c.args.seats c.gather_all-token.result.id c.gather_all-token.result.me _ _ c.gather_all-token.ensures.places c.requires all.2 in
    let found = ends_with g.M.Entries.entries g.M.Entries.fixed g.M.Entries.owner _ _ _ _ fin c.take-value.result c.take-value.ensures.value in
    let same = some_same fin.value c.unwrap.result (sym found ∙ c.unwrap.ensures) in
    closes_fixed g.M.Entries.entries g.M.Entries.fixed g.M.Entries.owner b c.args.seats _ fin c.unwrap.result same

pub returns-clause-begins : goal.returns-clause-begins
returns-clause-begins g c =
    let b = c.args.self in
    let all = c.close_with-closed.ensures.values in
    let fin = ends_at g.M.Entries.entries g.M.Entries.fixed g.M.Entries.owner b c.args.seats c.gather_all-token.result.id c.gather_all-token.result.me _ _ c.gather_all-token.ensures.places c.requires all.2 in
    let found = ends_with g.M.Entries.entries g.M.Entries.fixed g.M.Entries.owner _ _ _ _ fin c.take-value.result c.take-value.ensures.value in
    let same = some_same fin.value c.unwrap.result (sym found ∙ c.unwrap.ensures) in
    closes_begins g.M.Entries.entries g.M.Entries.fixed g.M.Entries.owner b c.args.seats _ fin c.unwrap.result same

pub returns-clause-seen : goal.returns-clause-seen
returns-clause-seen g c =
    let b = c.args.self in
    let all = c.close_with-closed.ensures.values in
    let fin = ends_at g.M.Entries.entries g.M.Entries.fixed g.M.Entries.owner b c.args.seats c.gather_all-token.result.id c.gather_all-token.result.me _ _ c.gather_all-token.ensures.places c.requires all.2 in
    let found = ends_with g.M.Entries.entries g.M.Entries.fixed g.M.Entries.owner _ _ _ _ fin c.take-value.result c.take-value.ensures.value in
    let same = some_same fin.value c.unwrap.result (sym found ∙ c.unwrap.ensures) in
    closes_seen g.M.Entries.entries g.M.Entries.fixed g.M.Entries.owner b c.args.seats _ fin c.unwrap.result same

pub returns-clause-own : goal.returns-clause-own
returns-clause-own g c =
    let b = c.args.self in
    let all = c.close_with-closed.ensures.values in
    let fin = ends_at g.M.Entries.entries g.M.Entries.fixed g.M.Entries.owner b c.args.seats c.gather_all-token.result.id c.gather_all-token.result.me _ _ c.gather_all-token.ensures.places c.requires all.2 in
    let found = ends_with g.M.Entries.entries g.M.Entries.fixed g.M.Entries.owner _ _ _ _ fin c.take-value.result c.take-value.ensures.value in
    let same = some_same fin.value c.unwrap.result (sym found ∙ c.unwrap.ensures) in
    closes_own g.M.Entries.entries g.M.Entries.fixed g.M.Entries.owner b c.args.seats _ fin c.unwrap.result same c.requires

pub returns-clause-owned : goal.returns-clause-owned
returns-clause-owned g c =
    let b = c.args.self in
    let all = c.close_with-closed.ensures.values in
    let fin = ends_at g.M.Entries.entries g.M.Entries.fixed g.M.Entries.owner b c.args.seats c.gather_all-token.result.id c.gather_all-token.result.me _ _ c.gather_all-token.ensures.places c.requires all.2 in
    let found = ends_with g.M.Entries.entries g.M.Entries.fixed g.M.Entries.owner _ _ _ _ fin c.take-value.result c.take-value.ensures.value in
    let same = some_same fin.value c.unwrap.result (sym found ∙ c.unwrap.ensures) in
    closes_owned g.M.Entries.entries g.M.Entries.fixed g.M.Entries.owner b c.args.seats _ fin c.unwrap.result same

pub returns-clause-all : goal.returns-clause-all
returns-clause-all g c =
    let b = c.args.self in
    let all = c.close_with-closed.ensures.values in
    let fin = ends_at g.M.Entries.entries g.M.Entries.fixed g.M.Entries.owner b c.args.seats c.gather_all-token.result.id c.gather_all-token.result.me _ _ c.gather_all-token.ensures.places c.requires all.2 in
    let found = ends_with g.M.Entries.entries g.M.Entries.fixed g.M.Entries.owner _ _ _ _ fin c.take-value.result c.take-value.ensures.value in
    let same = some_same fin.value c.unwrap.result (sym found ∙ c.unwrap.ensures) in
    closes_all g.M.Entries.entries g.M.Entries.fixed g.M.Entries.owner b c.args.seats _ fin c.unwrap.result same
