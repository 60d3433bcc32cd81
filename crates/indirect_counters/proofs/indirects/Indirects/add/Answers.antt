use Rattle.std.proofs.Common.{rules, arith, ◌≡◌, ◌∙◌, nat_eq, subst, sym, ap, None, Result, Ok, Err, OnOk}
use Rattle.indexmap.proofs.CallerLemmas.{insert_entry-new}
use Rattle.indirect_counters.specs.Entries.{Entries, entry_at}
use Rattle.indirect_counters.specs.Sound.{Sound}
use Rattle.indirect_counters.proofs.Lawful.{Sound-added}
use Rattle.indirect_counters.proofs.indirects.Indirects.add.Goals as goal

on-ok : {X E P : Type 0} {x : X} (r : Result X E) → r ≡ Ok x → OnOk r P → P
on-ok (Ok y) e p = p
on-ok (Err y) e p = cc

pub returns-clause-entries : goal.returns-clause-entries
returns-clause-entries c =
    let view = ap (λ v. v.entries) c.self.view_is in
    let free : entry_at c.args.id c.self.inside.map.entries ≡ None = subst (λ (es : Entries). entry_at c.args.id es ≡ None) (sym view) c.requires.fine.free in
    let new = insert_entry-new nat_eq c.self.inside.map c.args.id c.created.result free in
    on-ok c.insert.result c.unwrap.ensures c.insert.ensures.entries ∙ search (rules, new)

pub invariant_of-self : goal.invariant_of-self
invariant_of-self c =
    let view = ap (λ v. v.entries) c.self.view_is in
    subst Sound (sym (returns-clause-entries c)) (Sound-added c.args.id c.args.action.now c.args.held c.args.self.now.entries (omega (arith, c.ranges.id.fits)) c.requires.fine (subst Sound view c.self.invariant))
