use Rattle.std.proofs.Common.{List, Some, sym, subst, ◌∙◌}
use Rattle.rule_index.specs.declared.chain.RulePlace.{RulePlace}
use Rattle.rule_index.specs.Index.{chain_of, place_of}
use Rattle.rule_index.specs.Places.{IsFirst}
use Rattle.rule_index.proofs.Scans.{table_at, none_by_digest, none_by_lead, taken_exactly, taken_first}
use Rattle.rule_index.proofs.scan.taken_in.Goals as goal

pub returns-in_default : goal.returns-in_default
returns-in_default c = none_by_digest c.args.slots.now c.args.finder.now.tables.list c.args.finder.now.places.items (chain_of c.args.finder.now) (place_of c.args.finder.now) c.requires.indexed c.args.number c.index-list-number.result c.args.key.now
    (table_at c.args.finder.now.tables.list c.list.result.now c.args.number c.index-list-number.result c.list.ensures c.requires.table c.index-list-number.is) (sym c.digest.ensures ∙ c.in_default.is)

pub returns-in_default-lead_of : goal.returns-in_default-lead_of
returns-in_default-lead_of c = none_by_lead c.args.slots.now c.args.finder.now.tables.list c.args.finder.now.places.items (chain_of c.args.finder.now) (place_of c.args.finder.now) c.requires.indexed c.args.number c.index-list-number.result c.args.key.now c.in-Some.digest
    (table_at c.args.finder.now.tables.list c.list.result.now c.args.number c.index-list-number.result c.list.ensures c.requires.table c.index-list-number.is) (sym c.digest.ensures ∙ c.in-Some.is) (sym c.in_default-lead_of.is ∙ c.lead_of.ensures)

pub returns-then-table : goal.returns-then-table
returns-then-table c = taken_exactly c.args.slots.now c.args.finder.now.tables.list c.args.finder.now.places.items (chain_of c.args.finder.now) (place_of c.args.finder.now) c.requires.indexed c.args.number c.index-list-number.result c.args.key.now c.in-Some.digest c.in-Some-lead_of.lead
    (table_at c.args.finder.now.tables.list c.list.result.now c.args.number c.index-list-number.result c.list.ensures c.requires.table c.index-list-number.is) (sym c.digest.ensures ∙ c.in-Some.is) (sym c.in-Some-lead_of.is ∙ c.lead_of.ensures) c.if-table.true

pub returns : goal.returns
returns c = taken_first c.args.slots.now c.args.finder.now.tables.list c.args.finder.now.places.items (chain_of c.args.finder.now) (place_of c.args.finder.now) c.requires.indexed c.args.number c.index-list-number.result c.args.key.now c.in-Some.digest c.in-Some-lead_of.lead c.first_taken.result
    (table_at c.args.finder.now.tables.list c.list.result.now c.args.number c.index-list-number.result c.list.ensures c.requires.table c.index-list-number.is) (sym c.digest.ensures ∙ c.in-Some.is) (sym c.in-Some-lead_of.is ∙ c.lead_of.ensures)
    (subst (λ (xs : List RulePlace). IsFirst (Some c.args.key.now) c.args.slots.now xs (record { digest = c.in-Some.digest; table = c.args.number }) c.in-Some-lead_of.lead.place c.first_taken.result) c.as_slice.ensures.value c.first_taken.ensures)
