use Rattle.std.proofs.Common.{Bor, List, map, ℕ}
use Rattle.rule_words.proofs.IdBounds.{ids-most}
use Rattle.flow_grammar.proofs.templates.template_ids.Goals as goal

pub short_ids-requires-clause-short : goal.short_ids-requires-clause-short
short_ids-requires-clause-short c =
    ids-most c.args.name.now 16 8 (map (λ (w : Bor (List ℕ)). w.now) c.args.words.now) c.in_ok-ids.ids.items (map (λ (w : Bor (List ℕ)). w.now) c.in_ok-ids.rest.now) c.in_ok-ids.ensures.value
