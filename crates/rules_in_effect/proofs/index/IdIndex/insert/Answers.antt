use Rattle.std.proofs.Common.{cond, refl, Some, ap, ◌∙◌, rules, length, ◌≤◌}
use Rattle.std.specs.Option.{option_or, option_flatten}
use Rattle.std.proofs.lemmas.Bool.{eq-eqb}
use Rattle.std.proofs.lemmas.Option.{slice_get_past}
use Rattle.rules_in_effect.specs.IdIndex.{named}
use Rattle.rules_in_effect.proofs.Waits.{named-push}
use Rattle.rules_in_effect.proofs.index.IdIndex.insert.Goals as goal

pub returns-clause-here : goal.returns-clause-here
returns-clause-here c =
    let past : length c.self.inside.places.items ≤ c.args.id = search rules in
    ap (λ p. option_or (option_flatten p) (named c.args.id c.push_reserved.new.self.items)) (slice_get_past c.self.inside.places.items c.args.id past)
    ∙ ap (named c.args.id) c.push_reserved.ensures.items
    ∙ named-push c.args.id c.self.inside.waiting.items (record { id = c.args.id; handle = c.args.handle })
    ∙ ap (λ b. cond b (Some c.args.handle) (named c.args.id c.self.inside.waiting.items)) (eq-eqb c.args.id c.args.id refl)
