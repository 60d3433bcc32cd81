use Rattle.std.proofs.Common.{ap, ◌∙◌}
use Rattle.rules_in_effect.specs.IdIndex.{IdIndexView, find}
use Rattle.rules_in_effect.proofs.Waits.{found-forgotten, found-others}
use Rattle.rules_in_effect.proofs.index.IdIndex.remove.Goals as goal

pub returns-clause-here : goal.returns-clause-here
returns-clause-here c = found-forgotten c.args.id c.clear_place.new.places.items c.self.inside.waiting.items c.forget.new.waiting.items c.clear_place.ensures.here c.forget.ensures.others

pub returns-clause-others : goal.returns-clause-others
returns-clause-others c other differs =
    found-others c.args.id other c.self.inside.places.items c.clear_place.new.places.items c.self.inside.waiting.items c.forget.new.waiting.items differs
    (c.clear_place.ensures.others other differs) c.forget.ensures.others
    ∙ ap (λ (v : IdIndexView). find v other) c.self.view_is
