use Rattle.std.proofs.Common.{◌≡◌, ◌+◌, List, ◌++◌, ◌∷◌, [], length, length-append, arith, ap, ◌∙◌}
use Rattle.flow_rules.specs.RuleView.{RuleView}
use Rattle.rule_index.specs.IndexView.{IndexView, named}
use Rattle.rule_index.specs.Rank.{present}
use Rattle.rule_index.proofs.Views.{none_of, present_push, view_same}
use Rattle.rule_index.proofs.index.RuleIndex.enter.Goals as goal

pub put-requires-clause-new : goal.put-requires-clause-new
put-requires-clause-new c = none_of c.make_room.new.slots.items c.args.rule.now.id
    (ap (named c.args.rule.now.id) (c.make_room.ensures.present ∙ ap (λ (v : IndexView). v.rules) c.self.view_is) ∙ c.requires.new)

pub returns-clause-ok : goal.returns-clause-ok
returns-clause-ok c = view_same _ _ _ _
    (ap present c.in_ok-put.ensures.ok ∙ present_push c.make_room.new.slots.items c.args.rule.now
    ∙ ap (λ (l : List RuleView). l ++ c.args.rule.now ∷ []) (c.make_room.ensures.present ∙ ap (λ (v : IndexView). v.rules) c.self.view_is))
    (ap (λ (v : IndexView). v.inserts + 1) c.self.view_is)

pub invariant_of-self-2 : goal.invariant_of-self-2
invariant_of-self-2 c = record {
  indexed = c.put.ensures.indexed;
  counted =
      let more : present c.put.new.slots.items ≡ present c.self.inside.slots.items ++ c.args.rule.now ∷ [] =
      ap present c.in_ok-put.ensures.ok ∙ present_push c.make_room.new.slots.items c.args.rule.now ∙ ap (λ (l : List RuleView). l ++ c.args.rule.now ∷ []) c.make_room.ensures.present in
      omega (arith, c.self.invariant.counted, ap length more, length-append (present c.self.inside.slots.items) (c.args.rule.now ∷ []));
}
