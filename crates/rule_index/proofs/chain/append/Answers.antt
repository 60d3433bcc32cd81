use Rattle.std.proofs.Common.{◌≡◌, ◌++◌, ◌∷◌, [], List, length, ap, sym, ◌∙◌}
use Rattle.rule_index.specs.declared.chain.RulePlace.{RulePlace}
use Rattle.rule_index.specs.Places.{linked_by}
use Rattle.rule_index.proofs.Growth.{linked_length, lent_back}
use Rattle.rule_index.proofs.chain.append.Goals as goal

pub returns : goal.returns
returns c =
    let is : c.link.new.places ≡ linked_by c.args.places.now.items c.args.last (length c.args.places.now.items) =
    c.link.ensures ∙ ap (λ (x : List RulePlace). linked_by x c.args.last (length c.as_slice.result.now)) c.as_mut_slice.ensures.value
    ∙ ap (λ (x : List RulePlace). linked_by c.args.places.now.items c.args.last (length x)) c.as_slice.ensures.value in
    let long : c.args.places.now.len ≡ length c.link.new.places =
    sym c.as_slice.ensures.len ∙ ap length c.as_slice.ensures.value ∙ sym (linked_length c.args.places.now.items c.args.last (length c.args.places.now.items)) ∙ sym (ap length is) in
    c.push_reserved.ensures.items ∙ ap (λ (x : List RulePlace). x ++ c.args.place ∷ []) (lent_back c.link.new.places _ c.args.places.now.len long ∙ is)
