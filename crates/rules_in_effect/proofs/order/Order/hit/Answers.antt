use Rattle.std.proofs.Common.{◌≡◌, Some, sym, ap, ◌∙◌, subst}
use Rattle.std.specs.Option.{option_copied_mut}
use Rattle.std.proofs.lemmas.Option.{same_Some}
use Rattle.rules_in_effect.specs.Entries.{CanCount, with_hit}
use Rattle.rules_in_effect.specs.Order.{OrderView, hit_under, under}
use Rattle.slot_pool.specs.Pool.{with_value}
use Rattle.rules_in_effect.proofs.Kept.{can_is_some, copied_is_some}
use Rattle.rules_in_effect.proofs.Ordered.{Keeps, Keeps-hit, kept_by, lies_under}
use Rattle.rules_in_effect.proofs.order.Order.hit.Goals as goal

pub unwrap-requires : goal.unwrap-requires
unwrap-requires c =
    let can = subst (λ (v : OrderView). CanCount c.args.bytes (under c.args.handle v.kept)) (sym c.self.view_is) c.requires in
    let there = lies_under c.self.inside.pool c.self.inside.chain c.args.handle c.self.inside.len c.self.inside.capacity c.self.invariant (can_is_some c.args.bytes _ can) in
    copied_is_some c.get_mut.result there.entry (c.get_mut.ensures.value ∙ there.found)

pub hit-requires : goal.hit-requires
hit-requires c =
    let can = subst (λ (v : OrderView). CanCount c.args.bytes (under c.args.handle v.kept)) (sym c.self.view_is) c.requires in
    let there = lies_under c.self.inside.pool c.self.inside.chain c.args.handle c.self.inside.len c.self.inside.capacity c.self.invariant (can_is_some c.args.bytes _ can) in
    let one : Some c.unwrap.result.now ≡ Some there.entry = ap option_copied_mut (sym c.unwrap.ensures) ∙ c.get_mut.ensures.value ∙ there.found in
    let here : CanCount c.args.bytes (Some c.unwrap.result.now) = subst (λ entry. CanCount c.args.bytes (Some entry)) (sym (same_Some c.unwrap.result.now there.entry one)) (subst (CanCount c.args.bytes) there.is can) in
    record { hits = here.0; bytes = here.1 }

-- what the order keeps then
after : (c : goal.After-self-1) → Keeps (with_value c.self.inside.pool c.args.handle c.hit.new.entry) c.self.inside.chain c.self.inside.len c.self.inside.capacity (hit_under c.args.handle c.args.bytes (kept_by c.self.inside.pool c.self.inside.chain))
after c =
    let can = subst (λ (v : OrderView). CanCount c.args.bytes (under c.args.handle v.kept)) (sym c.self.view_is) c.requires in
    let there = lies_under c.self.inside.pool c.self.inside.chain c.args.handle c.self.inside.len c.self.inside.capacity c.self.invariant (can_is_some c.args.bytes _ can) in
    let one : Some c.unwrap.result.now ≡ Some there.entry = ap option_copied_mut (sym c.unwrap.ensures) ∙ c.get_mut.ensures.value ∙ there.found in
    let written : c.hit.new.entry ≡ with_hit c.args.bytes there.entry = c.hit.ensures ∙ ap (with_hit c.args.bytes) (same_Some c.unwrap.result.now there.entry one) in
    subst (λ value. Keeps (with_value c.self.inside.pool c.args.handle value) c.self.inside.chain c.self.inside.len c.self.inside.capacity (hit_under c.args.handle c.args.bytes (kept_by c.self.inside.pool c.self.inside.chain)))
    (sym written)
    (Keeps-hit c.self.inside.pool c.self.inside.chain c.args.handle there.entry c.args.bytes c.self.inside.len c.self.inside.capacity c.self.invariant there.is)

pub invariant_of-self : goal.invariant_of-self
invariant_of-self c = (after c).order

pub returns-clause-kept : goal.returns-clause-kept
returns-clause-kept c = (after c).is ∙ ap (λ (v : OrderView). hit_under c.args.handle c.args.bytes v.kept) c.self.view_is
