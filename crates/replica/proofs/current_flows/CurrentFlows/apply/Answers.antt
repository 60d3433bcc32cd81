use Rattle.std.proofs.Common.{◌≡◌, sym, subst, None}
use Rattle.flow_rules.specs.Naming.{rule_at, HaveOwnIds}
use Rattle.flow_rules.specs.Walk.{Flows}
use Rattle.flow_rules.specs.Lawful.{IsNew}
use Rattle.replica.proofs.OwnIds.{own-pushed, own-without}
use Rattle.replica.proofs.current_flows.CurrentFlows.apply.Goals as goal

pub invariant_of-self : goal.invariant_of-self
invariant_of-self c =
    let inside = c.self.inside in
    let rule = c.in-Added.rule in
    let new : rule_at rule.id inside.rules ≡ None
    = subst (λ (f : Flows). rule_at rule.id f.rules ≡ None) (sym c.self.view_is) (subst (IsNew c.args.self.now) c.in-Added.is c.requires.new) in
    (subst HaveOwnIds (sym c.in_ok-push-in-Added.ensures.ok) (own-pushed rule inside.rules new c.self.invariant.0), c.self.invariant.1)

pub invariant_of-self-in-Removed : goal.invariant_of-self-in-Removed
invariant_of-self-in-Removed c =
    (subst HaveOwnIds (sym c.remove.ensures) (own-without c.in-Removed.id c.self.inside.rules c.self.invariant.0), c.self.invariant.1)
