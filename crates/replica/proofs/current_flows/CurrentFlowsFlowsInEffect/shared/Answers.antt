use Rattle.std.proofs.Common.{nat_eq, sym, subst, Option, None, Some}
use Rattle.std.specs.Option.{option_map, IfSome}
use Rattle.std.proofs.lemmas.Map.Entries.{All-lookup}
use Rattle.flow_actions.specs.declared.action.Action.{Action}
use Rattle.flow_rules.specs.Shared.{IsSharedOn, shared_at}
use Rattle.flow_rules.specs.Walk.{Flows}
use Rattle.replica.proofs.current_flows.CurrentFlowsFlowsInEffect.shared.Goals as goal

-- what holds of what stands behind a reference, if there is one
behind : {A B : Type 0} (f : A → B) (P : B → Type 0) (o : Option A) → IfSome (option_map f o) P → IfSome o (λ a. P (f a))
behind f P None holds = holds
behind f P (Some a) holds = holds

pub returns-clause-lawful : goal.returns-clause-lawful
returns-clause-lawful c =
    let inside = c.self.inside in
    let lawful : IfSome (shared_at c.args.id inside.shared) (IsSharedOn inside.rxq) = All-lookup (IsSharedOn inside.rxq) (nat_eq c.args.id) inside.shared c.self.invariant.1 in
    subst (λ (f : Flows). IfSome c.get.result (λ action. IsSharedOn f.rxq action.now)) c.self.view_is
    (behind (λ action. action.now) (IsSharedOn inside.rxq) c.get.result (subst (λ (o : Option Action). IfSome o (IsSharedOn inside.rxq)) (sym c.get.ensures) lawful))
