-- A rule without a fault that names no shared action may be in effect alone.
use Rattle.std.proofs.Common.{◌≡◌, ℕ, ◌≤◌, Bool, false, List, [], ◌∷◌, refl, sym, subst, arith}
use Rattle.std.specs.List.{All, list_any, count_by}
use Rattle.std.proofs.lemmas.Bool.{or_parts}
use Rattle.std.proofs.lemmas.List.Elements.{All-cons, All-nil}
use Rattle.flow_actions.specs.declared.action.Action.{Action}
use Rattle.flow_actions.specs.declared.action.Action.TheVariants as actions
use Rattle.flow_rules.specs.Faults.{is_unknown, is_fate_in}
use Rattle.flow_rules.specs.OnPort.{IsFor}
use Rattle.flow_rules.specs.RuleView.{RuleView}
use Rattle.flow_rules.specs.Shared.{IsSharedOn}
use Rattle.flow_rules.specs.Valid.{IsValidRule, has_fate}
use Rattle.flow_rules.specs.Lawful.{kinds_in, NamesShared, HasOneFate, MayBeInEffect}

none-unknown : (list : List Action) → list_any (is_unknown (kinds_in [])) list ≡ false → All (λ action. is_unknown (kinds_in []) action ≡ false) list
none-unknown [] own = All-nil (λ action. is_unknown (kinds_in []) action ≡ false)
none-unknown (action ∷ list) own =
    let parts = or_parts (is_unknown (kinds_in []) action) (list_any (is_unknown (kinds_in [])) list) own in
    All-cons (λ a. is_unknown (kinds_in []) a ≡ false) action list parts.0 (none-unknown list parts.1)

same-fates : (action : Action) → is_fate_in (kinds_in []) action ≡ has_fate action
same-fates actions.Void = refl
same-fates (actions.Queue queue) = refl
same-fates actions.Drop = refl
same-fates (actions.Jump to) = refl
same-fates (actions.Rss rss) = refl
same-fates (actions.Mark mark) = refl
same-fates actions.Count = refl
same-fates (actions.Indirect id) = refl
same-fates (actions.Set edit) = refl

all-fates : is_fate_in (kinds_in []) ≡ has_fate
all-fates = λ j action. same-fates action j

pub lone : (rxq : ℕ) (isolated : Bool) (rule : RuleView) → IsValidRule rule → IsFor rxq rule → list_any (is_unknown (kinds_in [])) rule.actions ≡ false
    → MayBeInEffect rxq (record { rules = rule ∷ []; shared = []; isolated = isolated; rxq = rxq })
lone rxq isolated rule valid on_port own = record {
  valid = All-cons IsValidRule rule [] valid (All-nil IsValidRule);
  on_port = All-cons (IsFor rxq) rule [] on_port (All-nil (IsFor rxq));
  values = All-nil (λ (entry : ℕ × Action). IsSharedOn rxq entry.1);
  named = All-cons (NamesShared []) rule [] (none-unknown rule.actions own) (All-nil (NamesShared []));
  one_fate = All-cons (HasOneFate []) rule [] (subst (λ (test : Action → Bool). count_by test rule.actions ≤ 1) (sym all-fates) valid.one_fate) (All-nil (HasOneFate []));
  few = omega arith;
}

-- and so may one that is the same
pub same-lone : (rxq : ℕ) (rule other : RuleView) → other ≡ rule → ((isolated : Bool) → MayBeInEffect rxq (record { rules = rule ∷ []; shared = []; isolated = isolated; rxq = rxq }))
    → (isolated : Bool) → MayBeInEffect rxq (record { rules = other ∷ []; shared = []; isolated = isolated; rxq = rxq })
same-lone rxq rule other is may isolated =
    subst (λ (r : RuleView). MayBeInEffect rxq (record { rules = r ∷ []; shared = []; isolated = isolated; rxq = rxq })) (sym is) (may isolated)
