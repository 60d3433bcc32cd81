use Rattle.std.proofs.Common.{Bool, true, false, cond, ◌∷◌, get_or, is_some, IsSome, IfSome, ◌≡◌, ℕ, refl, sym, ap, ◌∙◌, subst, [], List, None, Some, Option, arith}
use Rattle.std.specs.Option.{option_map, option_copied}
use Rattle.std.proofs.lemmas.List.{get_or_past, get_or_default}
use Rattle.std.proofs.lemmas.Bool.{eqb-true}
use Rattle.flow_rules.specs.declared.counter.Counter.{Counter}
use Rattle.flow_rules.specs.declared.counter.Counter.TheVariants as counters
use Rattle.flow_rules.specs.Changes.{has_id}
use Rattle.flow_actions.specs.declared.action.Action.{Action}
use Rattle.flow_actions.specs.declared.action.Action.TheVariants as actions
use Rattle.flow_rules.specs.RuleView.{RuleView}
use Rattle.flow_rules.specs.Naming.{named_by}
use Rattle.flow_rules.specs.Shared.{counter_in, value_in}
use Rattle.rules_in_effect.specs.declared.in_effect.InEffect.{InEffect}
use Rattle.rules_in_effect.specs.Entries.{rule_in, entry_at}
use Rattle.rules_in_effect.proofs.Distinct.{rule_at-entry}
use Rattle.port_state.specs.Raising.{naming_at, IsNamed, IsKept}
use Rattle.indirect_counters.specs.Entries.{Entries, values_in_effect}
use Rattle.port_state.proofs.raising.named_at.Goals as goal

pub returns-in_default-clause-named : goal.returns-in_default-clause-named
returns-in_default-clause-named c =
    let found = rule_at-entry c.args.id c.args.rules.now.list ∙ ap (option_map rule_in) (sym c.get.ensures ∙ ap option_copied c.in_default.is) in
    sym (ap (λ (o : Option RuleView). naming_at (values_in_effect c.args.shared.now.entries) o c.args.place) found)

pub returns-then-place-list-clause-named : goal.returns-then-place-list-clause-named
returns-then-place-list-clause-named c =
    let found = rule_at-entry c.args.id c.args.rules.now.list ∙ ap (option_map rule_in) (sym c.get.ensures ∙ ap option_copied c.in-Some.is) in
    let rule = c.in-Some.entry.now.rule in
    let shared = values_in_effect c.args.shared.now.entries in
    let whole = c.as_slice-list.ensures.value ∙ c.actions.ensures.list ∙ ap (λ (r : RuleView). r.actions) c.get-rule.ensures in
    let past : get_or rule.actions c.args.place actions.Void ≡ actions.Void
    = ap (λ (xs : List Action). get_or xs c.args.place actions.Void) (sym whole) ∙ get_or_past c.as_slice-list.result.now c.args.place actions.Void (omega (arith, c.if-place-list.true)) in
    sym (ap (λ (o : Option RuleView). naming_at shared o c.args.place) found ∙ ap (λ (a : Action). named_by (counter_in rule.id a) (value_in shared a)) past)

pub returns-clause-named : goal.returns-clause-named
returns-clause-named c =
    let found = rule_at-entry c.args.id c.args.rules.now.list ∙ ap (option_map rule_in) (sym c.get.ensures ∙ ap option_copied c.in-Some.is) in
    let rule = c.in-Some.entry.now.rule in
    let shared = values_in_effect c.args.shared.now.entries in
    let whole = c.as_slice-list.ensures.value ∙ c.actions.ensures.list ∙ ap (λ (r : RuleView). r.actions) c.get-rule.ensures in
    let here : c.index-list-place.result ≡ get_or rule.actions c.args.place actions.Void
    = c.index-list-place.is ∙ get_or_default c.as_slice-list.result.now c.args.place _ actions.Void (omega (arith, c.if-place-list.false)) ∙ ap (λ (xs : List Action). get_or xs c.args.place actions.Void) whole in
    c.named_by.ensures.named
    ∙ ap (λ n. named_by (counter_in n c.index-list-place.result) (value_in shared c.index-list-place.result)) (c.id.ensures ∙ ap (λ (r : RuleView). r.id) c.get-rule.ensures)
    ∙ ap (λ (a : Action). named_by (counter_in rule.id a) (value_in shared a)) here
    ∙ sym (ap (λ (o : Option RuleView). naming_at shared o c.args.place) found)

some-same : {A : Type 0} {x y : A} → Some x ≡ Some y → x ≡ y
some-same e = cc

-- a rule is found by its own id
id-found : (id : ℕ) (list : List InEffect) (entry : InEffect) → entry_at id list ≡ Some entry → entry.rule.id ≡ id
id-found id [] entry found = cc
id-found id (e ∷ list) entry found = by (has_id id e.rule) refl (id-found id list entry) found where
  by : (b : Bool) → has_id id e.rule ≡ b → (entry_at id list ≡ Some entry → entry.rule.id ≡ id) → cond b (Some e) (entry_at id list) ≡ Some entry → entry.rule.id ≡ id
  by true same behind here = subst (λ (x : InEffect). x.rule.id ≡ id) (some-same here) (eqb-true e.rule.id id same)
  by false other behind here = behind here

kept : (rules : List InEffect) (shared : Entries) (id rule : ℕ) → rule ≡ id → IsSome (entry_at id rules) → (o : Option Counter) → IfSome o (IsNamed rule shared) → IfSome o (λ counter. IsKept counter rules shared)
kept rules shared id rule same there None named = named
kept rules shared id rule same there (Some (counters.Rule other)) named = subst (λ k. IsSome (entry_at k rules)) (sym (named ∙ same)) there
kept rules shared id rule same there (Some (counters.Shared other)) named = named

pub returns-clause-there : goal.returns-clause-there
returns-clause-there c =
    let found : entry_at c.args.id c.args.rules.now.list ≡ Some c.in-Some.entry.now = sym c.get.ensures ∙ ap option_copied c.in-Some.is in
    kept c.args.rules.now.list c.args.shared.now.entries c.args.id c.id.result (c.id.ensures ∙ ap (λ (r : RuleView). r.id) c.get-rule.ensures ∙ id-found c.args.id c.args.rules.now.list c.in-Some.entry.now found)
    (ap (λ (o : Option InEffect). is_some o) found) c.named_by.result c.named_by.ensures.there
