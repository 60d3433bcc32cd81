-- What holding the creation of a bound rule comes to.
use Rattle.std.proofs.Common.{◌≡◌, ℕ, Bool, [], Option, None, Some, IsSome, IfSome, refl, sym, ap, ◌∙◌}
use Rattle.flow_rules.specs.RuleView.{RuleView}
use Rattle.flow_rules.specs.declared.fault.Fault.{Fault}
use Rattle.flow_rules.specs.declared.limits.Limits.{Limits}
use Rattle.flow_rules.specs.declared.spec.RuleSpec.{RuleSpec}
use Rattle.flow_rules.specs.Faults.{rule_of}
use Rattle.flow_calls.specs.declared.call.Op.TheVariants as ops
use Rattle.flow_calls.specs.declared.call.RuleLists.{RuleLists}
use Rattle.port_state.specs.declared.held.Held.{Held}
use Rattle.port_state.specs.declared.held.Held.TheVariants as held
use Rattle.port_state.specs.Changes.{changes_by, changes_enqueued, unless_refused_changes}
use Rattle.port_state.specs.State.{State, bound, creation_held, enqueued, first_of, full_fault, if_bound, next_state, table_rule_fault, unless_refused}

module _ (limits : Limits) (s : State) (q : ℕ) (postpone : Bool) (table pt act : ℕ) (lists : RuleLists) (rule : RuleView) where
  -- what is made of the rule's creation, where nothing is refused
  made-held : {A : Type 0} (of : Held → A) (unless : Option Fault → A → A) (other : A) → ((x : A) → unless None x ≡ x) → full_fault s q ≡ None → table_rule_fault limits s table pt act lists ≡ None
      → IsSome (bound s table pt act lists) → IfSome (bound s table pt act lists) (λ (spec : RuleSpec). rule ≡ rule_of s.ids spec)
      → of (held.RuleCreated rule table) ≡ unless (first_of (full_fault s q) (table_rule_fault limits s table pt act lists)) (if_bound (bound s table pt act lists) (λ spec. of (creation_held s table spec)) other)
  made-held {A} of unless other taken room fine there is = by (full_fault s q) (table_rule_fault limits s table pt act lists) (bound s table pt act lists) room fine there is where
    by : (a b : Option Fault) (o : Option RuleSpec) → a ≡ None → b ≡ None → IsSome o → IfSome o (λ (spec : RuleSpec). rule ≡ rule_of s.ids spec)
        → of (held.RuleCreated rule table) ≡ unless (first_of a b) (if_bound o (λ spec. of (creation_held s table spec)) other)
    by None None (Some spec) a b there is = ap (λ (r : RuleView). of (held.RuleCreated r table)) is ∙ sym (taken (of (creation_held s table spec)))
    by None None None a b there is = cc
    by None (Some x) o a b there is = cc
    by (Some x) y o a b there is = cc

  pub held-state : full_fault s q ≡ None → table_rule_fault limits s table pt act lists ≡ None → IsSome (bound s table pt act lists)
      → IfSome (bound s table pt act lists) (λ (spec : RuleSpec). rule ≡ rule_of s.ids spec)
      → enqueued q postpone (held.RuleCreated rule table) s ≡ next_state limits s (ops.QueueCreate q postpone table pt act lists)
  held-state = made-held (λ (op : Held). enqueued q postpone op s) (λ (o : Option Fault) (t : State). unless_refused o t s) s (λ t. refl)

  pub held-changes : full_fault s q ≡ None → table_rule_fault limits s table pt act lists ≡ None → IsSome (bound s table pt act lists)
      → IfSome (bound s table pt act lists) (λ (spec : RuleSpec). rule ≡ rule_of s.ids spec)
      → changes_enqueued q postpone (held.RuleCreated rule table) s ≡ changes_by limits s (ops.QueueCreate q postpone table pt act lists)
  held-changes = made-held (λ (op : Held). changes_enqueued q postpone op s) unless_refused_changes [] (λ list. refl)
