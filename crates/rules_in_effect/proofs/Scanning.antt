-- A scan from the left finds the best rule.
use Rattle.std.proofs.Common.{◌≡◌, ℕ, Bool, true, false, cond, nat_lt, List, [], ◌∷◌, map, filter, fold, Option, None, Some, refl, sym, ap, ◌∙◌, arith}
use Rattle.std.proofs.lemmas.Bool.{ltb-false, ltb-true, lt-ltb, le-ltb}
use Rattle.packet_headers.specs.declared.items.LayerAt.{LayerAt}
use Rattle.flow_rules.specs.RuleView.{RuleView}
use Rattle.flow_rules.specs.Best.{takes, better, first_lowest, best}
use Rattle.rules_in_effect.specs.declared.in_effect.InEffect.{InEffect}
use Rattle.rules_in_effect.specs.Entries.{rule_in}
use Rattle.rules_in_effect.specs.Scan.{is_lower, next_best}

-- the best of the rules so far, and of those that are left
abbrev best_with : Option RuleView → Option RuleView → Option RuleView
best_with None rest = rest
best_with (Some best) rest = Some (better best rest)

best_with-none : (b : Option RuleView) → b ≡ best_with b None
best_with-none None = refl
best_with-none (Some x) = refl

first_lowest-filter : (t : Bool) (rule : RuleView) (rules : List RuleView) → first_lowest (cond t (rule ∷ rules) rules) ≡ cond t (Some (better rule (first_lowest rules))) (first_lowest rules)
first_lowest-filter true rule rules = refl
first_lowest-filter false rule rules = refl

-- a rule that takes the frame stands between the best so far and the best of those behind it
between : (rule x : RuleView) (m : Option RuleView) → best_with (cond (nat_lt rule.priority x.priority) (Some rule) (Some x)) m ≡ Some (better x (Some (better rule m)))
between rule x None = by (nat_lt rule.priority x.priority) where
  by : (b : Bool) → best_with (cond b (Some rule) (Some x)) None ≡ Some (cond b rule x)
  by true = refl
  by false = refl
between rule x (Some z) = by (nat_lt rule.priority x.priority) (nat_lt z.priority rule.priority) refl refl where
  by : (lower later : Bool) → nat_lt rule.priority x.priority ≡ lower → nat_lt z.priority rule.priority ≡ later
      → best_with (cond lower (Some rule) (Some x)) (Some z) ≡ Some (better x (Some (cond later z rule)))
  by true true l t = ap (λ b. Some (cond b z rule)) t ∙ ap (λ b. Some (cond b z x)) (sym (lt-ltb z.priority x.priority (omega (arith, ltb-true rule.priority x.priority l, ltb-true z.priority rule.priority t))))
  by true false l t = ap (λ b. Some (cond b z rule)) t ∙ ap (λ b. Some (cond b rule x)) (sym l)
  by false true l t = refl
  by false false l t = ap (λ b. Some (cond b z x)) (le-ltb z.priority x.priority (omega (arith, ltb-false rule.priority x.priority l, ltb-false z.priority rule.priority t)))
      ∙ ap (λ b. Some (cond b rule x)) (sym l)

one_more : (t : Bool) (rule : RuleView) (b m : Option RuleView)
    → best_with (cond t (cond (is_lower rule b) (Some rule) b) b) m ≡ best_with b (cond t (Some (better rule m)) m)
one_more false rule b m = refl
one_more true rule None m = refl
one_more true rule (Some x) m = between rule x m

scan_from : (group : ℕ) (layers : List LayerAt) (b : Option RuleView) (rules : List InEffect)
    → fold (λ b r. next_best group layers b r.rule) b rules ≡ best_with b (best (map rule_in rules) group layers)
scan_from group layers b [] = best_with-none b
scan_from group layers b (r ∷ rules) =
    let rest = filter (takes group layers) (map rule_in rules) in
    scan_from group layers (next_best group layers b r.rule) rules
    ∙ one_more (takes group layers r.rule) r.rule b (first_lowest rest)
    ∙ ap (best_with b) (sym (first_lowest-filter (takes group layers r.rule) r.rule rest))

-- the scan of all rules
pub scan_is_best : (group : ℕ) (layers : List LayerAt) (rules : List InEffect)
    → fold (λ b r. next_best group layers b r.rule) None rules ≡ best (map rule_in rules) group layers
scan_is_best group layers rules = scan_from group layers None rules
