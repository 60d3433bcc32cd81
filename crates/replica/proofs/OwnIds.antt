-- No two rules have one id, whatever rules of new ids come and whatever rules go.
use Rattle.std.proofs.Common.{◌≡◌, ℕ, Bool, true, false, cond, not, nat_eq, List, [], ◌∷◌, ◌++◌, slice_index_or, None, Some, refl, sym, ap, ◌∙◌, subst, true≢false}
use Rattle.std.proofs.lemmas.Bool.{eqb-true, eq-eqb}
use Rattle.std.proofs.lemmas.List.Elements.{All-push, All-weaker, All-filter, filter_passes}
use Rattle.flow_rules.specs.RuleView.{RuleView}
use Rattle.flow_rules.specs.Changes.{has_id, without}
use Rattle.flow_rules.specs.Naming.{rule_at, HaveOwnIds}

-- the rule that an id finds stays the one
found-pushed : (id : ℕ) (last found : RuleView) (rules : List RuleView) → rule_at id rules ≡ Some found → rule_at id (rules ++ last ∷ []) ≡ Some found
found-pushed id last found [] e = cc
found-pushed id last found (rule ∷ rules) e = by (nat_eq rule.id id) (found-pushed id last found rules) e where
  by : (b : Bool) → (rule_at id rules ≡ Some found → rule_at id (rules ++ last ∷ []) ≡ Some found)
      → cond b (Some rule) (rule_at id rules) ≡ Some found → cond b (Some rule) (rule_at id (rules ++ last ∷ [])) ≡ Some found
  by true behind e = e
  by false behind e = behind e

last-pushed : (last : RuleView) (rules : List RuleView) → rule_at last.id rules ≡ None → rule_at last.id (rules ++ last ∷ []) ≡ Some last
last-pushed last [] e = ap (λ b. cond b (Some last) None) (eq-eqb last.id last.id refl)
last-pushed last (rule ∷ rules) e = by (nat_eq rule.id last.id) (last-pushed last rules) e where
  by : (b : Bool) → (rule_at last.id rules ≡ None → rule_at last.id (rules ++ last ∷ []) ≡ Some last)
      → cond b (Some rule) (rule_at last.id rules) ≡ None → cond b (Some rule) (rule_at last.id (rules ++ last ∷ [])) ≡ Some last
  by true behind e = cc
  by false behind e = behind e

pub own-pushed : (last : RuleView) (rules : List RuleView) → rule_at last.id rules ≡ None → HaveOwnIds rules → HaveOwnIds (rules ++ last ∷ [])
own-pushed last rules new own =
    let longer = rules ++ last ∷ [] in
    All-push (λ (r : RuleView). rule_at r.id longer ≡ Some r) rules last
    (All-weaker (λ (r : RuleView). rule_at r.id rules ≡ Some r) (λ (r : RuleView). rule_at r.id longer ≡ Some r) (λ r found. found-pushed r.id last r rules found) rules own)
    (last-pushed last rules new)

-- an id finds the same rule where those of another id are gone
others-found : (gone id : ℕ) → nat_eq id gone ≡ false → (rules : List RuleView) → rule_at id (without gone rules) ≡ rule_at id rules
others-found gone id other [] = refl
others-found gone id other (rule ∷ rules) = by (nat_eq rule.id gone) refl (others-found gone id other rules) where
  absent : nat_eq rule.id gone ≡ true → nat_eq rule.id id ≡ false
  absent e = by-id (nat_eq rule.id id) refl where
    by-id : (b : Bool) → nat_eq rule.id id ≡ b → b ≡ false
    by-id false f = refl
    by-id true f = absurd (true≢false (sym (subst (λ n. nat_eq n gone ≡ true) (eqb-true rule.id id f) e) ∙ other))

  by : (b : Bool) → nat_eq rule.id gone ≡ b → rule_at id (without gone rules) ≡ rule_at id rules
      → rule_at id (cond (not b) (rule ∷ without gone rules) (without gone rules)) ≡ cond (nat_eq rule.id id) (Some rule) (rule_at id rules)
  by true e behind = behind ∙ ap (λ b. cond b (Some rule) (rule_at id rules)) (sym (absent e))
  by false e behind = ap (cond (nat_eq rule.id id) (Some rule)) behind

other-id : (b : Bool) → not b ≡ true → b ≡ false
other-id true e = cc
other-id false e = refl

pub own-without : (gone : ℕ) (rules : List RuleView) → HaveOwnIds rules → HaveOwnIds (without gone rules)
own-without gone rules own = λ k d within.
    let rule = slice_index_or (without gone rules) k d in
    others-found gone rule.id (other-id (has_id gone rule) (filter_passes (λ (r : RuleView). not (has_id gone r)) rules k d within)) rules
    ∙ All-filter (λ (r : RuleView). not (has_id gone r)) (λ (r : RuleView). rule_at r.id rules ≡ Some r) rules own k d within
