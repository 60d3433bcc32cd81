-- What contracts see of the slots.
use Rattle.std.proofs.Common.{◌≡◌, ℕ, zero, suc, Bool, true, false, nat_eq, if◌then◌else◌, List, [], ◌∷◌, ◌++◌, Option, None, Some, refl, sym, ap, ◌∙◌, arith, eq-eqb}
use Rattle.std.proofs.lemmas.Bool.{ne_eqb}
use Rattle.std.specs.List.{slice_get}
use Rattle.flow_rules.specs.RuleView.{RuleView}
use Rattle.rule_index.specs.Index.{HasNo, AreDistinct}
use Rattle.rule_index.specs.IndexView.{IndexView, named}
use Rattle.rule_index.specs.Rank.{present}

-- no rule has an id that names none
pub none_of : (slots : List (Option RuleView)) (id : ℕ) → named id (present slots) ≡ None → HasNo slots id
none_of [] id e p r at same = cc
none_of (None ∷ xs) id e zero r at same = cc
none_of (None ∷ xs) id e (suc p) r at same = none_of xs id e p r at same
none_of (Some s ∷ xs) id e p r at same = by (none_of xs id) (nat_eq s.id id) refl p e at where
  by : (named id (present xs) ≡ None → HasNo xs id) → (b : Bool) → nat_eq s.id id ≡ b → (q : ℕ) → (if b then Some s else named id (present xs)) ≡ None → slice_get (Some s ∷ xs) q ≡ Some (Some r) → ⊥
  by h true t q none there = cc
  by h false t zero none there =
      let one : s ≡ r = (let k : Some (Some s) ≡ Some (Some r) = there in cc) in
      let yes : nat_eq s.id id ≡ true = eq-eqb s.id id (ap (λ (x : RuleView). x.id) one ∙ same) in
      let bad : false ≡ true = sym t ∙ yes in cc
  by h false t (suc q) none there = h none q r there same

pub present_push : (slots : List (Option RuleView)) (r : RuleView) → present (slots ++ Some r ∷ []) ≡ present slots ++ r ∷ []
present_push [] r = refl
present_push (None ∷ xs) r = present_push xs r
present_push (Some s ∷ xs) r = ap (λ (l : List RuleView). s ∷ l) (present_push xs r)

pub named_none : (slots : List (Option RuleView)) (id : ℕ) → HasNo slots id → None ≡ named id (present slots)
named_none [] id none = refl
named_none (None ∷ xs) id none = named_none xs id (λ p r. none (suc p) r)
named_none (Some s ∷ xs) id none =
    named_none xs id (λ p r. none (suc p) r)
    ∙ ap (λ (b : Bool). if b then Some s else named id (present xs)) (sym (ne_eqb s.id id (λ same. none 0 s refl same)))

pub named_one : (slots : List (Option RuleView)) (id p : ℕ) (r : RuleView) → AreDistinct slots → slice_get slots p ≡ Some (Some r) → r.id ≡ id → Some r ≡ named id (present slots)
named_one [] id p r apart at same = cc
named_one (None ∷ xs) id zero r apart at same = cc
named_one (None ∷ xs) id (suc p) r apart at same =
    named_one xs id p r (λ a b s t e f i. let h : suc a ≡ suc b = apart (suc a) (suc b) s t e f i in omega arith) at same
named_one (Some s ∷ xs) id zero r apart at same =
    let one : s ≡ r = (let k : Some (Some s) ≡ Some (Some r) = at in cc) in
    ap (λ (x : RuleView). Some x) (sym one) ∙ ap (λ (b : Bool). if b then Some s else named id (present xs)) (sym (eq-eqb s.id id (ap (λ (x : RuleView). x.id) one ∙ same)))
named_one (Some s ∷ xs) id (suc p) r apart at same =
    named_one xs id p r (λ a b t u e f i. let h : suc a ≡ suc b = apart (suc a) (suc b) t u e f i in omega arith) at same
    ∙ ap (λ (b : Bool). if b then Some s else named id (present xs)) (sym (ne_eqb s.id id (λ is. let h : 0 ≡ suc p = apart 0 (suc p) s r refl at (is ∙ sym same) in omega arith)))

pub view_same : (a b : List RuleView) (m n : ℕ) → a ≡ b → m ≡ n → ◌≡◌ {A = IndexView} (record { rules = a; inserts = m }) (record { rules = b; inserts = n })
view_same a b m n e f = ap (λ (x : List RuleView). record { rules = x; inserts = m }) e ∙ ap (λ (x : ℕ). record { rules = b; inserts = x }) f
