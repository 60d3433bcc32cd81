-- An index with one rule less.
use Rattle.std.proofs.Common.{◌≡◌, ◌≢◌, ℕ, ◌+◌, ◌≤◌, zero, suc, Bool, true, false, not, length, List, [], ◌∷◌, Option, None, Some, refl, sym, ap, subst, ◌∙◌, arith, nat_eq, if◌then◌else◌, slice_set}
use Rattle.std.proofs.lemmas.Bool.{eqb-true, ne_eqb}
use Rattle.std.proofs.Common.{eq-eqb}
use Rattle.std.specs.List.{slice_get}
use Rattle.std.specs.Option.{option_map}
use Rattle.flow_rules.specs.RuleView.{RuleView}
use Rattle.flow_rules.specs.Changes.{without}
use Rattle.rule_index.specs.declared.table.Home.{Home}
use Rattle.rule_index.specs.declared.table.Table.{Table}
use Rattle.rule_index.specs.declared.chain.HomeChain.{HomeChain}
use Rattle.rule_index.specs.declared.chain.Lead.{Lead}
use Rattle.rule_index.specs.declared.chain.RulePlace.{RulePlace}
use Rattle.rule_index.specs.Places.{same_home, home_at, passes, IsChain, IsFirst, led_behind, moved}
use Rattle.rule_index.specs.Index.{Indexed, HasNo, IsPlaceOf, AreDistinct}
use Rattle.rule_index.specs.Rank.{present}
use Rattle.rule_index.proofs.Growth.{same_home_is, same_home_self}

-- a slot without its rule
get_cleared : (slots : List (Option RuleView)) (p q : ℕ) (r : RuleView) → slice_get (slice_set slots p None) q ≡ Some (Some r) → (slice_get slots q ≡ Some (Some r)) × (q ≢ p)
get_cleared [] p q r e = cc
get_cleared (x ∷ xs) zero zero r e = cc
get_cleared (x ∷ xs) zero (suc q) r e = (e, λ no. omega arith)
get_cleared (x ∷ xs) (suc p) zero r e = (e, λ no. omega arith)
get_cleared (x ∷ xs) (suc p) (suc q) r e = let h = get_cleared xs p q r e in (h.0, λ same. h.1 (omega arith))

pub length_cleared : (slots : List (Option RuleView)) (p : ℕ) → length (slice_set slots p None) ≡ length slots
length_cleared [] p = refl
length_cleared (x ∷ xs) zero = refl
length_cleared (x ∷ xs) (suc p) = ap suc (length_cleared xs p)

-- no two rules have one id
pub distinct : (slots : List (Option RuleView)) (tables : List Table) (places : List RulePlace) (chains : Home → Option HomeChain) (ids : ℕ → Option ℕ) → Indexed slots tables places chains ids → AreDistinct slots
distinct slots tables places chains ids ok p q r s at there same =
    let a : ids r.id ≡ Some p = ok.found p r at in
    let b : ids s.id ≡ Some q = ok.found q s there in
    let c : ids r.id ≡ ids s.id = ap ids same in
    let d : Some p ≡ Some q = sym a ∙ c ∙ b in cc

get_other : (slots : List (Option RuleView)) (p q : ℕ) (s : Option RuleView) → q ≢ p → slice_get slots q ≡ Some s → slice_get (slice_set slots p None) q ≡ Some s
get_other [] p q s other e = cc
get_other (x ∷ xs) zero zero s other e = absurd (other refl)
get_other (x ∷ xs) zero (suc q) s other e = e
get_other (x ∷ xs) (suc p) zero s other e = e
get_other (x ∷ xs) (suc p) (suc q) s other e = get_other xs p q s (λ same. other (ap suc same)) e

-- the first rule of a home is the first still, if it isn\'t this one
first_stays : (slots : List (Option RuleView)) (places : List RulePlace) (home : Home) (p : ℕ) (lead : Lead) → lead.place ≢ p
    → IsFirst None slots places home 0 (Some lead) → IsFirst None (slice_set slots p None) places home 0 (Some lead)
first_stays slots places home p lead other k = record {
  of_home = k.of_home;
  rule = k.rule;
  at = get_other slots p lead.place (Some k.rule) other k.at;
  id = k.id;
  does = refl;
  least = least;
} where
  least : (q : ℕ) (s : Option RuleView) → 0 ≤ q → home_at places q ≡ Some home → slice_get (slice_set slots p None) q ≡ Some s → passes None s ≡ true → lead.place ≤ q
  least q None f e at t = cc
  least q (Some r) f e at t = k.least q (Some r) f e (get_cleared slots p q r at).0 refl

none_stays : (slots : List (Option RuleView)) (places : List RulePlace) (home : Home) (p : ℕ)
    → IsFirst None slots places home 0 None → IsFirst None (slice_set slots p None) places home 0 None
none_stays slots places home p k = none where
  none : (q : ℕ) (s : Option RuleView) → 0 ≤ q → home_at places q ≡ Some home → slice_get (slice_set slots p None) q ≡ Some s → passes None s ≡ true → ⊥
  none q None f e at t = cc
  none q (Some r) f e at t = k q (Some r) f e (get_cleared slots p q r at).0 refl

chain_stays : (slots : List (Option RuleView)) (places : List RulePlace) (home h : Home) (p : ℕ) (chain : Option HomeChain) → home_at places p ≡ Some home → (home ≡ h → ⊥)
    → IsChain slots places h chain → IsChain (slice_set slots p None) places h chain
chain_stays slots places home h p None there other k = k
chain_stays slots places home h p (Some c) there other k = record { lead = lead c.lead k.lead; last = k.last; greatest = k.greatest } where
  lead : (o : Option Lead) → IsFirst None slots places h 0 o → IsFirst None (slice_set slots p None) places h 0 o
  lead None l = none_stays slots places h p l
  lead (Some x) l = first_stays slots places h p x (λ same. other (let e : Some home ≡ Some h = sym there ∙ ap (home_at places) (sym same) ∙ l.of_home in cc)) l

-- the first behind is the first of all, where the first one was this one
first_behind : (slots : List (Option RuleView)) (places : List RulePlace) (home : Home) (p : ℕ) (next : Option Lead)
    → ((q : ℕ) (r : RuleView) → home_at places q ≡ Some home → slice_get slots q ≡ Some (Some r) → p ≤ q)
    → IsFirst None (slice_set slots p None) places home p next → IsFirst None (slice_set slots p None) places home 0 next
first_behind slots places home p None from k = none where
  none : (q : ℕ) (s : Option RuleView) → 0 ≤ q → home_at places q ≡ Some home → slice_get (slice_set slots p None) q ≡ Some s → passes None s ≡ true → ⊥
  none q None f e at t = cc
  none q (Some r) f e at t = k q (Some r) (from q r e (get_cleared slots p q r at).0) e at refl
first_behind slots places home p (Some n) from k = record { of_home = k.of_home; rule = k.rule; at = k.at; id = k.id; does = refl; least = least } where
  least : (q : ℕ) (s : Option RuleView) → 0 ≤ q → home_at places q ≡ Some home → slice_get (slice_set slots p None) q ≡ Some s → passes None s ≡ true → n.place ≤ q
  least q None f e at t = cc
  least q (Some r) f e at t = k.least q (Some r) (from q r e (get_cleared slots p q r at).0) e at refl

chain_moved : (slots : List (Option RuleView)) (places : List RulePlace) (home : Home) (p : ℕ) (next : Option Lead) (chain : Option HomeChain)
    → IsFirst None (slice_set slots p None) places home p next → IsChain slots places home chain → IsChain (slice_set slots p None) places home (option_map (moved p next) chain)
chain_moved slots places home p next None f k = k
chain_moved slots places home p next (Some c) f k = record { lead = lead c.lead k.lead; last = k.last; greatest = k.greatest } where
  lead : (o : Option Lead) → IsFirst None slots places home 0 o → IsFirst None (slice_set slots p None) places home 0 (led_behind p next o)
  lead None l = none_stays slots places home p l
  lead (Some x) l = by (nat_eq x.place p) refl where
    by : (b : Bool) → nat_eq x.place p ≡ b → IsFirst None (slice_set slots p None) places home 0 (if b then next else Some x)
    by true e =
        let here : x.place ≡ p = eqb-true x.place p e in
        first_behind slots places home p next (λ q r at slot. let le : x.place ≤ q = l.least q (Some r) (omega arith) at slot refl in omega arith) f
    by false e = first_stays slots places home p x (λ same. let no : true ≡ false = sym (eq-eqb x.place p same) ∙ e in cc) l

pub Indexed-cleared : (slots : List (Option RuleView)) (tables : List Table) (places : List RulePlace) (chains chains' : Home → Option HomeChain) (ids ids' : ℕ → Option ℕ) (id p : ℕ) (home : Home) (next : Option Lead)
    → IsPlaceOf slots id p → home_at places p ≡ Some home → IsFirst None (slice_set slots p None) places home p next
    → ((h : Home) → chains' h ≡ (if same_home home h then option_map (moved p next) (chains home) else chains h))
    → ((q : ℕ) → nat_eq id q ≡ false → ids' q ≡ ids q)
    → Indexed slots tables places chains ids → Indexed (slice_set slots p None) tables places chains' ids'
Indexed-cleared slots tables places chains chains' ids ids' id p home next there of_home first chains_are ids_are ok = record {
  long = ok.long ∙ sym (length_cleared slots p);
  short = omega (arith, ok.short, length_cleared slots p);
  kept = λ q r x at e. ok.kept q r x (get_cleared slots p q r at).0 e;
  linked = ok.linked;
  chained = λ h. subst (IsChain (slice_set slots p None) places h) (sym (chains_are h)) (by h (same_home home h) refl);
  found = λ q r at. ids_are r.id (other q r at) ∙ ok.found q r (get_cleared slots p q r at).0;
} where
  by : (h : Home) (b : Bool) → same_home home h ≡ b → IsChain (slice_set slots p None) places h (if b then option_map (moved p next) (chains home) else chains h)
  by h true e = subst (λ (k : Home). IsChain (slice_set slots p None) places k (option_map (moved p next) (chains home))) (same_home_is home h e) (chain_moved slots places home p next (chains home) first (ok.chained home))
  by h false e = chain_stays slots places home h p (chains h) of_home
      (λ same. let t : true ≡ false = sym (same_home_self h) ∙ ap (λ (k : Home). same_home k h) (sym same) ∙ e in let no : ⊥ = cc in no) (ok.chained h)

  other : (q : ℕ) (r : RuleView) → slice_get (slice_set slots p None) q ≡ Some (Some r) → nat_eq id r.id ≡ false
  other q r at = ne_eqb id r.id (λ same. (get_cleared slots p q r at).1 (sym (distinct slots tables places chains ids ok p q there.rule r there.at (get_cleared slots p q r at).0 (there.is ∙ same))))

-- looking for an id
pub only_there : (slots : List (Option RuleView)) (tables : List Table) (places : List RulePlace) (chains : Home → Option HomeChain) (ids : ℕ → Option ℕ) (id : ℕ) (o : Option ℕ)
    → Indexed slots tables places chains ids → o ≡ ids id → (p : ℕ) (r : RuleView) → slice_get slots p ≡ Some (Some r) → r.id ≡ id → o ≡ Some p
only_there slots tables places chains ids id o ok e p r at same = e ∙ ap ids (sym same) ∙ ok.found p r at

-- one rule less
pub one_less : (slots : List (Option RuleView)) (p : ℕ) (r : RuleView) → slice_get slots p ≡ Some (Some r) → length (present (slice_set slots p None)) + 1 ≡ length (present slots)
one_less [] p r e = cc
one_less (None ∷ xs) zero r e = cc
one_less (Some s ∷ xs) zero r e = omega arith
one_less (None ∷ xs) (suc p) r e = one_less xs p r e
one_less (Some s ∷ xs) (suc p) r e = let h = one_less xs p r e in omega (arith, h)

-- the rules without one
none_without : (slots : List (Option RuleView)) (id : ℕ) → HasNo slots id → without id (present slots) ≡ present slots
none_without [] id none = refl
none_without (None ∷ xs) id none = none_without xs id (λ p r. none (suc p) r)
none_without (Some s ∷ xs) id none =
    ap (λ (b : Bool). if not b then s ∷ without id (present xs) else without id (present xs)) (ne_eqb s.id id (λ same. none 0 s refl same))
    ∙ ap (λ (l : List RuleView). s ∷ l) (none_without xs id (λ p r. none (suc p) r))

pub without_none : (slots : List (Option RuleView)) (id : ℕ) → HasNo slots id → present slots ≡ without id (present slots)
without_none slots id none = sym (none_without slots id none)

pub without_one : (slots : List (Option RuleView)) (id p : ℕ) → AreDistinct slots → IsPlaceOf slots id p → present (slice_set slots p None) ≡ without id (present slots)
without_one [] id p apart there = let e = there.at in cc
without_one (x ∷ xs) id zero apart there =
    let is : x ≡ Some there.rule = (let e : Some x ≡ Some (Some there.rule) = there.at in cc) in
    subst (λ (y : Option RuleView). present xs ≡ without id (present (y ∷ xs))) (sym is)
    (without_none xs id (λ p r at same. let e : 0 ≡ suc p = apart 0 (suc p) there.rule r there.at at (there.is ∙ sym same) in omega arith)
    ∙ ap (λ (b : Bool). if not b then there.rule ∷ without id (present xs) else without id (present xs)) (sym (eq-eqb there.rule.id id there.is)))
without_one (None ∷ xs) id (suc p) apart there =
    without_one xs id p (λ a b r s at e same. let h : suc a ≡ suc b = apart (suc a) (suc b) r s at e same in omega arith) (record { rule = there.rule; at = there.at; is = there.is })
without_one (Some s ∷ xs) id (suc p) apart there =
    ap (λ (l : List RuleView). s ∷ l) (without_one xs id p (λ a b r t at e same. let h : suc a ≡ suc b = apart (suc a) (suc b) r t at e same in omega arith) (record { rule = there.rule; at = there.at; is = there.is }))
    ∙ ap (λ (b : Bool). if not b then s ∷ without id (present xs) else without id (present xs))
    (sym (ne_eqb s.id id (λ same. let e : 0 ≡ suc p = apart 0 (suc p) s there.rule refl there.at (same ∙ sym there.is) in omega arith)))
