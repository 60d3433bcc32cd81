-- What ids do to lists of rules in effect.
use Rattle.std.proofs.Common.{◌≡◌, ℕ, zero, suc, ◌<◌, Bool, true, false, cond, not, nat_eq, eqb, drop, set, map, List, [], ◌∷◌, ◌++◌, None, Some, refl, sym, ap, ◌∙◌, subst, arith}
use Rattle.std.specs.List.{All, slice_get, remove}
use Rattle.std.specs.Option.{option_map}
use Rattle.std.proofs.lemmas.Bool.{eqb-true, eq-eqb, ne_eqb, cond-true, cond-false}
use Rattle.std.proofs.lemmas.Option.{same_Some}
use Rattle.std.proofs.lemmas.List.Elements.{All-cons, All-nil, All-head, All-tail, All-weaker}
use Rattle.flow_rules.specs.RuleView.{RuleView}
use Rattle.flow_rules.specs.Changes.{has_id}
use Rattle.flow_rules.specs.Naming.{rule_at, HaveOwnIds}
use Rattle.rules_in_effect.specs.declared.in_effect.InEffect.{InEffect}
use Rattle.rules_in_effect.specs.Entries.{rule_in, entry_at, without, with_hit, raised, AreDistinct}

-- an id that no rule has changes nothing
pub without-none : (id : ℕ) (list : List InEffect) → entry_at id list ≡ None → without id list ≡ list
without-none id [] none = refl
without-none id (x ∷ list) none = by (has_id id x.rule) none (without-none id list) where
  by : (b : Bool) → cond b (Some x) (entry_at id list) ≡ None → (entry_at id list ≡ None → without id list ≡ list)
      → cond (not b) (x ∷ without id list) (without id list) ≡ x ∷ list
  by true none on = cc
  by false none on = ap (λ xs. x ∷ xs) (on none)

pub raised-none : (id bytes : ℕ) (list : List InEffect) → entry_at id list ≡ None → raised id bytes list ≡ list
raised-none id bytes [] none = refl
raised-none id bytes (x ∷ list) none = by (has_id id x.rule) none (raised-none id bytes list) where
  by : (b : Bool) → cond b (Some x) (entry_at id list) ≡ None → (entry_at id list ≡ None → raised id bytes list ≡ list)
      → ◌∷◌ (cond b (with_hit bytes x) x) (raised id bytes list) ≡ x ∷ list
  by true none on = cc
  by false none on = ap (λ xs. x ∷ xs) (on none)

-- what the place of an id tells where no two rules have one id
pub record Placed (id : ℕ) (list : List InEffect) (place : ℕ) (entry : InEffect) : Type 0 where
  pub at : entry_at id list ≡ Some entry
  pub rest : remove list place ≡ without id list
  pub hit : (bytes : ℕ) → set list place (with_hit bytes entry) ≡ raised id bytes list

placed-here : (id : ℕ) (list : List InEffect) (entry : InEffect) → entry_at entry.rule.id list ≡ None → entry.rule.id ≡ id → Placed id (entry ∷ list) 0 entry
placed-here id list entry none is =
    let same : has_id id entry.rule ≡ true = eq-eqb entry.rule.id id is in
    let gone : entry_at id list ≡ None = subst (λ i. entry_at i list ≡ None) is none in
    record {
      at = ap (λ b. cond b (Some entry) (entry_at id list)) same;
      rest = sym (without-none id list gone) ∙ ap (λ b. cond (not b) (entry ∷ without id list) (without id list)) (sym same);
      hit = λ bytes. ap (λ xs. with_hit bytes entry ∷ xs) (sym (raised-none id bytes list gone))
          ∙ ap (λ b. ◌∷◌ (cond b (with_hit bytes entry) entry) (raised id bytes list)) (sym same);
    }

placed-behind : (id : ℕ) (x : InEffect) (list : List InEffect) (place : ℕ) (entry : InEffect) → entry_at x.rule.id list ≡ None → Placed id list place entry → Placed id (x ∷ list) (suc place) entry
placed-behind id x list place entry none behind =
    let other : has_id id x.rule ≡ false = ne_eqb x.rule.id id (λ same. let found : entry_at id list ≡ None = subst (λ i. entry_at i list ≡ None) same none in cc) in
    record {
      at = ap (λ b. cond b (Some x) (entry_at id list)) other ∙ behind.at;
      rest = ap (λ xs. x ∷ xs) behind.rest ∙ ap (λ b. cond (not b) (x ∷ without id list) (without id list)) (sym other);
      hit = λ bytes. ap (λ xs. x ∷ xs) (behind.hit bytes) ∙ ap (λ b. ◌∷◌ (cond b (with_hit bytes x) x) (raised id bytes list)) (sym other);
    }

pub placed : (id : ℕ) (list : List InEffect) (place : ℕ) (entry : InEffect) → AreDistinct list → slice_get list place ≡ Some entry → entry.rule.id ≡ id → Placed id list place entry
placed id [] place entry own at is = cc
placed id (x ∷ list) zero entry own at is =
    let here : x ≡ entry = same_Some x entry at in
    subst (λ e. Placed id (e ∷ list) 0 entry) (sym here) (placed-here id list entry (subst (λ e. entry_at e.rule.id list ≡ None) here own.0) is)
placed id (x ∷ list) (suc place) entry own at is = placed-behind id x list place entry own.0 (placed id list place entry own.1 at is)

-- the entry of an id behind a rule more, a rule less, and a frame more
entry_at-push : (id : ℕ) (list : List InEffect) (entry : InEffect) → entry_at id list ≡ None → (entry.rule.id ≡ id → ⊥) → entry_at id (list ++ entry ∷ []) ≡ None
entry_at-push id [] entry none other = ap (λ b. cond b (Some entry) None) (ne_eqb entry.rule.id id other)
entry_at-push id (x ∷ list) entry none other = by (has_id id x.rule) none (entry_at-push id list entry) where
  by : (b : Bool) → cond b (Some x) (entry_at id list) ≡ None
      → (entry_at id list ≡ None → (entry.rule.id ≡ id → ⊥) → entry_at id (list ++ entry ∷ []) ≡ None)
      → cond b (Some x) (entry_at id (list ++ entry ∷ [])) ≡ None
  by true none on = cc
  by false none on = on none other

pub entry_at-without_same : (id : ℕ) (list : List InEffect) → entry_at id (without id list) ≡ None
entry_at-without_same id [] = refl
entry_at-without_same id (x ∷ list) = by (has_id id x.rule) refl (entry_at-without_same id list) where
  by : (b : Bool) → has_id id x.rule ≡ b → entry_at id (without id list) ≡ None
      → entry_at id (cond (not b) (x ∷ without id list) (without id list)) ≡ None
  by true is on = on
  by false is on = ap (λ b. cond b (Some x) (entry_at id (without id list))) is ∙ on

pub entry_at-without_other : (id other : ℕ) (list : List InEffect) → (other ≡ id → ⊥) → entry_at other (without id list) ≡ entry_at other list
entry_at-without_other id other [] ne = refl
entry_at-without_other id other (x ∷ list) ne = by (has_id id x.rule) refl (entry_at-without_other id other list ne) where
  by : (b : Bool) → has_id id x.rule ≡ b → entry_at other (without id list) ≡ entry_at other list
      → entry_at other (cond (not b) (x ∷ without id list) (without id list)) ≡ cond (has_id other x.rule) (Some x) (entry_at other list)
  by true is on = on ∙ ap (λ b. cond b (Some x) (entry_at other list)) (sym (ne_eqb x.rule.id other (λ e. ne (sym e ∙ eqb-true x.rule.id id is))))
  by false is on = ap (λ found. cond (has_id other x.rule) (Some x) found) on

pub entry_at-raised_same : (id bytes : ℕ) (list : List InEffect) → entry_at id (raised id bytes list) ≡ option_map (with_hit bytes) (entry_at id list)
entry_at-raised_same id bytes [] = refl
entry_at-raised_same id bytes (x ∷ list) = by (has_id id x.rule) refl (entry_at-raised_same id bytes list) where
  by : (b : Bool) → has_id id x.rule ≡ b → entry_at id (raised id bytes list) ≡ option_map (with_hit bytes) (entry_at id list)
      → entry_at id (cond b (with_hit bytes x) x ∷ raised id bytes list) ≡ option_map (with_hit bytes) (cond b (Some x) (entry_at id list))
  by true is on = ap (λ b. cond b (Some (with_hit bytes x)) (entry_at id (raised id bytes list))) is
  by false is on = ap (λ b. cond b (Some x) (entry_at id (raised id bytes list))) is ∙ on

pub entry_at-raised_other : (id bytes other : ℕ) (list : List InEffect) → (other ≡ id → ⊥) → entry_at other (raised id bytes list) ≡ entry_at other list
entry_at-raised_other id bytes other [] ne = refl
entry_at-raised_other id bytes other (x ∷ list) ne = by (has_id id x.rule) refl (entry_at-raised_other id bytes other list ne) where
  by : (b : Bool) → has_id id x.rule ≡ b → entry_at other (raised id bytes list) ≡ entry_at other list
      → entry_at other (cond b (with_hit bytes x) x ∷ raised id bytes list) ≡ cond (has_id other x.rule) (Some x) (entry_at other list)
  by true is on =
      let apart : has_id other x.rule ≡ false = ne_eqb x.rule.id other (λ e. ne (sym e ∙ eqb-true x.rule.id id is)) in
      ap (λ b. cond b (Some (with_hit bytes x)) (entry_at other (raised id bytes list))) apart ∙ on
      ∙ ap (λ b. cond b (Some x) (entry_at other list)) (sym apart)
  by false is on = ap (λ found. cond (has_id other x.rule) (Some x) found) on

-- a count changes no rule
pub rules-raised : (id bytes : ℕ) (list : List InEffect) → map rule_in (raised id bytes list) ≡ map rule_in list
rules-raised id bytes [] = refl
rules-raised id bytes (x ∷ list) = by (has_id id x.rule) (rules-raised id bytes list) where
  by : (b : Bool) → map rule_in (raised id bytes list) ≡ map rule_in list
      → rule_in (cond b (with_hit bytes x) x) ∷ map rule_in (raised id bytes list) ≡ x.rule ∷ map rule_in list
  by true on = ap (λ rules. x.rule ∷ rules) on
  by false on = ap (λ rules. x.rule ∷ rules) on

-- the rule of an id
pub rule_at-entry : (id : ℕ) (list : List InEffect) → rule_at id (map rule_in list) ≡ option_map rule_in (entry_at id list)
rule_at-entry id [] = refl
rule_at-entry id (x ∷ list) = by (has_id id x.rule) (rule_at-entry id list) where
  by : (b : Bool) → rule_at id (map rule_in list) ≡ option_map rule_in (entry_at id list)
      → cond b (Some x.rule) (rule_at id (map rule_in list)) ≡ option_map rule_in (cond b (Some x) (entry_at id list))
  by true on = refl
  by false on = on

-- ids from a number on are free where all rules have lower ones
pub entry_at-above : (id : ℕ) (list : List InEffect) → All (λ (entry : InEffect). entry.rule.id < id) list → entry_at id list ≡ None
entry_at-above id [] below = refl
entry_at-above id (x ∷ list) below =
    let lower : x.rule.id < id = All-head (λ (entry : InEffect). entry.rule.id < id) x list below in
    ap (λ b. cond b (Some x) (entry_at id list)) (ne_eqb x.rule.id id (λ same. omega (arith, same, lower)))
    ∙ entry_at-above id list (All-tail (λ (entry : InEffect). entry.rule.id < id) x list below)

-- each change keeps ids apart
pub AreDistinct-push : (list : List InEffect) (entry : InEffect) → AreDistinct list → entry_at entry.rule.id list ≡ None → AreDistinct (list ++ entry ∷ [])
AreDistinct-push [] entry own none = (refl, tt)
AreDistinct-push (x ∷ list) entry own none = by (has_id entry.rule.id x.rule) refl none (AreDistinct-push list entry own.1) where
  by : (b : Bool) → has_id entry.rule.id x.rule ≡ b → cond b (Some x) (entry_at entry.rule.id list) ≡ None
      → (entry_at entry.rule.id list ≡ None → AreDistinct (list ++ entry ∷ [])) → AreDistinct (x ∷ (list ++ entry ∷ []))
  by true is none on = cc
  by false is none on = (entry_at-push x.rule.id list entry own.0 (λ e. let same : has_id entry.rule.id x.rule ≡ true = eq-eqb x.rule.id entry.rule.id (sym e) in cc), on none)

entry_at-still_none : (id other : ℕ) (list : List InEffect) → entry_at other list ≡ None → entry_at other (without id list) ≡ None
entry_at-still_none id other list none = by (eqb other id) refl where
  by : (b : Bool) → eqb other id ≡ b → entry_at other (without id list) ≡ None
  by true is = subst (λ i. entry_at i (without id list) ≡ None) (sym (eqb-true other id is)) (entry_at-without_same id list)
  by false is = entry_at-without_other id other list (λ e. let same : eqb other id ≡ true = eq-eqb other id e in cc) ∙ none

pub AreDistinct-without : (id : ℕ) (list : List InEffect) → AreDistinct list → AreDistinct (without id list)
AreDistinct-without id [] own = tt
AreDistinct-without id (x ∷ list) own = by (has_id id x.rule) (AreDistinct-without id list own.1) where
  by : (b : Bool) → AreDistinct (without id list) → AreDistinct (cond (not b) (x ∷ without id list) (without id list))
  by true on = on
  by false on = (entry_at-still_none id x.rule.id list own.0, on)

pub AreDistinct-rest : (list : List InEffect) → AreDistinct list → AreDistinct (drop 1 list)
AreDistinct-rest [] own = tt
AreDistinct-rest (x ∷ list) own = own.1

entry_at-raised_none : (id bytes other : ℕ) (list : List InEffect) → entry_at other list ≡ None → entry_at other (raised id bytes list) ≡ None
entry_at-raised_none id bytes other list none = by (eqb other id) refl where
  by : (b : Bool) → eqb other id ≡ b → entry_at other (raised id bytes list) ≡ None
  by true is = subst (λ i. entry_at i (raised id bytes list) ≡ None) (sym (eqb-true other id is))
      (entry_at-raised_same id bytes list ∙ ap (option_map (with_hit bytes)) (subst (λ i. entry_at i list ≡ None) (eqb-true other id is) none))
  by false is = entry_at-raised_other id bytes other list (λ e. let same : eqb other id ≡ true = eq-eqb other id e in cc) ∙ none

pub AreDistinct-raised : (id bytes : ℕ) (list : List InEffect) → AreDistinct list → AreDistinct (raised id bytes list)
AreDistinct-raised id bytes [] own = tt
AreDistinct-raised id bytes (x ∷ list) own = by (has_id id x.rule) (AreDistinct-raised id bytes list own.1) where
  by : (b : Bool) → AreDistinct (raised id bytes list) → AreDistinct (cond b (with_hit bytes x) x ∷ raised id bytes list)
  by true on = (entry_at-raised_none id bytes x.rule.id list own.0, on)
  by false on = (entry_at-raised_none id bytes x.rule.id list own.0, on)

-- each rule is the one that is found by its own id
pub HaveOwnIds-distinct : (list : List InEffect) → AreDistinct list → HaveOwnIds (map rule_in list)
HaveOwnIds-distinct [] own = All-nil (λ (rule : RuleView). rule_at rule.id [] ≡ Some rule)
HaveOwnIds-distinct (x ∷ list) own =
    let rules : List RuleView = map rule_in list in
    let none : rule_at x.rule.id rules ≡ None = rule_at-entry x.rule.id list ∙ ap (option_map rule_in) own.0 in
    All-cons (λ (rule : RuleView). rule_at rule.id (x.rule ∷ rules) ≡ Some rule) x.rule rules
    (cond-true (nat_eq x.rule.id x.rule.id) (Some x.rule) (rule_at x.rule.id rules) (eq-eqb x.rule.id x.rule.id refl))
    (All-weaker (λ (rule : RuleView). rule_at rule.id rules ≡ Some rule) (λ (rule : RuleView). rule_at rule.id (x.rule ∷ rules) ≡ Some rule)
    (λ rule found. cond-false (nat_eq x.rule.id rule.id) (Some x.rule) (rule_at rule.id rules)
    (ne_eqb x.rule.id rule.id (λ same. let gone : rule_at rule.id rules ≡ None = subst (λ i. rule_at i rules ≡ None) same none in cc)) ∙ found)
    rules (HaveOwnIds-distinct list own.1))

-- the first rule by its id
pub first_by_id : (list : List InEffect) (id : ℕ) → AreDistinct list → Some id ≡ option_map (λ entry. entry.rule.id) (slice_get list 0)
    → (entry_at id list ≡ slice_get list 0) × (without id list ≡ drop 1 list)
first_by_id [] id own is = absurd (cc)
first_by_id (x ∷ list) id own is =
    let same : has_id id x.rule ≡ true = eq-eqb x.rule.id id (sym (same_Some id x.rule.id is)) in
    let none : entry_at id list ≡ None = subst (λ i. entry_at i list ≡ None) (sym (same_Some id x.rule.id is)) own.0 in
    (ap (λ b. cond b (Some x) (entry_at id list)) same, ap (λ b. cond (not b) (x ∷ without id list) (without id list)) same ∙ without-none id list none)
