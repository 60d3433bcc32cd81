-- Shared values under changes: which are found, and that they stay such as rules can share.
use Rattle.std.proofs.Common.{◌≡◌, ℕ, Bool, true, false, cond, nat_eq, is_some, List, [], ◌∷◌, ◌++◌, Option, Some, refl, sym, ap, ◌∙◌, subst, true≢false}
use Rattle.std.specs.Map.{set_value}
use Rattle.std.proofs.lemmas.Bool.{eqb-true, ne_eqb}
use Rattle.std.proofs.lemmas.List.Elements.{All-nil, All-cons, All-head, All-tail, All-append}
use Rattle.flow_actions.specs.declared.action.Action.{Action}
use Rattle.flow_rules.specs.Shared.{Shared, shared_at, with_shared, without_shared, IsSharedOn, AreSharedOn}

-- a value is put in, or taken out
All-set_value : (rxq id : ℕ) (value : Action) (shared : Shared) → IsSharedOn rxq value → AreSharedOn rxq shared → AreSharedOn rxq (set_value (nat_eq id) shared value)
All-set_value rxq id value [] on all = all
All-set_value rxq id value (entry ∷ shared) on all =
    by (nat_eq id entry.0) (All-set_value rxq id value shared on (All-tail (λ (e : ℕ × Action). IsSharedOn rxq e.1) entry shared all)) where
      by : (b : Bool) → AreSharedOn rxq (set_value (nat_eq id) shared value)
          → AreSharedOn rxq (cond b ((entry.0, value) ∷ shared) (entry ∷ set_value (nat_eq id) shared value))
      by true behind = All-cons (λ (e : ℕ × Action). IsSharedOn rxq e.1) (entry.0, value) shared on (All-tail (λ (e : ℕ × Action). IsSharedOn rxq e.1) entry shared all)
      by false behind = All-cons (λ (e : ℕ × Action). IsSharedOn rxq e.1) entry (set_value (nat_eq id) shared value)
          (All-head (λ (e : ℕ × Action). IsSharedOn rxq e.1) entry shared all) behind

pub AreSharedOn-without : (rxq id : ℕ) (shared : Shared) → AreSharedOn rxq shared → AreSharedOn rxq (without_shared id shared)
AreSharedOn-without rxq id [] all = all
AreSharedOn-without rxq id (entry ∷ shared) all =
    by (nat_eq id entry.0) (AreSharedOn-without rxq id shared (All-tail (λ (e : ℕ × Action). IsSharedOn rxq e.1) entry shared all)) where
      by : (b : Bool) → AreSharedOn rxq (without_shared id shared) → AreSharedOn rxq (cond b shared (entry ∷ without_shared id shared))
      by true behind = All-tail (λ (e : ℕ × Action). IsSharedOn rxq e.1) entry shared all
      by false behind = All-cons (λ (e : ℕ × Action). IsSharedOn rxq e.1) entry (without_shared id shared) (All-head (λ (e : ℕ × Action). IsSharedOn rxq e.1) entry shared all) behind

pub AreSharedOn-with : (rxq id : ℕ) (value : Action) (shared : Shared) → IsSharedOn rxq value → AreSharedOn rxq shared → AreSharedOn rxq (with_shared id value shared)
AreSharedOn-with rxq id value shared on all = by (is_some (shared_at id shared)) where
  by : (b : Bool) → AreSharedOn rxq (cond b (set_value (nat_eq id) shared value) (shared ++ (id, value) ∷ []))
  by true = All-set_value rxq id value shared on all
  by false = All-append (λ (entry : ℕ × Action). IsSharedOn rxq entry.1) shared ((id, value) ∷ []) all
      (All-cons (λ (entry : ℕ × Action). IsSharedOn rxq entry.1) (id, value) [] on (All-nil (λ (entry : ℕ × Action). IsSharedOn rxq entry.1)))

-- a value is put in by one walk
abbrev put_in : ℕ → Action → Shared → Shared
put_in id value [] = (id, value) ∷ []
put_in id value (entry ∷ shared) = cond (nat_eq id entry.0) ((entry.0, value) ∷ shared) (entry ∷ put_in id value shared)

put_in-is : (id : ℕ) (value : Action) (shared : Shared) → put_in id value shared ≡ with_shared id value shared
put_in-is id value [] = refl
put_in-is id value (entry ∷ shared) = by (nat_eq id entry.0) (put_in-is id value shared) where
  behind : (b : Bool) (set new : Shared) → entry ∷ cond b set new ≡ cond b (entry ∷ set) (entry ∷ new)
  behind true set new = refl
  behind false set new = refl

  by : (b : Bool) → put_in id value shared ≡ with_shared id value shared
      → cond b ((entry.0, value) ∷ shared) (entry ∷ put_in id value shared)
      ≡ cond (is_some (cond b (Some entry.1) (shared_at id shared)))
      (cond b ((entry.0, value) ∷ shared) (entry ∷ set_value (nat_eq id) shared value))
      (entry ∷ (shared ++ (id, value) ∷ []))
  by true e = refl
  by false e = ap (λ rest. entry ∷ rest) e ∙ behind (is_some (shared_at id shared)) (set_value (nat_eq id) shared value) (shared ++ (id, value) ∷ [])

found-inserted : (id q : ℕ) (value : Action) (shared : Shared) → shared_at q (put_in id value shared) ≡ cond (nat_eq q id) (Some value) (shared_at q shared)
found-inserted id q value [] = refl
found-inserted id q value (entry ∷ shared) = by (nat_eq id entry.0) refl (found-inserted id q value shared) where
  here : (b : Bool) (old rest : Option Action) → cond b (Some value) rest ≡ cond b (Some value) (cond b old rest)
  here true old rest = refl
  here false old rest = refl

  apart : (a b : Bool) → (a ≡ true → b ≡ false) → (old rest : Option Action) → cond a old (cond b (Some value) rest) ≡ cond b (Some value) (cond a old rest)
  apart true b other old rest = ap (λ c. cond c (Some value) old) (sym (other refl))
  apart false b other old rest = refl

  other-id : nat_eq id entry.0 ≡ false → nat_eq q entry.0 ≡ true → nat_eq q id ≡ false
  other-id e at = ne_eqb q id (λ same. absurd (true≢false (sym (subst (λ n. nat_eq n entry.0 ≡ true) same at) ∙ e)))

  by : (b : Bool) → nat_eq id entry.0 ≡ b → shared_at q (put_in id value shared) ≡ cond (nat_eq q id) (Some value) (shared_at q shared)
      → shared_at q (cond b ((entry.0, value) ∷ shared) (entry ∷ put_in id value shared)) ≡ cond (nat_eq q id) (Some value) (cond (nat_eq q entry.0) (Some entry.1) (shared_at q shared))
  by true e behind =
      subst (λ n. cond (nat_eq q n) (Some value) (shared_at q shared) ≡ cond (nat_eq q id) (Some value) (cond (nat_eq q n) (Some entry.1) (shared_at q shared)))
      (eqb-true id entry.0 e) (here (nat_eq q id) (Some entry.1) (shared_at q shared))
  by false e behind =
      ap (cond (nat_eq q entry.0) (Some entry.1)) behind ∙ apart (nat_eq q entry.0) (nat_eq q id) (other-id e) (Some entry.1) (shared_at q shared)

-- the value at an id behind one that is put in
pub found-with : (id q : ℕ) (value : Action) (shared : Shared) → shared_at q (with_shared id value shared) ≡ cond (nat_eq q id) (Some value) (shared_at q shared)
found-with id q value shared = ap (shared_at q) (sym (put_in-is id value shared)) ∙ found-inserted id q value shared

-- and behind another that is taken out
pub found-without : (id q : ℕ) (shared : Shared) → nat_eq id q ≡ false → shared_at q (without_shared id shared) ≡ shared_at q shared
found-without id q [] other = refl
found-without id q (entry ∷ shared) other = by (nat_eq id entry.0) refl (found-without id q shared other) where
  by : (b : Bool) → nat_eq id entry.0 ≡ b → shared_at q (without_shared id shared) ≡ shared_at q shared
      → shared_at q (cond b shared (entry ∷ without_shared id shared)) ≡ cond (nat_eq q entry.0) (Some entry.1) (shared_at q shared)
  by true e behind = ap (λ c. cond c (Some entry.1) (shared_at q shared))
      (sym (ne_eqb q entry.0 (λ same. absurd (true≢false (sym (subst (λ n. nat_eq id n ≡ true) (sym same) e) ∙ other)))))
  by false e behind = ap (cond (nat_eq q entry.0) (Some entry.1)) behind
