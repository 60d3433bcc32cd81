-- Why a bound rule isn't created: no slot is free, or no id.
use Rattle.std.proofs.Common.{◌≡◌, ◌<◌, ◌+◌, ◌^◌, ◌-◌, ℕ, Bool, true, false, cond, nat_le, length, Option, None, Some, IsSome, IfSome, refl, ap, ◌∙◌, subst, arith}
use Rattle.std.specs.Prelude.{Result, Ok, Err, IfOk}
use Rattle.std.proofs.lemmas.Bool.{eq-eqb, ne_eqb, leb-false}
use Rattle.flow_rules.specs.declared.fault.Fault.{Fault}
use Rattle.flow_rules.specs.declared.fault.Cause.TheVariants as causes
use Rattle.flow_rules.specs.Faults.{fault_if, first}
use Rattle.template_tables.specs.TableView.{TableView}
use Rattle.template_tables.specs.Slots.{slot_refusals}
use Rattle.port_state.specs.State.{State, first_of, ids_fault, plain}

-- no slot is left
pub table-full : (o : Option TableView) (left : ℕ) → IsSome o → IfSome o (λ (t : TableView). left + length t.slots ≡ t.rules_number) → left ≡ 0 → first (slot_refusals o) ≡ Some (plain causes.TableFull)
table-full None left there number none = cc
table-full (Some t) left there number none =
    ap (λ b. first (fault_if b causes.TableFull 0)) (eq-eqb (length t.slots) t.rules_number (omega (arith, number, none)))

-- or one is
pub slot-left : (o : Option TableView) (left : ℕ) → IsSome o → IfSome o (λ (t : TableView). left + length t.slots ≡ t.rules_number) → (left ≡ 0 → ⊥) → first (slot_refusals o) ≡ None
slot-left None left there number some = cc
slot-left (Some t) left there number some =
    ap (λ b. first (fault_if b causes.TableFull 0)) (ne_eqb (length t.slots) t.rules_number (λ same. some (omega (arith, number, same))))

-- without a fault there is neither of the two
pub no-first : (a b : Option Fault) → first_of a b ≡ None → a ≡ None
no-first None b none = refl
no-first (Some x) b none = cc

pub no-second : (a b : Option Fault) → first_of a b ≡ None → b ≡ None
no-second None b none = none
no-second (Some x) b none = cc

-- there is an id
pub id-left : (s : State) → ids_fault s ≡ None → s.ids < 2 ^ 32 - 1
id-left s none = by (nat_le (2 ^ 32 - 1) s.ids) refl none where
  by : (b : Bool) → nat_le (2 ^ 32 - 1) s.ids ≡ b → cond b (Some (plain causes.TooMany)) None ≡ None → s.ids < 2 ^ 32 - 1
  by true most none' = cc
  by false less none' = leb-false (2 ^ 32 - 1) s.ids less

-- what holds at Ok, of an answer that is Ok
pub at-ok : {T E : Type 0} (r : Result T E) (x : T) → r ≡ Ok x → (P : T → Type 0) → IfOk r P → P x
at-ok {T} {E} r x is P holds = subst (λ (o : Result T E). IfOk o P) is holds

-- and what holds anyway, holds at Ok
pub ok-any : {T E : Type 0} (r : Result T E) (P : Type 0) → P → IfOk r (λ x. P)
ok-any (Ok x) P p = p
ok-any (Err e) P p = tt

-- what an answer comes to at Ok, by another name
pub ok-same : {T E A : Type 0} (r : Result T E) (f : T → A) (a b : A) → a ≡ b → IfOk r (λ x. f x ≡ a) → IfOk r (λ x. f x ≡ b)
ok-same (Ok x) f a b same is = is ∙ same
ok-same (Err e) f a b same is = is

pub no-faults : (a b : Option Fault) → a ≡ None → b ≡ None → first_of a b ≡ None
no-faults a b room none = ap (λ o. first_of o b) room ∙ none
