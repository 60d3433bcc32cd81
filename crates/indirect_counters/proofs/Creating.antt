-- What follows where nothing is refused.
use Rattle.std.proofs.Common.{◌≡◌, ℕ, ◌<◌, Bool, true, false, ◌&&◌, not, nat_eq, nat_le, is_some, length, List, [], ◌∷◌, ◌++◌, Option, None, Some, IsSome, refl, ap, sym, ◌∙◌}
use Rattle.std.specs.Option.{is_none}
use Rattle.std.proofs.lemmas.Bool.{leb-false}
use Rattle.flow_actions.specs.declared.action.Action.{Action}
use Rattle.flow_actions.specs.declared.action.ActionKind.{ActionKind}
use Rattle.flow_actions.specs.declared.action.ActionKind.TheVariants as kinds
use Rattle.flow_actions.specs.Kinds.{kind_of, action_number, is_shareable}
use Rattle.flow_rules.specs.declared.spec.Attr.{Attr}
use Rattle.flow_rules.specs.declared.fault.Fault.{Fault}
use Rattle.flow_rules.specs.declared.fault.Cause.{Cause}
use Rattle.flow_rules.specs.declared.fault.Cause.TheVariants as causes
use Rattle.flow_rules.specs.Faults.{fault_if, first, direction_faults, is_bad, is_count}
use Rattle.flow_rules.proofs.Validity.{on_port}
use Rattle.object_ids.specs.Ids.{is_taken, id_for, least_unused}
use Rattle.flow_rules.specs.Shared.{IsSharedOn}
use Rattle.indirect_counters.specs.declared.shared_action.SharedAction.{SharedAction}
use Rattle.indirect_counters.specs.Entries.{Entries, entry_at, in_effect_at}
use Rattle.indirect_counters.specs.Refusals.{create_fault, is_same_kind, is_of_other_kind, update_fault}
use Rattle.indirect_counters.specs.Sound.{CanAdd}

none-left : (xs ys : List Fault) → first (xs ++ ys) ≡ None → first xs ≡ None
none-left [] ys none = refl
none-left (x ∷ xs) ys none = none

none-right : (xs ys : List Fault) → first (xs ++ ys) ≡ None → first ys ≡ None
none-right [] ys none = none
none-right (x ∷ xs) ys none = cc

none-if : (b : Bool) (cause : Cause) → first (fault_if b cause 0) ≡ None → b ≡ false
none-if true cause none = cc
none-if false cause none = refl

-- a fault that isn't there, in front of others
clear : (b : Bool) (cause : Cause) (ys : List Fault) → first (fault_if b cause 0 ++ ys) ≡ None → (b ≡ false) × (first ys ≡ None)
clear b cause ys none = (none-if b cause (none-left (fault_if b cause 0) ys none), none-right (fault_if b cause 0) ys none)

sure : (b : Bool) → not b ≡ false → b ≡ true
sure true e = refl
sure false e = cc

nothing : {A : Type 0} (o : Option A) → is_some o ≡ false → o ≡ None
nothing None e = refl
nothing (Some x) e = cc

-- what a creation without a fault has
pub record Creatable (rxq : ℕ) (entries : Entries) (id : Option ℕ) (value : Action) : Type 0 where
  pub shareable : is_shareable (kind_of value) ≡ true
  pub in_range : is_bad rxq 0 value ≡ false
  pub free : is_taken id entries ≡ false
  pub place : length entries < 1024

pub create-clear : (rxq : ℕ) (entries : Entries) (id : Option ℕ) (attr : Attr) (value : Action) → create_fault rxq entries id attr value ≡ None → Creatable rxq entries id value
create-clear rxq entries id attr value none =
    let many = fault_if (nat_le 1024 (length entries)) causes.TooMany 0 in
    let taken = fault_if (is_taken id entries) causes.IdInUse 0 ++ many in
    let bad = fault_if (is_bad rxq 0 value) causes.ActionConf 0 ++ taken in
    let kind = fault_if (not (is_shareable (kind_of value))) causes.KindNotIndirect 0 ++ bad in
    let from_kind = clear (not (is_shareable (kind_of value))) causes.KindNotIndirect bad (none-right (direction_faults attr) kind none) in
    let from_range = clear (is_bad rxq 0 value) causes.ActionConf taken from_kind.1 in
    let from_free = clear (is_taken id entries) causes.IdInUse many from_range.1 in
    record {
      shareable = sure (is_shareable (kind_of value)) from_kind.0;
      in_range = from_range.0;
      free = from_free.0;
      place = leb-false 1024 (length entries) (none-if (nat_le 1024 (length entries)) causes.TooMany from_free.1);
    }

-- a value that is created is one that rules share on this port
pub IsSharedOn-created : (rxq : ℕ) (entries : Entries) (id : Option ℕ) (attr : Attr) (value : Action) → create_fault rxq entries id attr value ≡ None → IsSharedOn rxq value
IsSharedOn-created rxq entries id attr value none =
    let fine = create-clear rxq entries id attr value none in
    (fine.shareable, on_port rxq 0 value fine.in_range)

-- and it can be added with its id
pub CanAdd-clear : (rxq : ℕ) (entries : Entries) (id : Option ℕ) (attr : Attr) (value : Action) → entry_at (least_unused entries) entries ≡ None
    → create_fault rxq entries id attr value ≡ None → CanAdd (id_for id entries) value entries
CanAdd-clear rxq entries id attr value unused none =
    let fine = create-clear rxq entries id attr value none in
    record { shareable = fine.shareable; free = by id fine.free; place = fine.place } where
      by : (given : Option ℕ) → is_taken given entries ≡ false → entry_at (id_for given entries) entries ≡ None
      by None e = unused
      by (Some i) e = nothing (entry_at i entries) e

-- of two kinds that are the same, one is as shareable as the other
both : (a b : Bool) → a && b ≡ true → (a ≡ true) × (b ≡ true)
both true true e = (refl, refl)
both true false e = cc
both false b e = cc

same-kind : (kind other : ActionKind) → is_same_kind kind other ≡ true → kind ≡ other
same-kind kinds.Queue kinds.Queue e = refl
same-kind kinds.Rss kinds.Rss e = refl
same-kind kinds.Mark kinds.Mark e = refl
same-kind kinds.Count kinds.Count e = refl
same-kind _ _ e = cc

shareable-same : (kind other : ActionKind) → is_same_kind kind other ≡ true → is_shareable other ≡ true
shareable-same kind other e = ap is_shareable (sym (same-kind kind other e)) ∙ (both (is_shareable kind) (nat_eq (action_number kind) (action_number other)) e).0

-- what an update without a fault has
pub record Fitting (rxq : ℕ) (old : Option SharedAction) (value : Action) : Type 0 where
  pub there : IsSome old
  pub same_kind : is_of_other_kind value old ≡ false
  pub no_count : is_count value ≡ false
  pub in_range : is_bad rxq 0 value ≡ false

pub update-clear : (rxq : ℕ) (entries : Entries) (id : ℕ) (value : Action) → update_fault rxq entries id value ≡ None → Fitting rxq (in_effect_at id entries) value
update-clear rxq entries id value none =
    let old = in_effect_at id entries in
    let range = fault_if (is_bad rxq 0 value) causes.ActionConf 0 in
    let count = fault_if (is_count value) causes.CannotUpdate 0 ++ range in
    let kind = fault_if (is_of_other_kind value old) causes.KindDiffers 0 ++ count in
    let there = clear (is_none old) causes.NoObject kind none in
    let same = clear (is_of_other_kind value old) causes.KindDiffers count there.1 in
    let other = clear (is_count value) causes.CannotUpdate range same.1 in
    record {
      there = sure (is_some old) there.0;
      same_kind = same.0;
      no_count = other.0;
      in_range = none-if (is_bad rxq 0 value) causes.ActionConf other.1;
    }

shareable-old : (value : Action) (old : Option SharedAction) → IsSome old → is_of_other_kind value old ≡ false → is_shareable (kind_of value) ≡ true
shareable-old value None there same = cc
shareable-old value (Some e) there same = shareable-same (kind_of e.value) (kind_of value) (sure (is_same_kind (kind_of e.value) (kind_of value)) same)

-- a new value is one that rules share on this port
pub IsSharedOn-updated : (rxq : ℕ) (entries : Entries) (id : ℕ) (value : Action) → update_fault rxq entries id value ≡ None → IsSharedOn rxq value
IsSharedOn-updated rxq entries id value none =
    let fit = update-clear rxq entries id value none in
    (shareable-old value (in_effect_at id entries) fit.there fit.same_kind, on_port rxq 0 value fit.in_range)

-- and it is of the kind that the old value had
pub kind-kept : (value : Action) (entry : SharedAction) → is_of_other_kind value (Some entry) ≡ false → kind_of entry.value ≡ kind_of value
kind-kept value entry same = same-kind (kind_of entry.value) (kind_of value) (sure (is_same_kind (kind_of entry.value) (kind_of value)) same)
