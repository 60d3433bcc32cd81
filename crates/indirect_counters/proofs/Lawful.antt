-- What holds of each shared action stays so.
use Rattle.std.proofs.Common.{◌≡◌, ◌∙◌, ℕ, Bool, true, false, cond, nat_eq, [], ◌∷◌, length, Option, None, Some, is_some, refl, sym, ap, subst, ◌≤◌, ◌<◌, ◌+◌, ◌^◌, arith}
use Rattle.std.specs.List.{All, IsDistinct}
use Rattle.std.specs.Map.{keys_of, set_value}
use Rattle.std.proofs.lemmas.Bool.{eqb-true}
use Rattle.std.proofs.lemmas.Cmp.{nat_eq_equiv}
use Rattle.std.proofs.lemmas.List.{map-append, length-append}
use Rattle.std.proofs.lemmas.Map.Keys.{IsDistinct-push}
use Rattle.std.proofs.lemmas.Map.Made.{is_some-lookup}
use Rattle.std.proofs.lemmas.List.Elements.{All-cons, All-head, All-tail, All-push}
use Rattle.flow_actions.specs.declared.action.Action.{Action}
use Rattle.flow_rules.specs.Shared.{IsSharedOn}
use Rattle.indirect_counters.specs.declared.shared_action.SharedAction.{SharedAction}
use Rattle.indirect_counters.specs.Counts.{no_count}
use Rattle.indirect_counters.specs.Entries.{Entries, entry_at, if_in_effect, in_effect_at, created}
use Rattle.indirect_counters.specs.Effects.{added, without, changed_at, behind_others, activated, updated}
use Rattle.indirect_counters.specs.Sound.{Sound, IsLawful, AreOn, CanAdd}

same-some : {A : Type 0} {x y : A} → Some x ≡ Some y → x ≡ y
same-some e = cc

-- a change of what stands at an id is the new value there
pub changed_at-is : (id : ℕ) (change : SharedAction → SharedAction) (entries : Entries) (entry : SharedAction) → entry_at id entries ≡ Some entry
    → changed_at id change entries ≡ set_value (nat_eq id) entries (change entry)
changed_at-is id change [] entry found = refl
changed_at-is id change (e ∷ entries) entry found = by (nat_eq id e.0) (changed_at-is id change entries entry) found where
  by : (b : Bool) → (entry_at id entries ≡ Some entry → changed_at id change entries ≡ set_value (nat_eq id) entries (change entry))
      → cond b (Some e.1) (entry_at id entries) ≡ Some entry
      → cond b ((e.0, change e.1) ∷ entries) (e ∷ changed_at id change entries) ≡ cond b ((e.0, change entry) ∷ entries) (e ∷ set_value (nat_eq id) entries (change entry))
  by true behind here = ap (λ (x : SharedAction). (e.0, change x) ∷ entries) (same-some here)
  by false behind here = ap (λ l. e ∷ l) (behind here)

pub length-changed_at : (id : ℕ) (change : SharedAction → SharedAction) (entries : Entries) → length (changed_at id change entries) ≡ length entries
length-changed_at id change [] = refl
length-changed_at id change (e ∷ entries) = by (nat_eq id e.0) (length-changed_at id change entries) where
  by : (b : Bool) → length (changed_at id change entries) ≡ length entries → length (cond b ((e.0, change e.1) ∷ entries) (e ∷ changed_at id change entries)) ≡ length (e ∷ entries)
  by true behind = refl
  by false behind = omega (arith, behind)

pub keys-changed_at : (id : ℕ) (change : SharedAction → SharedAction) (entries : Entries) → keys_of (changed_at id change entries) ≡ keys_of entries
keys-changed_at id change [] = refl
keys-changed_at id change (e ∷ entries) = by (nat_eq id e.0) (keys-changed_at id change entries) where
  by : (b : Bool) → keys_of (changed_at id change entries) ≡ keys_of entries → keys_of (cond b ((e.0, change e.1) ∷ entries) (e ∷ changed_at id change entries)) ≡ e.0 ∷ keys_of entries
  by true behind = refl
  by false behind = ap (λ l. e.0 ∷ l) behind

pub length-without : (id : ℕ) (entries : Entries) → length (without id entries) ≤ length entries
length-without id [] = omega arith
length-without id (e ∷ entries) = by (nat_eq id e.0) (length-without id entries) where
  by : (b : Bool) → length (without id entries) ≤ length entries → length (cond b entries (e ∷ without id entries)) ≤ length (e ∷ entries)
  by true behind = omega arith
  by false behind = omega (arith, behind)

-- an entry more, with an id that is free
pub Sound-added : (id : ℕ) (value : Action) (held : Bool) (entries : Entries) → id < 2 ^ 16 → CanAdd id value entries → Sound entries → Sound (added id value held entries)
Sound-added id value held entries short fine sound = record {
  ids = subst (λ keys. IsDistinct nat_eq keys) (sym (map-append (λ (e : ℕ × SharedAction). e.0) entries ((id, created value held) ∷ [])))
      (IsDistinct-push nat_eq_equiv (keys_of entries) id sound.ids (sym (is_some-lookup (nat_eq id) entries) ∙ ap is_some fine.free));
  few = omega (arith, fine.place, length-append entries ((id, created value held) ∷ []));
  lawful = All-push IsLawful entries (id, created value held) sound.lawful (short, fine.shareable, omega arith);
}

-- what is taken out stood there
pub length-taken : (id : ℕ) (entries : Entries) (entry : SharedAction) → entry_at id entries ≡ Some entry → length (without id entries) + 1 ≡ length entries
length-taken id [] entry found = cc
length-taken id (e ∷ entries) entry found = by (nat_eq id e.0) (length-taken id entries entry) found where
  by : (b : Bool) → (entry_at id entries ≡ Some entry → length (without id entries) + 1 ≡ length entries) → cond b (Some e.1) (entry_at id entries) ≡ Some entry
      → length (cond b entries (e ∷ without id entries)) + 1 ≡ length (e ∷ entries)
  by true behind here = omega arith
  by false behind here =
      let same = behind here in
      omega (arith, same)

pub length-activated : (id : ℕ) (entries : Entries) → length (activated id entries) ≡ length entries
length-activated id entries = by (entry_at id entries) (length-taken id entries) where
  by : (found : Option SharedAction) → ((entry : SharedAction) → found ≡ Some entry → length (without id entries) + 1 ≡ length entries) → length (behind_others id found entries) ≡ length entries
  by None taken = refl
  by (Some entry) taken =
      let same = taken entry refl in
      omega (arith, same, length-append (without id entries) ((id, record entry { held = false; count = no_count }) ∷ []))

module _ (P : ℕ × SharedAction → Type 0) where
  pub All-changed_at : (id : ℕ) (change : SharedAction → SharedAction) → ((k : ℕ) (e : SharedAction) → P (k, e) → P (k, change e)) → (entries : Entries) → All P entries
      → All P (changed_at id change entries)
  All-changed_at id change keeps [] all = all
  All-changed_at id change keeps (e ∷ entries) all = by (nat_eq id e.0) (All-changed_at id change keeps entries (All-tail P e entries all)) where
    by : (b : Bool) → All P (changed_at id change entries) → All P (cond b ((e.0, change e.1) ∷ entries) (e ∷ changed_at id change entries))
    by true behind = All-cons P (e.0, change e.1) entries (keeps e.0 e.1 (All-head P e entries all)) (All-tail P e entries all)
    by false behind = All-cons P e (changed_at id change entries) (All-head P e entries all) behind

  pub All-without : (id : ℕ) (entries : Entries) → All P entries → All P (without id entries)
  All-without id [] all = all
  All-without id (e ∷ entries) all = by (nat_eq id e.0) (All-without id entries (All-tail P e entries all)) where
    by : (b : Bool) → All P (without id entries) → All P (cond b entries (e ∷ without id entries))
    by true behind = All-tail P e entries all
    by false behind = All-cons P e (without id entries) (All-head P e entries all) behind

  pub All-at : (id : ℕ) (entries : Entries) → All P entries → (entry : SharedAction) → entry_at id entries ≡ Some entry → P (id, entry)
  All-at id [] all entry found = cc
  All-at id (e ∷ entries) all entry found = by (nat_eq id e.0) refl (All-at id entries (All-tail P e entries all) entry) found where
    by : (b : Bool) → nat_eq id e.0 ≡ b → (entry_at id entries ≡ Some entry → P (id, entry)) → cond b (Some e.1) (entry_at id entries) ≡ Some entry → P (id, entry)
    by true same behind here =
        subst (λ k. P (k, entry)) (sym (eqb-true id e.0 same)) (subst (λ (x : SharedAction). P (e.0, x)) (same-some here) (All-head P e entries all))
    by false same behind here = behind here

  pub All-activated : (id : ℕ) (entries : Entries) → ((entry : SharedAction) → P (id, entry) → P (id, record entry { held = false; count = no_count })) → All P entries
      → All P (activated id entries)
  All-activated id entries keeps all = by (entry_at id entries) (All-at id entries all) where
    by : (found : Option SharedAction) → ((entry : SharedAction) → found ≡ Some entry → P (id, entry)) → All P (behind_others id found entries)
    by None here = all
    by (Some entry) here = All-push P (without id entries) (id, record entry { held = false; count = no_count }) (All-without id entries all) (keeps entry (here entry refl))

-- so the values stay those of the port
pub AreOn-added : (rxq id : ℕ) (value : Action) (held : Bool) (entries : Entries) → IsSharedOn rxq value → AreOn rxq entries → AreOn rxq (added id value held entries)
AreOn-added rxq id value held entries on all = All-push (λ (e : ℕ × SharedAction). IsSharedOn rxq e.1.value) entries (id, created value held) all on

pub AreOn-without : (rxq id : ℕ) (entries : Entries) → AreOn rxq entries → AreOn rxq (without id entries)
AreOn-without rxq id entries all = All-without (λ (e : ℕ × SharedAction). IsSharedOn rxq e.1.value) id entries all

pub AreOn-activated : (rxq id : ℕ) (entries : Entries) → AreOn rxq entries → AreOn rxq (activated id entries)
AreOn-activated rxq id entries all = All-activated (λ (e : ℕ × SharedAction). IsSharedOn rxq e.1.value) id entries (λ entry on. on) all

pub AreOn-updated : (rxq id : ℕ) (value : Action) (entries : Entries) → IsSharedOn rxq value → AreOn rxq entries → AreOn rxq (updated id value entries)
AreOn-updated rxq id value entries on all =
    All-changed_at (λ (e : ℕ × SharedAction). IsSharedOn rxq e.1.value) id (λ entry. record entry { value = value }) (λ k e old. on) entries all

-- a change of users or of the count leaves the values
pub AreOn-changed_at : (rxq id : ℕ) (change : SharedAction → SharedAction) → ((e : SharedAction) → (change e).value ≡ e.value) → (entries : Entries) → AreOn rxq entries
    → AreOn rxq (changed_at id change entries)
AreOn-changed_at rxq id change keeps entries all =
    All-changed_at (λ (e : ℕ × SharedAction). IsSharedOn rxq e.1.value) id change (λ k e on. subst (IsSharedOn rxq) (sym (keeps e)) on) entries all

-- and the list stays sound
pub Sound-changed_at : (id : ℕ) (change : SharedAction → SharedAction) → ((k : ℕ) (e : SharedAction) → IsLawful (k, e) → IsLawful (k, change e)) → (entries : Entries) → Sound entries
    → Sound (changed_at id change entries)
Sound-changed_at id change keeps entries sound = record {
  ids = subst (λ keys. IsDistinct nat_eq keys) (sym (keys-changed_at id change entries)) sound.ids;
  few = omega (arith, sound.few, length-changed_at id change entries);
  lawful = All-changed_at IsLawful id change keeps entries sound.lawful;
}

-- the one in effect of an id is the one that stands there
pub in_effect-stands : (id : ℕ) (entries : Entries) (entry : SharedAction) → in_effect_at id entries ≡ Some entry → entry_at id entries ≡ Some entry
in_effect-stands id entries entry found = by (entry_at id entries) found where
  held : (b : Bool) (e : SharedAction) → cond b None (Some e) ≡ Some entry → Some e ≡ Some entry
  held true e here = cc
  held false e here = here

  by : (o : Option SharedAction) → if_in_effect o ≡ Some entry → o ≡ Some entry
  by None here = cc
  by (Some e) here = held e.held e here

-- its value is the port's
pub IsSharedOn-at : (rxq id : ℕ) (entries : Entries) → AreOn rxq entries → (entry : SharedAction) → in_effect_at id entries ≡ Some entry → IsSharedOn rxq entry.value
IsSharedOn-at rxq id entries all entry found =
    All-at (λ (e : ℕ × SharedAction). IsSharedOn rxq e.1.value) id entries all entry (in_effect-stands id entries entry found)

-- no id is longer than 16 bits
pub in_effect-short : (id : ℕ) (entries : Entries) → All IsLawful entries → 2 ^ 16 ≤ id → in_effect_at id entries ≡ None
in_effect-short id entries lawful long = by (entry_at id entries) (All-at IsLawful id entries lawful) where
  by : (o : Option SharedAction) → ((e : SharedAction) → o ≡ Some e → IsLawful (id, e)) → if_in_effect o ≡ None
  by None here = refl
  by (Some e) here =
      let short = (here e refl).0 in
      absurd (omega (arith, short, long))

pub Sound-same : {xs ys : Entries} → Sound ys → xs ≡ ys → Sound xs
Sound-same sound same = subst Sound (sym same) sound
