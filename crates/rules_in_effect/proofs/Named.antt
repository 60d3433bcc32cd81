-- Ids, the handles that they find, and the rules under these.
use Rattle.std.proofs.Common.{◌≡◌, ◌≢◌, ℕ, ◌+◌, Bool, true, false, cond, not, List, [], ◌∷◌, ◌++◌, Option, None, Some, refl, sym, ap, ◌∙◌, subst, arith, inl, inr}
use Rattle.std.specs.List.{count_by}
use Rattle.std.proofs.lemmas.Bool.{eq-eqb, ne_eqb}
use Rattle.std.proofs.lemmas.Bool.Decides.{eqb_tells}
use Rattle.std.proofs.lemmas.List.{map-append}
use Rattle.std.proofs.lemmas.List.Sums.{sum_by-append}
use Rattle.std.proofs.lemmas.Option.{same_Some}
use Rattle.slot_pool.specs.declared.handle.Handle.{Handle}
use Rattle.slot_pool.specs.Handle.{same_handle}
use Rattle.slot_pool.proofs.Handles.{lookup-append_none, lookup-append_some, same_handle_refl, same_handle_tells, same_handle-other}
use Rattle.flow_rules.specs.Changes.{has_id}
use Rattle.rules_in_effect.specs.declared.in_effect.InEffect.{InEffect}
use Rattle.rules_in_effect.specs.Entries.{entry_at, without, with_hit, raised, is_plain, AreDistinct}
use Rattle.rules_in_effect.specs.Order.{entries, entry_in, under, but, hit_under}
use Rattle.rules_in_effect.specs.Inside.{AreFound, AreNamed}
use Rattle.rules_in_effect.proofs.Distinct.{without-none, AreDistinct-push, AreDistinct-without, AreDistinct-raised}

-- the rule of an id
pub named-none : (find : ℕ → Option Handle) (kept : List (Handle × InEffect)) (id : ℕ) → AreFound find kept → find id ≡ None → entry_at id (entries kept) ≡ None
named-none find [] id found none = refl
named-none find (pair ∷ kept) id found none =
    ap (λ b. cond b (Some pair.1) (entry_at id (entries kept))) (ne_eqb pair.1.rule.id id (λ same. let bad = ap find (sym same) in let is = found.0 in cc))
    ∙ named-none find kept id found.1 none

entry-named : (find : ℕ → Option Handle) (kept : List (Handle × InEffect)) (id : ℕ) (h : Handle) (entry : InEffect) → AreFound find kept → find id ≡ Some h
    → under h kept ≡ Some entry → entry.rule.id ≡ id → entry_at id (entries kept) ≡ Some entry
entry-named find [] id h entry found is at id_is = cc
entry-named find (pair ∷ kept) id h entry found is at id_is =
    elim (same_handle_tells h pair.0) [
      | inl here ↦
          let same : Some pair.1 ≡ Some entry = ap (λ b. cond b (Some pair.1) (under h kept)) (sym here.0) ∙ at in
          ap (λ b. cond b (Some pair.1) (entry_at id (entries kept))) (eq-eqb pair.1.rule.id id (ap (λ (e : InEffect). e.rule.id) (same_Some pair.1 entry same) ∙ id_is)) ∙ same
      | inr other ↦
          let apart : pair.1.rule.id ≡ id → ⊥ = λ same. other.1 (same_Some h pair.0 (sym is ∙ ap find (sym same) ∙ found.0)) in
          ap (λ b. cond b (Some pair.1) (entry_at id (entries kept))) (ne_eqb pair.1.rule.id id apart)
          ∙ entry-named find kept id h entry found.1 is (ap (λ b. cond b (Some pair.1) (under h kept)) (sym other.0) ∙ at) id_is
    ]

-- the rules under a handle are those of the id that finds it
but-named : (find : ℕ → Option Handle) (kept : List (Handle × InEffect)) (id : ℕ) (h : Handle) → AreFound find kept → find id ≡ Some h → ((a : ℕ) → find a ≡ Some h → a ≡ id)
    → entries (but h kept) ≡ without id (entries kept)
but-named find [] id h found is one = refl
but-named find (pair ∷ kept) id h found is one =
    let rest = but-named find kept id h found.1 is one in
    elim (same_handle_tells h pair.0) [
      | inl here ↦ let same = eq-eqb pair.1.rule.id id (one pair.1.rule.id (found.0 ∙ ap Some (sym here.1))) in rw (here.0, same) rest
      | inr other ↦
          let apart = ne_eqb pair.1.rule.id id (λ same. other.1 (same_Some h pair.0 (sym is ∙ ap find (sym same) ∙ found.0))) in
          rw (other.0, apart) (ap (λ list. pair.1 ∷ list) rest)
    ]

hit-named : (find : ℕ → Option Handle) (kept : List (Handle × InEffect)) (id bytes : ℕ) (h : Handle) → AreFound find kept → find id ≡ Some h → ((a : ℕ) → find a ≡ Some h → a ≡ id)
    → entries (hit_under h bytes kept) ≡ raised id bytes (entries kept)
hit-named find [] id bytes h found is one = refl
hit-named find (pair ∷ kept) id bytes h found is one =
    let rest = hit-named find kept id bytes h found.1 is one in
    elim (same_handle_tells h pair.0) [
      | inl here ↦ let same = eq-eqb pair.1.rule.id id (one pair.1.rule.id (found.0 ∙ ap Some (sym here.1))) in rw (here.0, same) (ap (λ list. with_hit bytes pair.1 ∷ list) rest)
      | inr other ↦
          let apart = ne_eqb pair.1.rule.id id (λ same. other.1 (same_Some h pair.0 (sym is ∙ ap find (sym same) ∙ found.0))) in
          rw (other.0, apart) (ap (λ list. pair.1 ∷ list) rest)
    ]

-- one id finds a handle
found_once : (find : ℕ → Option Handle) (kept : List (Handle × InEffect)) (id a : ℕ) (h : Handle) → AreNamed find kept → find id ≡ Some h → find a ≡ Some h → a ≡ id
found_once find kept id a h named is there =
    let one = named.exact id h is in
    let other = named.exact a h there in
    sym other.is ∙ ap (λ (e : InEffect). e.rule.id) (same_Some other.entry one.entry (sym other.at ∙ one.at)) ∙ one.is

-- what an id tells
pub record Known (kept : List (Handle × InEffect)) (id : ℕ) (h : Handle) : Type 0 where
  pub entry : InEffect
  pub at : under h kept ≡ Some entry
  pub is : entry_at id (entries kept) ≡ Some entry
  pub rest : entries (but h kept) ≡ without id (entries kept)
  pub hit : (bytes : ℕ) → entries (hit_under h bytes kept) ≡ raised id bytes (entries kept)

pub known : (find : ℕ → Option Handle) (kept : List (Handle × InEffect)) (id : ℕ) (h : Handle) → AreNamed find kept → find id ≡ Some h → Known kept id h
known find kept id h named is =
    let of = named.exact id h is in
    record {
      entry = of.entry;
      at = of.at;
      is = entry-named find kept id h of.entry named.each is of.at of.is;
      rest = but-named find kept id h named.each is (λ a there. found_once find kept id a h named is there);
      hit = λ bytes. hit-named find kept id bytes h named.each is (λ a there. found_once find kept id a h named is there);
    }

AreFound-same : (find now : ℕ → Option Handle) (kept : List (Handle × InEffect)) → ((id : ℕ) → now id ≡ find id) → AreFound find kept → AreFound now kept
AreFound-same find now [] same found = tt
AreFound-same find now (pair ∷ kept) same found = (same pair.1.rule.id ∙ found.0, AreFound-same find now kept same found.1)

-- another index that finds the same
pub AreNamed-same : (find now : ℕ → Option Handle) (kept : List (Handle × InEffect)) → ((id : ℕ) → now id ≡ find id) → AreNamed find kept → AreNamed now kept
AreNamed-same find now kept same named =
    record {
      each = AreFound-same find now kept same named.each;
      exact = λ id h is. named.exact id h (sym (same id) ∙ is);
      distinct = named.distinct;
    }

AreFound-push : (find now : ℕ → Option Handle) (kept : List (Handle × InEffect)) (id : ℕ) (h : Handle) (entry : InEffect) → AreFound find kept → entry_at id (entries kept) ≡ None
    → ((a : ℕ) → a ≢ id → now a ≡ find a) → now entry.rule.id ≡ Some h → AreFound now (kept ++ (h, entry) ∷ [])
AreFound-push find now [] id h entry found free others here = (here, tt)
AreFound-push find now (pair ∷ kept) id h entry found free others here =
    elim (eqb_tells pair.1.rule.id id) [
      | inl same ↦ absurd (let bad = ap (λ b. cond b (Some pair.1) (entry_at id (entries kept))) (sym same.0) ∙ free in cc)
      | inr apart ↦
          let rest = ap (λ b. cond b (Some pair.1) (entry_at id (entries kept))) (sym apart.0) ∙ free in
          (others pair.1.rule.id apart.1 ∙ found.0, AreFound-push find now kept id h entry found.1 rest others here)
    ]

-- a rule more
pub AreNamed-push : (find now : ℕ → Option Handle) (kept : List (Handle × InEffect)) (h : Handle) (entry : InEffect) → AreNamed find kept → under h kept ≡ None
    → entry_at entry.rule.id (entries kept) ≡ None → now entry.rule.id ≡ Some h → ((a : ℕ) → a ≢ entry.rule.id → now a ≡ find a) → AreNamed now (kept ++ (h, entry) ∷ [])
AreNamed-push find now kept h entry named fresh free here others =
    record {
      each = AreFound-push find now kept entry.rule.id h entry named.each free others here;
      exact = λ a g is. elim (eqb_tells a entry.rule.id) [
        | inl same ↦
            let is_h : h ≡ g = same_Some h g (sym here ∙ ap now (sym same.1) ∙ is) in
            record {
              entry = entry;
              at = subst (λ g. under g (kept ++ (h, entry) ∷ []) ≡ Some entry) is_h
                  (lookup-append_none (same_handle h) kept ((h, entry) ∷ []) fresh ∙ ap (λ b. cond b (Some entry) None) (same_handle_refl h));
              is = sym same.1;
            }
        | inr apart ↦
            let of = named.exact a g (sym (others a apart.1) ∙ is) in
            record { entry = of.entry; at = lookup-append_some (same_handle g) kept ((h, entry) ∷ []) of.entry of.at; is = of.is }
      ];
      distinct = subst AreDistinct (sym (map-append entry_in kept ((h, entry) ∷ []))) (AreDistinct-push (entries kept) entry named.distinct free);
    }

AreFound-but : (find now : ℕ → Option Handle) (kept : List (Handle × InEffect)) (id : ℕ) (h : Handle) → AreFound find kept → find id ≡ Some h
    → ((a : ℕ) → a ≢ id → now a ≡ find a) → AreFound now (but h kept)
AreFound-but find now [] id h found is others = tt
AreFound-but find now (pair ∷ kept) id h found is others =
    let rest = AreFound-but find now kept id h found.1 is others in
    elim (same_handle_tells h pair.0) [
      | inl here ↦ rw here.0 rest
      | inr other ↦ rw other.0 (others pair.1.rule.id (λ same. other.1 (same_Some h pair.0 (sym is ∙ ap find (sym same) ∙ found.0))) ∙ found.0, rest)
    ]

under-but : (h g : Handle) (kept : List (Handle × InEffect)) → g ≢ h → under g (but h kept) ≡ under g kept
under-but h g [] apart = refl
under-but h g (pair ∷ kept) apart =
    elim (same_handle_tells h pair.0) [
      | inl here ↦ rw (here.0, same_handle-other g pair.0 (λ same. apart (same ∙ sym here.1))) (under-but h g kept apart)
      | inr other ↦ rw other.0 (ap (λ o. cond (same_handle g pair.0) (Some pair.1) o) (under-but h g kept apart))
    ]

-- a rule less
pub AreNamed-but : (find now : ℕ → Option Handle) (kept : List (Handle × InEffect)) (id : ℕ) (h : Handle) → AreNamed find kept → find id ≡ Some h
    → now id ≡ None → ((a : ℕ) → a ≢ id → now a ≡ find a) → AreNamed now (but h kept)
AreNamed-but find now kept id h named is gone others =
    record {
      each = AreFound-but find now kept id h named.each is others;
      exact = λ a g there.
          let apart : a ≢ id = λ same. let bad = sym there ∙ ap now same ∙ gone in cc in
          let was : find a ≡ Some g = sym (others a apart) ∙ there in
          let of = named.exact a g was in
          record { entry = of.entry; at = under-but h g kept (λ same. apart (found_once find kept id a h named is (was ∙ ap Some same))) ∙ of.at; is = of.is };
      distinct = subst AreDistinct (sym (known find kept id h named is).rest) (AreDistinct-without id (entries kept) named.distinct);
    }

id-hit : (b : Bool) (bytes : ℕ) (entry : InEffect) → (cond b (with_hit bytes entry) entry).rule.id ≡ entry.rule.id
id-hit true bytes entry = refl
id-hit false bytes entry = refl

AreFound-hit : (find : ℕ → Option Handle) (kept : List (Handle × InEffect)) (h : Handle) (bytes : ℕ) → AreFound find kept → AreFound find (hit_under h bytes kept)
AreFound-hit find [] h bytes found = tt
AreFound-hit find (pair ∷ kept) h bytes found = (ap find (id-hit (same_handle h pair.0) bytes pair.1) ∙ found.0, AreFound-hit find kept h bytes found.1)

under-hit : (h g : Handle) (bytes : ℕ) (kept : List (Handle × InEffect)) (entry : InEffect) → under g kept ≡ Some entry
    → (after : InEffect) × (under g (hit_under h bytes kept) ≡ Some after) × (after.rule.id ≡ entry.rule.id)
under-hit h g bytes [] entry is = cc
under-hit h g bytes (pair ∷ kept) entry is =
    let first = cond (same_handle h pair.0) (with_hit bytes pair.1) pair.1 in
    elim (same_handle_tells g pair.0) [
      | inl here ↦
          let same = ap (λ b. cond b (Some pair.1) (under g kept)) (sym here.0) ∙ is in
          (first, ap (λ b. cond b (Some first) (under g (hit_under h bytes kept))) here.0, id-hit (same_handle h pair.0) bytes pair.1 ∙ ap (λ (e : InEffect). e.rule.id) (same_Some pair.1 entry same))
      | inr other ↦
          let rest = under-hit h g bytes kept entry (ap (λ b. cond b (Some pair.1) (under g kept)) (sym other.0) ∙ is) in
          (rest.0, ap (λ b. cond b (Some first) (under g (hit_under h bytes kept))) other.0 ∙ rest.1, rest.2)
    ]

-- a frame more
pub AreNamed-hit : (find : ℕ → Option Handle) (kept : List (Handle × InEffect)) (id bytes : ℕ) (h : Handle) → AreNamed find kept → find id ≡ Some h → AreNamed find (hit_under h bytes kept)
AreNamed-hit find kept id bytes h named is =
    record {
      each = AreFound-hit find kept h bytes named.each;
      exact = λ a g there.
          let of = named.exact a g there in
          let after = under-hit h g bytes kept of.entry of.at in
          record { entry = after.0; at = after.1; is = after.2 ∙ of.is };
      distinct = subst AreDistinct (sym ((known find kept id h named is).hit bytes)) (AreDistinct-raised id bytes (entries kept) named.distinct);
    }

-- rules without a table are counted
count-first : (x : InEffect) (list : List InEffect) → count_by is_plain (x ∷ list) ≡ cond (is_plain x) 1 0 + count_by is_plain list
count-first x list = omega (arith, sum_by-append (λ entry. cond (is_plain entry) 1 0) (x ∷ []) list)

pub plain-push : (list new : List InEffect) (entry : InEffect) (plain one : ℕ) → plain ≡ count_by is_plain list → one ≡ cond (is_plain entry) 1 0 → new ≡ list ++ entry ∷ []
    → plain + one ≡ count_by is_plain new
plain-push list new entry plain one counted is after =
    omega (arith, counted, is, ap (count_by is_plain) after, sum_by-append (λ entry. cond (is_plain entry) 1 0) list (entry ∷ []))

abbrev worth : InEffect → ℕ
worth entry = cond (is_plain entry) 1 0

pub plain-without : (id : ℕ) (list : List InEffect) (entry : InEffect) → AreDistinct list → entry_at id list ≡ Some entry
    → count_by is_plain (without id list) + cond (is_plain entry) 1 0 ≡ count_by is_plain list
plain-without id [] entry own is = cc
plain-without id (x ∷ list) entry own is =
    elim (eqb_tells x.rule.id id) [
      | inl same ↦
          let first = same_Some x entry (ap (λ b. cond b (Some x) (entry_at id list)) (sym same.0) ∙ is) in
          let rest = without-none id list (subst (λ i. entry_at i list ≡ None) same.1 own.0) in
          let left : without id (x ∷ list) ≡ list = ap (λ b. cond (not b) (x ∷ without id list) (without id list)) same.0 ∙ rest in
          omega (arith, ap (count_by is_plain) left, count-first x list, ap worth first)
      | inr apart ↦
          let rest = plain-without id list entry own.1 (ap (λ b. cond b (Some x) (entry_at id list)) (sym apart.0) ∙ is) in
          let left : without id (x ∷ list) ≡ x ∷ without id list = ap (λ b. cond (not b) (x ∷ without id list) (without id list)) apart.0 in
          omega (arith, ap (count_by is_plain) left, count-first x list, count-first x (without id list), rest)
    ]

pub plain-raised : (id bytes : ℕ) (list : List InEffect) → count_by is_plain (raised id bytes list) ≡ count_by is_plain list
plain-raised id bytes [] = refl
plain-raised id bytes (x ∷ list) = by (has_id id x.rule) (plain-raised id bytes list) where
  by : (b : Bool) → count_by is_plain (raised id bytes list) ≡ count_by is_plain list
      → count_by is_plain (cond b (with_hit bytes x) x ∷ raised id bytes list) ≡ count_by is_plain (x ∷ list)
  by true on = omega (arith, count-first (with_hit bytes x) (raised id bytes list), count-first x list, on)
  by false on = omega (arith, count-first x (raised id bytes list), count-first x list, on)
