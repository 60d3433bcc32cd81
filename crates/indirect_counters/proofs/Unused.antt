-- The least id that isn't in use is not in use.
use Rattle.std.proofs.Common.{◌≡◌, ◌<◌, ◌≤◌, ◌+◌, ℕ, zero, suc, Bool, true, false, cond, length, is_some, IsSome, Option, Some, None, subst, refl, inl, inr, arith}
use Rattle.std.proofs.lemmas.Bool.{cases_lt}
use Rattle.object_ids.specs.Ids.{unused_from, least_unused}
use Rattle.object_ids.proofs.Unused.{room_at}
use Rattle.indirect_counters.specs.Entries.{Entries, entry_at}

free : (entries : Entries) (k : ℕ) → is_some (entry_at k entries) ≡ false → entry_at k entries ≡ None
free entries k e = by (entry_at k entries) e where
  by : {A : Type 0} (o : Option A) → is_some o ≡ false → o ≡ None
  by None none = refl
  by (Some x) none = cc

-- nor is what the search finds, once each id before is in use
found : (entries : Entries) (more k : ℕ) → k + more ≡ length entries → ((lower : ℕ) → lower < k → IsSome (entry_at lower entries)) → entry_at (unused_from more k entries) entries ≡ None
found entries zero k all used = free entries k (by (is_some (entry_at k entries)) refl) where
  by : (b : Bool) → is_some (entry_at k entries) ≡ b → is_some (entry_at k entries) ≡ false
  by true e =
      let more : k + 1 ≤ length entries = room_at entries k used e in
      absurd (omega (arith, more, all))
  by false e = e
found entries (suc more) k all used = by (is_some (entry_at k entries)) refl (found entries more (k + 1) (omega (arith, all))) where
  by : (b : Bool) → is_some (entry_at k entries) ≡ b → (((lower : ℕ) → lower < k + 1 → IsSome (entry_at lower entries)) → entry_at (unused_from more (k + 1) entries) entries ≡ None)
      → entry_at (cond b (unused_from more (k + 1) entries) k) entries ≡ None
  by true e behind = behind (λ lower under. elim (cases_lt lower k) [
    | inl low ↦ used lower low
    | inr high ↦
        let same : k ≡ lower = omega (arith, under, high) in
        subst (λ j. IsSome (entry_at j entries)) same e
  ])
  by false e behind = free entries k e

pub least_unused-free : (entries : Entries) → entry_at (least_unused entries) entries ≡ None
least_unused-free entries = found entries (length entries) 0 (omega arith) (λ lower under. absurd (omega (arith, under)))
