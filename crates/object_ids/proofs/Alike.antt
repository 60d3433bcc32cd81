-- Objects of two kinds that use the same ids.
use Rattle.std.proofs.Common.{◌≡◌, ◌+◌, ◌∙◌, ◌++◌, ℕ, zero, suc, nat_le, length, if◌then◌else◌, List, Option, None, Some, refl, ap}
use Rattle.flow_rules.specs.declared.fault.Cause.TheVariants as causes
use Rattle.flow_rules.specs.Faults.{fault_if}
use Rattle.object_ids.specs.Ids.{is_used, unused_from, least_unused, id_for, is_taken, id_faults}

module _ {S T : Type 0} (xs : List (ℕ × S)) (ys : List (ℕ × T)) (used : (id : ℕ) → is_used id xs ≡ is_used id ys) where
  -- the search finds the same id
  unused_from-alike : (more id : ℕ) → unused_from more id xs ≡ unused_from more id ys
  unused_from-alike zero id = refl
  unused_from-alike (suc more) id =
      ap (λ b. if b then unused_from more (id + 1) xs else id) (used id) ∙ ap (λ n. if is_used id ys then n else id) (unused_from-alike more (id + 1))

  -- the same id is taken
  is_taken-alike : (given : Option ℕ) → is_taken given xs ≡ is_taken given ys
  is_taken-alike None = refl
  is_taken-alike (Some id) = used id

  -- where there are as many objects, the least unused id is the same
  pub least_unused-alike : length xs ≡ length ys → least_unused xs ≡ least_unused ys
  least_unused-alike long = ap (λ n. unused_from n 0 xs) long ∙ unused_from-alike (length ys) 0

  -- a new object gets the same id
  pub id_for-alike : (given : Option ℕ) → length xs ≡ length ys → id_for given xs ≡ id_for given ys
  id_for-alike None long = least_unused-alike long
  id_for-alike (Some id) long = refl

  -- and it has the same faults
  pub id_faults-alike : (most : ℕ) (given : Option ℕ) → length xs ≡ length ys → id_faults most given xs ≡ id_faults most given ys
  id_faults-alike most given long =
      ap (λ b. fault_if b causes.IdInUse 0 ++ fault_if (nat_le most (length xs)) causes.TooMany 0) (is_taken-alike given)
      ∙ ap (λ n. fault_if (is_taken given ys) causes.IdInUse 0 ++ fault_if (nat_le most n) causes.TooMany 0) long
