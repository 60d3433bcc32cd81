-- A held action that takes effect goes behind the others.
use Rattle.std.proofs.Common.{◌≡◌, ◌∙◌, ◌+◌, ◌-◌, ◌<◌, ℕ, zero, suc, Bool, true, false, cond, nat_eq, List, [], ◌∷◌, ◌++◌, length, drop, insert, remove, slice_get, position, Some, refl, sym, ap, arith}
use Rattle.std.specs.Option.{option_map_or}
use Rattle.std.specs.Map.{keys_of, values_of, lookup, lookup_key, remove_entry, set_value}
use Rattle.std.proofs.lemmas.Bool.{eqb-true}
use Rattle.std.proofs.lemmas.List.{take_all, drop_all}
use Rattle.std.proofs.lemmas.List.Edits.{length-remove}
use Rattle.indexmap.specs.IndexMap.{move_index}
use Rattle.indexmap.proofs.MapLemmas.{Found-position, remove_entry-first}
use Rattle.indirect_counters.specs.declared.shared_action.SharedAction.{SharedAction}
use Rattle.indirect_counters.specs.Counts.{no_count}
use Rattle.indirect_counters.specs.Entries.{Entries, entry_at}
use Rattle.indirect_counters.specs.Effects.{behind_others, activated}

same-some : {A : Type 0} {x y : A} → Some x ≡ Some y → x ≡ y
same-some e = cc

module _ {X : Type 0} (id : ℕ) where
  -- the key that is found is the id
  key-found : (es : List (ℕ × X)) (w : X) → lookup (nat_eq id) es ≡ Some w → lookup_key (nat_eq id) es ≡ Some id
  key-found [] w found = cc
  key-found (e ∷ es) w found = by (nat_eq id e.0) refl (key-found es w) found where
    by : (b : Bool) → nat_eq id e.0 ≡ b → (lookup (nat_eq id) es ≡ Some w → lookup_key (nat_eq id) es ≡ Some id)
        → cond b (Some e.1) (lookup (nat_eq id) es) ≡ Some w → cond b (Some e.0) (lookup_key (nat_eq id) es) ≡ Some id
    by true same behind here = ap (λ k. Some k) (sym (eqb-true id e.0 same))
    by false same behind here = behind here

  -- an entry is its key and its value
  pair-at : (es : List (ℕ × X)) (i k : ℕ) (w : X) → slice_get (keys_of es) i ≡ Some k → slice_get (values_of es) i ≡ Some w → slice_get es i ≡ Some (k, w)
  pair-at [] i k w key value = cc
  pair-at (e ∷ es) zero k w key value = ap (λ j. Some (j, e.1)) (same-some key) ∙ ap (λ (x : X). Some (k, x)) (same-some value)
  pair-at (e ∷ es) (suc i) k w key value = pair-at es i k w key value

  at_end : (xs : List (ℕ × X)) (n : ℕ) (x : ℕ × X) → length xs ≡ n → insert xs n x ≡ xs ++ x ∷ []
  at_end xs n x long =
      ap (λ l. l ++ x ∷ drop n xs) (take_all n xs (omega (arith, long))) ∙ ap (λ l. xs ++ x ∷ l) (drop_all n xs (omega (arith, long)))

  pub moved_to_end : (es : List (ℕ × X)) (i n : ℕ) (w : X) → position (nat_eq id) (keys_of es) ≡ Some i → lookup (nat_eq id) es ≡ Some w → n + 1 ≡ length es
      → move_index es i n ≡ remove_entry (nat_eq id) es ++ (id, w) ∷ []
  moved_to_end es i n w place found long =
      let at = Found-position (nat_eq id) es i place in
      ap (λ o. option_map_or (λ x. insert (remove es i) n x) o es) (pair-at es i id w (sym at.key ∙ key-found es w found) (sym at.value ∙ found))
      ∙ at_end (remove es i) n (id, w) (omega (arith, length-remove es i at.within, long))
      ∙ ap (λ l. l ++ (id, w) ∷ []) (sym (remove_entry-first (nat_eq id) es i at.first))

  -- with a new value there, the others are the same
  pub remove-set_value : (es : List (ℕ × X)) (w : X) → remove_entry (nat_eq id) (set_value (nat_eq id) es w) ≡ remove_entry (nat_eq id) es
  remove-set_value [] w = refl
  remove-set_value (e ∷ es) w = by (nat_eq id e.0) refl (remove-set_value es w) where
    by : (b : Bool) → nat_eq id e.0 ≡ b → remove_entry (nat_eq id) (set_value (nat_eq id) es w) ≡ remove_entry (nat_eq id) es
        → remove_entry (nat_eq id) (cond b ((e.0, w) ∷ es) (e ∷ set_value (nat_eq id) es w)) ≡ cond b es (e ∷ remove_entry (nat_eq id) es)
    by true same behind = ap (λ b. cond b es ((e.0, w) ∷ remove_entry (nat_eq id) es)) same
    by false same behind = ap (λ b. cond b (set_value (nat_eq id) es w) (e ∷ remove_entry (nat_eq id) (set_value (nat_eq id) es w))) same ∙ ap (λ l. e ∷ l) behind

  pub lookup-set : (es : List (ℕ × X)) (v w : X) → lookup (nat_eq id) es ≡ Some v → lookup (nat_eq id) (set_value (nat_eq id) es w) ≡ Some w
  lookup-set [] v w found = cc
  lookup-set (e ∷ es) v w found = by (nat_eq id e.0) refl (lookup-set es v w) found where
    by : (b : Bool) → nat_eq id e.0 ≡ b → (lookup (nat_eq id) es ≡ Some v → lookup (nat_eq id) (set_value (nat_eq id) es w) ≡ Some w)
        → cond b (Some e.1) (lookup (nat_eq id) es) ≡ Some v → lookup (nat_eq id) (cond b ((e.0, w) ∷ es) (e ∷ set_value (nat_eq id) es w)) ≡ Some w
    by true same behind here = ap (λ b. cond b (Some w) (lookup (nat_eq id) es)) same
    by false same behind here = ap (λ b. cond b (Some e.1) (lookup (nat_eq id) (set_value (nat_eq id) es w))) same ∙ behind here

-- so what the code does is what the definition says
pub activated-is : {entries new : Entries} {i len : ℕ} (id : ℕ) (before : Entries) (entry : SharedAction) → new ≡ move_index entries i (len - 1) → Some i ≡ position (nat_eq id) (keys_of entries)
    → len ≡ length entries → entry_at id before ≡ Some entry → entries ≡ set_value (nat_eq id) before (record entry { held = false; count = no_count }) → new ≡ activated id before
activated-is {entries} {new} {i} {len} id before entry moved place long found set =
    let now = record entry { held = false; count = no_count } in
    let there : lookup (nat_eq id) entries ≡ Some now = ap (λ (es : Entries). lookup (nat_eq id) es) set ∙ lookup-set id before entry now found in
    let at = Found-position (nat_eq id) entries i (sym place) in
    let within : i < length entries = at.within in
    let last : (len - 1) + 1 ≡ length entries = omega (arith, within, long) in
    moved ∙ moved_to_end id entries i (len - 1) now (sym place) there last
    ∙ ap (λ (es : Entries). es ++ (id, now) ∷ []) (ap (λ (es : Entries). remove_entry (nat_eq id) es) set ∙ remove-set_value id before now)
    ∙ ap (λ found. behind_others id found before) (sym found)
