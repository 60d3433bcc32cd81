-- The first slot of an id, by its place, and the ids of slots.
use Rattle.std.proofs.Common.{◌≡◌, ◌∙◌, ℕ, ◌+◌, ◌<◌, ◌≤◌, ◌⊎◌, inl, inr, Bool, true, false, cond, nat_eq, List, [], ◌∷◌, ◌++◌, take, drop, get_or, set, length, is_some, Option, None, Some, IsSome, refl, sym, ap, arith}
use Rattle.std.proofs.lemmas.List.{take-append-drop, drop_more, take_more, length-take, get_or_default}
use Rattle.std.proofs.lemmas.Bool.{eqb-true}
use Rattle.std.proofs.lemmas.Bool.Decides.{eqb_tells}
use Rattle.std.proofs.Math.Numerals.{add-one}
use Rattle.std.proofs.Math.Seq.{set-append_seam}
use Rattle.std.specs.Map.{lookup, remove_entry, set_value}
use Rattle.template_tables.specs.Slots.{IsAbove, IsFirstAt}
use Rattle.template_tables.specs.TableInside.{IsUpTo}

module _ {X : Type 0} (test : ℕ → Bool) where
  head_fails : (x : ℕ × X) (xs : List (ℕ × X)) → lookup test (x ∷ xs) ≡ None → (test x.0 ≡ false) × (lookup test xs ≡ None)
  head_fails x xs none = by (test x.0) refl none
    where
      by : (b : Bool) → test x.0 ≡ b → cond b (Some x.1) (lookup test xs) ≡ None → (test x.0 ≡ false) × (lookup test xs ≡ None)
      by true e none = cc
      by false e none = (e, none)

  -- an entry that passes, behind others of which none does
  lookup-behind : (xs ys : List (ℕ × X)) (e : ℕ × X) → lookup test xs ≡ None → test e.0 ≡ true → lookup test (xs ++ e ∷ ys) ≡ Some e.1
  lookup-behind [] ys e none here = ap (λ b. cond b (Some e.1) (lookup test ys)) here
  lookup-behind (x ∷ xs) ys e none here =
      let fails = head_fails x xs none in
      ap (λ b. cond b (Some x.1) (lookup test (xs ++ e ∷ ys))) fails.0 ∙ lookup-behind xs ys e fails.1 here

  pub remove-behind : (xs ys : List (ℕ × X)) (e : ℕ × X) → lookup test xs ≡ None → test e.0 ≡ true → remove_entry test (xs ++ e ∷ ys) ≡ xs ++ ys
  remove-behind [] ys e none here = ap (λ b. cond b ys (e ∷ remove_entry test ys)) here
  remove-behind (x ∷ xs) ys e none here =
      let fails = head_fails x xs none in
      ap (λ b. cond b (xs ++ e ∷ ys) (x ∷ remove_entry test (xs ++ e ∷ ys))) fails.0 ∙ ap (λ l. x ∷ l) (remove-behind xs ys e fails.1 here)

  set-behind : (xs ys : List (ℕ × X)) (e : ℕ × X) (w : X) → lookup test xs ≡ None → test e.0 ≡ true → set_value test (xs ++ e ∷ ys) w ≡ xs ++ (e.0, w) ∷ ys
  set-behind [] ys e w none here = ap (λ b. cond b ((e.0, w) ∷ ys) (e ∷ set_value test ys w)) here
  set-behind (x ∷ xs) ys e w none here =
      let fails = head_fails x xs none in
      ap (λ b. cond b ((x.0, w) ∷ xs ++ e ∷ ys) (x ∷ set_value test (xs ++ e ∷ ys) w)) fails.0 ∙ ap (λ l. x ∷ l) (set-behind xs ys e w fails.1 here)

  -- one more that doesn't pass
  pub lookup-more : (xs : List (ℕ × X)) (e : ℕ × X) → lookup test xs ≡ None → test e.0 ≡ false → lookup test (xs ++ e ∷ []) ≡ None
  lookup-more [] e none fails = ap (λ b. cond b (Some e.1) None) fails
  lookup-more (x ∷ xs) e none fails =
      let first = head_fails x xs none in
      ap (λ b. cond b (Some x.1) (lookup test (xs ++ e ∷ []))) first.0 ∙ lookup-more xs e first.1 fails

  weaker : (c : Bool) (v : X) (a : Option X) → IsSome a → IsSome (cond c (Some v) a)
  weaker true v a some = refl
  weaker false v a some = some

  keep : (c : Bool) (v w : X) (a b : Option X) → (IsSome a → IsSome b) → IsSome (cond c (Some v) a) → IsSome (cond c (Some w) b)
  keep true v w a b rest some = refl
  keep false v w a b rest some = rest some

  -- what is found behind a removal, or a write, was there before
  pub some-removed : (other : ℕ → Bool) (xs : List (ℕ × X)) → IsSome (lookup other (remove_entry test xs)) → IsSome (lookup other xs)
  some-removed other [] some = some
  some-removed other (x ∷ xs) some = by (test x.0) (some-removed other xs) some
    where
      by : (b : Bool) → (IsSome (lookup other (remove_entry test xs)) → IsSome (lookup other xs))
          → IsSome (lookup other (cond b xs (x ∷ remove_entry test xs))) → IsSome (lookup other (x ∷ xs))
      by true rest some = weaker (other x.0) x.1 (lookup other xs) some
      by false rest some = keep (other x.0) x.1 x.1 (lookup other (remove_entry test xs)) (lookup other xs) rest some

  pub some-written : (other : ℕ → Bool) (xs : List (ℕ × X)) (w : X) → IsSome (lookup other (set_value test xs w)) → IsSome (lookup other xs)
  some-written other [] w some = some
  some-written other (x ∷ xs) w some = by (test x.0) (some-written other xs w) some
    where
      by : (b : Bool) → (IsSome (lookup other (set_value test xs w)) → IsSome (lookup other xs))
          → IsSome (lookup other (cond b ((x.0, w) ∷ xs) (x ∷ set_value test xs w))) → IsSome (lookup other (x ∷ xs))
      by true rest some = keep (other x.0) w x.1 (lookup other xs) (lookup other xs) (λ h. h) some
      by false rest some = keep (other x.0) x.1 x.1 (lookup other (set_value test xs w)) (lookup other xs) rest some

  -- what is found where one more stands was there before, or is that one
  pub some-pushed : (xs : List (ℕ × X)) (e : ℕ × X) → IsSome (lookup test (xs ++ e ∷ [])) → IsSome (lookup test xs) ⊎ (test e.0 ≡ true)
  some-pushed [] e some = by (test e.0) refl some
    where
      by : (b : Bool) → test e.0 ≡ b → IsSome (cond {A = Option X} b (Some e.1) None) → IsSome (lookup {X = X} test []) ⊎ (test e.0 ≡ true)
      by true h some = inr h
      by false h some = inl some
  some-pushed (x ∷ xs) e some = by (test x.0) (some-pushed xs e) some
    where
      by : (b : Bool) → (IsSome (lookup test (xs ++ e ∷ [])) → IsSome (lookup test xs) ⊎ (test e.0 ≡ true))
          → IsSome (cond {A = Option X} b (Some x.1) (lookup test (xs ++ e ∷ []))) → IsSome (cond {A = Option X} b (Some x.1) (lookup test xs)) ⊎ (test e.0 ≡ true)
      by true rest some = inl refl
      by false rest some = rest some

front_long : {X : Type 0} (xs : List X) (place : ℕ) → place < length xs → length (take place xs) ≡ place
front_long xs place within = length-take place xs ∙ omega (arith, within)

-- the first slot of an id, where those in front have other ids
pub first_at : {X : Type 0} (id : ℕ) (slots : List (ℕ × X)) (place : ℕ) (slot : ℕ × X) → place < length slots → slot ≡ get_or slots place slot
    → lookup (nat_eq id) (take place slots) ≡ None → nat_eq id slot.0 ≡ true → IsFirstAt id slots place
first_at {X} id slots place slot within is none here =
    let front = take place slots in
    let rest = drop (place + 1) slots in
    let split : slots ≡ front ++ slot ∷ rest
    = sym (take-append-drop place slots) ∙ ap (λ l. front ++ l) (drop_more slots place slot within ∙ ap (λ s. s ∷ rest) (sym is)) in
    record {
      within = within;
      slot = λ entry. ap (lookup (nat_eq id)) split ∙ lookup-behind (nat_eq id) front rest slot none here ∙ ap (λ s. Some s.1) (is ∙ get_or_default slots place slot entry within);
      without = ap (λ n. front ++ drop n slots) (sym (add-one place)) ∙ sym (ap (remove_entry (nat_eq id)) split ∙ remove-behind (nat_eq id) front rest slot none here);
      written = λ value.
          ap (λ l. set l place (id, value)) split
          ∙ ap (λ n. set (front ++ slot ∷ rest) n (id, value)) (sym (front_long slots place within))
          ∙ set-append_seam front slot rest (id, value)
          ∙ ap (λ n. front ++ (n, value) ∷ rest) (eqb-true id slot.0 here)
          ∙ sym (ap (λ l. set_value (nat_eq id) l value) split ∙ set-behind (nat_eq id) front rest slot value none here);
    }

above_all : (greatest : Option ℕ) (id : ℕ) → IsUpTo greatest id → IsAbove id greatest → ⊥
above_all None id upto above = upto
above_all (Some most) id upto above = omega (arith, upto, above)

-- an id above the greatest has no slot
pub no_slot : {X : Type 0} (slots : List (ℕ × X)) (greatest : Option ℕ) (id : ℕ) → ((k : ℕ) → IsSome (lookup (nat_eq k) slots) → IsUpTo greatest k)
    → IsAbove id greatest → lookup (nat_eq id) slots ≡ None
no_slot {X} slots greatest id below above = by (lookup (nat_eq id) slots) refl
  where
    by : (r : Option X) → lookup (nat_eq id) slots ≡ r → lookup (nat_eq id) slots ≡ None
    by None e = e
    by (Some x) e = absurd (above_all greatest id (below id (ap is_some e)) above)

up_to : (greatest : Option ℕ) (id k : ℕ) → IsAbove id greatest → IsUpTo greatest k → k ≤ id
up_to None id k above upto = absurd upto
up_to (Some most) id k above upto = omega (arith, upto, above)

-- with a slot for an id above the greatest, that one is the greatest
pub below_pushed : {X : Type 0} (slots : List (ℕ × X)) (greatest : Option ℕ) (id : ℕ) (slot : X) → ((k : ℕ) → IsSome (lookup (nat_eq k) slots) → IsUpTo greatest k)
    → IsAbove id greatest → (k : ℕ) → IsSome (lookup (nat_eq k) (slots ++ (id, slot) ∷ [])) → k ≤ id
below_pushed slots greatest id slot below above k some = elim (some-pushed (nat_eq k) slots (id, slot) some) [
  | inl old ↦ up_to greatest id k above (below k old)
  | inr new ↦ omega (arith, eqb-true k id new)
]

-- one more slot of another id
pub none_more : {X : Type 0} (id : ℕ) (slots : List (ℕ × X)) (place : ℕ) (slot : ℕ × X) → place < length slots → slot ≡ get_or slots place slot
    → lookup (nat_eq id) (take place slots) ≡ None → (slot.0 ≡ id → ⊥) → lookup (nat_eq id) (take (place + 1) slots) ≡ None
none_more id slots place slot within is none other =
    ap (lookup (nat_eq id)) (take_more slots place slot within ∙ ap (λ s. take place slots ++ s ∷ []) (sym is))
    ∙ lookup-more (nat_eq id) (take place slots) slot none (elim (eqb_tells id slot.0) [
      | inl same ↦ absurd (other (sym same.1))
      | inr apart ↦ apart.0
    ])
