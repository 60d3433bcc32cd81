-- What a look at the served ticket told, for a seat that is known to wait.
use Rattle.std.proofs.Common.{◌≡◌, ◌≢◌, ℕ, true, false, List, [], ◌∷◌, Option, Some, None, refl, sym, subst, subst₂, ap, ◌++◌, ◌∙◌, ◌-◌}
use mathlib.Core.Option.{none}
use Rattle.atomic_table.specs.Table.{Me, Step, step}
use Rattle.turn_book.specs.declared.view.Knows.{Knows}
use Rattle.turn_book.specs.Views.{Each, place, knows}
use Rattle.turn_book.specs.Rule.{Saw}
use Rattle.turn_book.proofs.Holders.{some_same}
use Rattle.turn_book.specs.Plays.{looked, with_ticket}

pub drawn_from : {M E F : Type 0} (number l ticket : ℕ) (seen o : List E) (f : Option F) (me after : Me (Option M) (Knows E F)) → me ≡ (knows (place number l seen ∷ []) None false o f, [])
    → after ≡ (with_ticket ticket me.0, me.1) → after ≡ (knows (place number (l - 1) seen ∷ []) (Some ticket) false o f, [])
drawn_from {M = M} {E = E} {F = F} number l ticket seen o f me after e told = told ∙ ap (λ (m : Me (Option M) (Knows E F)). (with_ticket ticket m.0, m.1)) e

abbrev first_slot : {M : Type 0} → List (ℕ × Option M) → Option M
first_slot [] = None
first_slot (x ∷ xs) = x.1

module _ {M E F : Type 0} (entries : M → List E) (fixed : M → F) (owner : F → E → ℕ) where
  -- `looked` asks nothing of the step's own record
  abbrev unsaid : Step (Option M)
  unsaid = step 0 0 0 0 none

  -- the value came out
  pub record Took (number l ticket : ℕ) (seen o : List E) (f : Option F) (after : Me (Option M) (Knows E F)) : Type 0 where
    pub value : M
    pub now : after ≡ (knows (place number l (entries value) ∷ []) (Some ticket) true o f, (0, Some value) ∷ [])
    pub same : f ≡ Some (fixed value)
    pub saw : Saw (owner (fixed value)) (entries value) (place number l seen)

  pub took : (number l ticket found : ℕ) (seen o : List E) (f : Option F) (me after : Me (Option M) (Knows E F)) → me ≡ (knows (place number l seen ∷ []) (Some ticket) false o f, [])
      → looked entries fixed owner unsaid me found after → found ≡ ticket → Took number l ticket seen o f after
  took number l ticket found seen o f me after e told same =
      let at : looked entries fixed owner unsaid (knows (place number l seen ∷ []) (Some ticket) false o f, []) found after = subst (λ m. looked entries fixed owner unsaid m found after) e told in
      let h = (at ticket refl).0 same in
      record { value = h.0; now = h.1; same = h.2; saw = h.3.0 }

  pub stayed : (number l ticket found : ℕ) (seen o : List E) (f : Option F) (me after : Me (Option M) (Knows E F)) → me ≡ (knows (place number l seen ∷ []) (Some ticket) false o f, [])
      → looked entries fixed owner unsaid me found after → found ≢ ticket → after ≡ (knows (place number l seen ∷ []) (Some ticket) false o f, [])
  stayed number l ticket found seen o f me after e told other =
      let at : looked entries fixed owner unsaid (knows (place number l seen ∷ []) (Some ticket) false o f, []) found after = subst (λ m. looked entries fixed owner unsaid m found after) e told in
      (at ticket refl).1 other

  -- the value that the exchange found in the slot
  pub taken : (number l ticket : ℕ) (seen o : List E) (f : Option F) (me : Me (Option M) (Knows E F)) (t : Took number l ticket seen o f me) (found : Option M) (slots : List (ℕ × Option M)) (value : M)
      → me.1 ≡ (0, found) ∷ slots → found ≡ Some value → t.value ≡ value
  taken number l ticket seen o f me t found slots value e is = some_same t.value value (sym (ap (λ (m : Me (Option M) (Knows E F)). first_slot m.1) t.now) ∙ ap first_slot e ∙ is)

  -- the value begins with what was seen, and no later entry is the seat's own
  pub goes_on : (number l ticket : ℕ) (seen o : List E) (part : F) (me : Me (Option M) (Knows E F)) (t : Took number l ticket seen o (Some part) me) (value : M) → t.value ≡ value
      → (between : List E) × (entries value ≡ seen ++ between) × Each (λ e. owner part e ≢ number) between
  goes_on number l ticket seen o part me t value same =
      let fixed_same : fixed t.value ≡ part = sym (some_same part (fixed t.value) t.same) in
      let P : M → F → Type 0 = λ v p. (between : List E) × (entries v ≡ seen ++ between) × Each (λ e. owner p e ≢ number) between in
      subst₂ P same fixed_same t.saw
