-- What a list collected by number finds under a handle, and how it changes with one number.
use Rattle.std.proofs.Common.{◌≡◌, ◌≢◌, ℕ, zero, suc, ◌<◌, ◌≤◌, [], ◌∷◌, ◌++◌, Option, Some, None, refl, sym, ap, ◌∙◌, inl, inr, arith}
use Rattle.std.proofs.lemmas.Bool.{cases_eq}
use Rattle.std.proofs.lemmas.List.{append-nil}
use Rattle.std.specs.Map.{lookup, remove_entry, set_value}
use Rattle.std.specs.Option.{option_to_list}
use Rattle.slot_pool.specs.declared.handle.Handle.{Handle}
use Rattle.slot_pool.specs.Handle.{same_handle}
use Rattle.slot_pool.specs.Place.{collected}
use Rattle.slot_pool.proofs.Handles.{option_cases, same_handle-other, same_handle_refl, lookup-append_none, lookup-append_some, remove_entry-append_none, remove_entry-append_some, set_value-append_none, set_value-append_some}

module _ {X : Type 0} where
  pub collected-same : (most : ℕ) (f g : ℕ → Option (Handle × X)) → ((n : ℕ) → n < most → f n ≡ g n) → collected most f ≡ collected most g
  collected-same zero f g same = refl
  collected-same (suc n) f g same =
      let here : f n ≡ g n = same n (omega arith) in
      let before = collected-same n f g (λ k below. same k (omega arith)) in
      rw (before, here) refl

  -- each number finds an entry whose handle has that number
  abbrev pub FindsOwn : (ℕ → Option (Handle × X)) → Type 0
  FindsOwn f = (n : ℕ) (e : Handle × X) → f n ≡ Some e → e.0.number ≡ n

  other_number : (f : ℕ → Option (Handle × X)) (q : Handle) (n : ℕ) → FindsOwn f → n ≢ q.number → lookup (same_handle q) (option_to_list (f n)) ≡ None
  other_number f q n own differs =
      elim (option_cases (f n)) [
        | inl none ↦ rw none refl
        | inr some ↦
            let apart : q ≢ some.0.0 = λ e. differs (sym (own n some.0 some.1) ∙ ap (λ h. h.number) (sym e)) in
            rw (some.1, same_handle-other q some.0.0 apart) refl
      ]

  pub lookup-collected_above : (most : ℕ) (f : ℕ → Option (Handle × X)) (q : Handle) → FindsOwn f → most ≤ q.number → lookup (same_handle q) (collected most f) ≡ None
  lookup-collected_above zero f q own above = refl
  lookup-collected_above (suc n) f q own above =
      lookup-append_none (same_handle q) (collected n f) _ (lookup-collected_above n f q own (omega arith))
      ∙ other_number f q n own (λ e. omega arith)

  pub lookup-collected : (most : ℕ) (f : ℕ → Option (Handle × X)) (q : Handle) → FindsOwn f → q.number < most → lookup (same_handle q) (collected most f) ≡ lookup (same_handle q) (option_to_list (f q.number))
  lookup-collected zero f q own below = absurd (omega arith)
  lookup-collected (suc n) f q own below =
      elim (cases_eq n q.number) [
        | inl same ↦
            lookup-append_none (same_handle q) (collected n f) _ (lookup-collected_above n f q own (omega arith))
            ∙ ap (λ k. lookup (same_handle q) (option_to_list (f k))) same
        | inr differs ↦ earlier differs (lookup-collected n f q own (omega arith))
      ]
    where
      earlier : n ≢ q.number → lookup (same_handle q) (collected n f) ≡ lookup (same_handle q) (option_to_list (f q.number)) → lookup (same_handle q) (collected (suc n) f) ≡ lookup (same_handle q) (option_to_list (f q.number))
      earlier differs before =
          elim (option_cases (lookup (same_handle q) (collected n f))) [
            | inl none ↦
                lookup-append_none (same_handle q) (collected n f) _ none ∙ other_number f q n own differs ∙ sym none ∙ before
            | inr some ↦ lookup-append_some (same_handle q) (collected n f) _ some.0 some.1 ∙ sym some.1 ∙ before
          ]

  lookup_one : (q : Handle) (x : X) → lookup (same_handle q) ((q, x) ∷ []) ≡ Some x
  lookup_one q x = rw (same_handle_refl q) refl

  -- one number finds nothing any more
  pub collected-without : (most : ℕ) (f g : ℕ → Option (Handle × X)) (q : Handle) (x : X) → FindsOwn f → f q.number ≡ Some (q, x) → g q.number ≡ None → ((n : ℕ) → n ≢ q.number → g n ≡ f n) → q.number < most → collected most g ≡ remove_entry (same_handle q) (collected most f)
  collected-without zero f g q x own found gone others below = absurd (omega arith)
  collected-without (suc n) f g q x own found gone others below =
      elim (cases_eq n q.number) [
        | inl same ↦
            let here : f n ≡ Some (q, x) = ap f same ∙ found in
            let now : g n ≡ None = ap g same ∙ gone in
            let before : collected n g ≡ collected n f = collected-same n g f (λ k less. others k (λ e. omega arith)) in
            let none = lookup-collected_above n f q own (omega arith) in
            rw (now, here) (append-nil (collected n g) ∙ before ∙ sym (append-nil (collected n f)) ∙ sym (remove_entry-append_none (same_handle q) (collected n f) ((q, x) ∷ []) none ∙ ap (λ l. collected n f ++ l) (removed q x)))
        | inr differs ↦
            let before = collected-without n f g q x own found gone others (omega arith) in
            let there = lookup-collected n f q own (omega arith) ∙ ap (λ o. lookup (same_handle q) (option_to_list o)) found ∙ lookup_one q x in
            rw (others n differs, before) (sym (remove_entry-append_some (same_handle q) (collected n f) (option_to_list (f n)) x there))
      ]
    where
      removed : (q : Handle) (x : X) → remove_entry (same_handle q) ((q, x) ∷ []) ≡ []
      removed q x = rw (same_handle_refl q) refl

  -- one number finds another value under its handle
  pub collected-with : (most : ℕ) (f g : ℕ → Option (Handle × X)) (q : Handle) (x w : X) → FindsOwn f → f q.number ≡ Some (q, x) → g q.number ≡ Some (q, w) → ((n : ℕ) → n ≢ q.number → g n ≡ f n) → q.number < most → collected most g ≡ set_value (same_handle q) (collected most f) w
  collected-with zero f g q x w own found written others below = absurd (omega arith)
  collected-with (suc n) f g q x w own found written others below =
      elim (cases_eq n q.number) [
        | inl same ↦
            let here : f n ≡ Some (q, x) = ap f same ∙ found in
            let now : g n ≡ Some (q, w) = ap g same ∙ written in
            let before : collected n g ≡ collected n f = collected-same n g f (λ k less. others k (λ e. omega arith)) in
            let none = lookup-collected_above n f q own (omega arith) in
            rw (now, here) (ap (λ l. l ++ (q, w) ∷ []) before ∙ sym (set_value-append_none (same_handle q) (collected n f) ((q, x) ∷ []) w none ∙ ap (λ l. collected n f ++ l) (changed q x w)))
        | inr differs ↦
            let before = collected-with n f g q x w own found written others (omega arith) in
            let there = lookup-collected n f q own (omega arith) ∙ ap (λ o. lookup (same_handle q) (option_to_list o)) found ∙ lookup_one q x in
            rw (others n differs, before) (sym (set_value-append_some (same_handle q) (collected n f) (option_to_list (f n)) w x there))
      ]
    where
      changed : (q : Handle) (x w : X) → set_value (same_handle q) ((q, x) ∷ []) w ≡ (q, w) ∷ []
      changed q x w = rw (same_handle_refl q) refl
