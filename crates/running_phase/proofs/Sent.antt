-- What a caller sends, as its entries grow.
use Rattle.std.proofs.Common.{◌≡◌, ℕ, ◌==◌, if◌then◌else◌, Bool, true, false, cond, Option, List, [], ◌∷◌, ◌++◌, length, append_assoc, append-nil, sym, refl, ap, ◌∙◌, arith}
use Rattle.std.proofs.lemmas.List.{length-append}
use Rattle.capture_files.specs.Record.{Frame}
use Rattle.flow_rules.specs.declared.limits.Limits.{Limits}
use Rattle.flow_calls.specs.declared.entry.Entry.{Entry}
use Rattle.flow_calls.specs.Entries.{caller_of, entries_by}
use Rattle.flow_calls.proofs.Entries.{entries_by-append}
use Rattle.running_phase.specs.Sends.{sends, sent_by}

module _ (who : ℕ) (limits : Limits) (look : ℕ → Option Frame) where
  pub sent_by-append : (before xs ys : List Entry) → sent_by who limits look before (xs ++ ys) ≡ sent_by who limits look before xs ++ sent_by who limits look (before ++ xs) ys
  sent_by-append before [] ys = ap (λ l. sent_by who limits look l ys) (sym (append-nil before))
  sent_by-append before (e ∷ xs) ys =
      let mine = if caller_of e == who then sends limits look before e else [] in
      let first = before ++ e ∷ [] in
      ap (λ l. mine ++ l) (sent_by-append first xs ys ∙ ap (λ l. sent_by who limits look first xs ++ sent_by who limits look l ys) (append_assoc before (e ∷ []) xs))
      ∙ sym (append_assoc mine (sent_by who limits look first xs) (sent_by who limits look (before ++ e ∷ xs) ys))

  -- who has no entry sends nothing
  pub sent_by-none : (before xs : List Entry) → entries_by who xs ≡ [] → sent_by who limits look before xs ≡ []
  sent_by-none before [] none = refl
  sent_by-none before (e ∷ xs) none = by (caller_of e == who) none (sent_by-none (before ++ e ∷ []) xs)
    where
      by : (b : Bool) → cond b (e ∷ entries_by who xs) (entries_by who xs) ≡ [] → (entries_by who xs ≡ [] → sent_by who limits look (before ++ e ∷ []) xs ≡ [])
          → (if b then sends limits look before e else []) ++ sent_by who limits look (before ++ e ∷ []) xs ≡ []
      by true h rest = absurd (cc)
      by false h rest = rest h

  -- where a caller has no further entry, it sends nothing more
  pub sent_by-kept : (before xs more : List Entry) → entries_by who (xs ++ more) ≡ entries_by who xs → sent_by who limits look before (xs ++ more) ≡ sent_by who limits look before xs
  sent_by-kept before xs more same =
      sent_by-append before xs more
      ∙ ap (λ l. sent_by who limits look before xs ++ l) (sent_by-none (before ++ xs) more (nothing_more (entries_by who xs) (entries_by who more) (sym (entries_by-append who xs more) ∙ same)))
      ∙ append-nil (sent_by who limits look before xs)
    where
      nothing_more : (xs ys : List Entry) → xs ++ ys ≡ xs → ys ≡ []
      nothing_more xs [] e = refl
      nothing_more xs (y ∷ ys) e = let longer = ap length e in let sum = length-append xs (y ∷ ys) in absurd (omega arith)
