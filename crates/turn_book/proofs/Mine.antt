-- A seat's own entries, in a history that goes on.
use Rattle.std.proofs.Common.{◌≡◌, ◌≢◌, ℕ, Bool, cond, List, [], ◌∷◌, ◌++◌, length, drop, filter, ◌==◌, eq-eqb, ne_eqb, sym, refl, ap, ◌∙◌, append_assoc, append-nil}
use Rattle.std.proofs.lemmas.List.Elements.{filter-append}
use Rattle.turn_book.specs.Views.{Each, BeginsWith}

pub drop_front : {E : Type 0} (xs ys : List E) → drop (length xs) (xs ++ ys) ≡ ys
drop_front [] ys = refl
drop_front (x ∷ xs) ys = drop_front xs ys

module _ {E : Type 0} (who : E → ℕ) (n : ℕ) where
  abbrev is_own : E → Bool
  is_own e = who e == n

  filter_none : (xs : List E) → Each (λ e. who e ≢ n) xs → filter (λ e. who e == n) xs ≡ []
  filter_none [] h = refl
  filter_none (x ∷ xs) h = ap (λ b. cond b (x ∷ filter is_own xs) (filter is_own xs)) (ne_eqb (who x) n h.0) ∙ filter_none xs h.1

  filter_all : (xs : List E) → Each (λ e. who e ≡ n) xs → filter (λ e. who e == n) xs ≡ xs
  filter_all [] h = refl
  filter_all (x ∷ xs) h = ap (λ b. cond b (x ∷ filter is_own xs) (filter is_own xs)) (eq-eqb (who x) n h.0) ∙ ap (λ l. x ∷ l) (filter_all xs h.1)

  -- behind the opening
  own_more : (start seen more : List E) → BeginsWith seen start
      → filter (λ e. who e == n) (drop (length start) (seen ++ more)) ≡ filter (λ e. who e == n) (drop (length start) seen) ++ filter (λ e. who e == n) more
  own_more start seen more begins =
      let whole : drop (length start) (seen ++ more) ≡ begins.0 ++ more = ap (λ l. drop (length start) (l ++ more)) begins.1 ∙ ap (drop (length start)) (append_assoc start begins.0 more) ∙ drop_front start (begins.0 ++ more) in
      let front : drop (length start) seen ≡ begins.0 = ap (drop (length start)) begins.1 ∙ drop_front start begins.0 in
      ap (filter is_own) whole ∙ filter-append is_own begins.0 more ∙ ap (λ l. filter is_own l ++ filter is_own more) (sym front)

  pub own_stays : (start seen more history : List E) → BeginsWith seen start → history ≡ seen ++ more → Each (λ e. who e ≢ n) more
      → filter (λ e. who e == n) (drop (length start) history) ≡ filter (λ e. who e == n) (drop (length start) seen)
  own_stays start seen more history begins e none_own =
      ap (λ l. filter is_own (drop (length start) l)) e ∙ own_more start seen more begins ∙ ap (λ l. filter is_own (drop (length start) seen) ++ l) (filter_none more none_own) ∙ append-nil _

  pub own_grows : (start seen more history : List E) → BeginsWith seen start → history ≡ seen ++ more → Each (λ e. who e ≡ n) more
      → filter (λ e. who e == n) (drop (length start) history) ≡ filter (λ e. who e == n) (drop (length start) seen) ++ more
  own_grows start seen more history begins e all_own =
      ap (λ l. filter is_own (drop (length start) l)) e ∙ own_more start seen more begins ∙ ap (λ l. filter is_own (drop (length start) seen) ++ l) (filter_all more all_own)

-- what was gained is determined by the two histories
pub same_gain : {E : Type 0} (seen more gained history : List E) → history ≡ seen ++ more → history ≡ seen ++ gained → more ≡ gained
same_gain seen more gained history e d = sym (drop_front seen more) ∙ ap (drop (length seen)) (sym e ∙ d) ∙ drop_front seen gained
