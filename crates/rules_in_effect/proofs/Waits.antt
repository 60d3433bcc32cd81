-- What is found by ids, and by ids that wait.
use Rattle.std.proofs.Common.{◌≡◌, ◌≢◌, ℕ, ◌+◌, ◌-◌, ◌<◌, Bool, true, false, cond, not, nat_eq, filter, fold, take, length, List, [], ◌∷◌, ◌++◌, Option, None, Some, refl, sym, ap, ◌∙◌, arith, inl, inr}
use Rattle.std.specs.List.{slice_get}
use Rattle.std.specs.Option.{option_or}
use Rattle.std.proofs.lemmas.Bool.{ne_eqb}
use Rattle.std.proofs.lemmas.Bool.Decides.{eqb_tells}
use Rattle.std.proofs.lemmas.List.{take_more, take_all}
use Rattle.std.proofs.lemmas.List.Sums.{fold-append}
use Rattle.std.proofs.lemmas.Option.{get_or_from_slice_get, slice_get_within}
use Rattle.slot_pool.specs.declared.handle.Handle.{Handle}
use Rattle.rules_in_effect.specs.declared.index.Waiting.{Waiting}
use Rattle.rules_in_effect.specs.IdIndex.{next_named, named, placed, found}

-- one that waits more
pub named-push : (id : ℕ) (waiting : List Waiting) (waits : Waiting) → named id (waiting ++ waits ∷ []) ≡ next_named id (named id waiting) waits
named-push id waiting waits = fold-append (next_named id) None waiting (waits ∷ [])

-- the last one apart
pub last-apart : (waiting : List Waiting) (last : Waiting) → slice_get waiting (length waiting - 1) ≡ Some last → waiting ≡ take (length waiting - 1) waiting ++ last ∷ []
last-apart waiting last is =
    let within : length waiting - 1 < length waiting = slice_get_within waiting (length waiting - 1) last is in
    sym (take_all (length waiting - 1 + 1) waiting (omega (arith, within)))
    ∙ take_more waiting (length waiting - 1) last within
    ∙ ap (λ x. take (length waiting - 1) waiting ++ x ∷ []) (get_or_from_slice_get waiting (length waiting - 1) last last is)

-- the handles of an id are those so far where it waits no more
named-forgotten : (id : ℕ) (so_far : Option Handle) (waiting : List Waiting) → fold (next_named id) so_far (filter (λ waits. not (nat_eq waits.id id)) waiting) ≡ so_far
named-forgotten id so_far [] = refl
named-forgotten id so_far (waits ∷ waiting) =
    let rest = filter (λ (waits : Waiting). not (nat_eq waits.id id)) waiting in
    elim (eqb_tells waits.id id) [
      | inl same ↦ ap (λ b. fold (next_named id) so_far (cond (not b) (waits ∷ rest) rest)) same.0 ∙ named-forgotten id so_far waiting
      | inr apart ↦
          ap (λ b. fold (next_named id) so_far (cond (not b) (waits ∷ rest) rest)) apart.0
          ∙ ap (λ b. fold (next_named id) (cond b (Some waits.handle) so_far) rest) apart.0
          ∙ named-forgotten id so_far waiting
    ]

named-others : (id other : ℕ) (so_far : Option Handle) (waiting : List Waiting) → other ≢ id
    → fold (next_named other) so_far (filter (λ waits. not (nat_eq waits.id id)) waiting) ≡ fold (next_named other) so_far waiting
named-others id other so_far [] differs = refl
named-others id other so_far (waits ∷ waiting) differs =
    let rest = filter (λ (waits : Waiting). not (nat_eq waits.id id)) waiting in
    elim (eqb_tells waits.id id) [
      | inl same ↦
          ap (λ b. fold (next_named other) so_far (cond (not b) (waits ∷ rest) rest)) same.0
          ∙ named-others id other so_far waiting differs
          ∙ ap (λ b. fold (next_named other) (cond b (Some waits.handle) so_far) waiting) (sym (ne_eqb waits.id other (λ e. differs (sym e ∙ same.1))))
      | inr apart ↦
          ap (λ b. fold (next_named other) so_far (cond (not b) (waits ∷ rest) rest)) apart.0
          ∙ named-others id other (next_named other so_far waits) waiting differs
    ]

-- an id that waits no more and has nothing in its place
pub found-forgotten : (id : ℕ) (places : List (Option Handle)) (waiting left : List Waiting) → placed places id ≡ None
    → left ≡ filter (λ waits. not (nat_eq waits.id id)) waiting → found places left id ≡ None
found-forgotten id places waiting left gone is = ap (λ p. option_or p (named id left)) gone ∙ ap (named id) is ∙ named-forgotten id None waiting

pub found-others : (id other : ℕ) (was places : List (Option Handle)) (waiting left : List Waiting) → other ≢ id → placed places other ≡ placed was other
    → left ≡ filter (λ waits. not (nat_eq waits.id id)) waiting → found places left other ≡ found was waiting other
found-others id other was places waiting left differs same is =
    ap (λ p. option_or p (named other left)) same ∙ ap (option_or (placed was other)) (ap (named other) is ∙ named-others id other None waiting differs)

-- the one that waits last is placed
or-next : (id : ℕ) (place so_far : Option Handle) (waits : Waiting) → option_or (option_or place (next_named id None waits)) so_far ≡ option_or place (next_named id so_far waits)
or-next id None so_far waits = by (nat_eq waits.id id) where
  by : (b : Bool) → option_or (cond b (Some waits.handle) None) so_far ≡ cond b (Some waits.handle) so_far
  by true = refl
  by false = refl
or-next id (Some h) so_far waits = refl

pub found-settled : (id : ℕ) (was places : List (Option Handle)) (waiting left : List Waiting) (waits : Waiting) → placed places id ≡ option_or (placed was id) (next_named id None waits)
    → waiting ≡ left ++ waits ∷ [] → found places left id ≡ found was waiting id
found-settled id was places waiting left waits settled is =
    ap (λ p. option_or p (named id left)) settled
    ∙ or-next id (placed was id) (named id left) waits
    ∙ ap (option_or (placed was id)) (sym (ap (named id) is ∙ named-push id left waits))
