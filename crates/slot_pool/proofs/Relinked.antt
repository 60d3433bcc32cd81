-- What linking and unlinking one handle does to the list that the links join.
use Rattle.std.proofs.Common.{◌≡◌, ◌≢◌, List, [], ◌∷◌, ◌++◌, Option, Some, None, refl, sym, ap, subst, ◌∙◌, inl, inr, Contains}
use Rattle.std.proofs.lemmas.List.Elements.{Contains-push}
use Rattle.std.proofs.lemmas.List.{append_assoc, append-nil}
use Rattle.slot_pool.specs.declared.handle.Handle.{Handle}
use Rattle.slot_pool.specs.declared.chain.Link.{Link}
use Rattle.slot_pool.specs.declared.chain.Side.TheVariants as sides
use Rattle.slot_pool.specs.Links.{first_or, last_or, Joins}
use Rattle.slot_pool.specs.Place.{link_changed, or_handle, end_without}
use Rattle.slot_pool.proofs.Joined.{Contains-head, Contains-tail, last_cases, last_or-append, Joins-split, Joins-append, Joins-linked, Joins-kept, head_is_once, parts_are_apart}

-- `now` has this link at the handle, and else what `at` has
pub record Sets (at now : Handle → Option Link) (handle : Handle) (link : Option Link) : Type 0 where
  pub here : now handle ≡ link
  pub others : (q : Handle) → q ≢ handle → now q ≡ at q

-- the same at the handle that an option has, and nothing changed where it has none
abbrev pub SetsAt : (Handle → Option Link) → (Handle → Option Link) → Option Handle → (Option Link → Option Link) → Type 0
SetsAt at now None change = (q : Handle) → now q ≡ at q
SetsAt at now (Some handle) change = Sets at now handle (change (at handle))

pub last_or-push : (before : Option Handle) (xs : List Handle) (x : Handle) → last_or before (xs ++ x ∷ []) ≡ Some x
last_or-push before xs x = last_or-append before xs (x ∷ [])

-- a change of one handle keeps a list that it is not in
kept_elsewhere : (at now : Handle → Option Link) (handle : Handle) (link : Option Link) (before : Option Handle) (xs : List Handle) (after : Option Handle) → Sets at now handle link → (Contains xs handle → ⊥) → Joins at before xs after → Joins now before xs after
kept_elsewhere at now handle link before xs after sets absent joined =
    Joins-kept at now before xs after (λ q p. sets.others q (λ same. absent (subst (Contains xs) same p))) joined

kept_at : (at now : Handle → Option Link) (handle : Option Handle) (change : Option Link → Option Link) (before : Option Handle) (xs : List Handle) (after : Option Handle) → SetsAt at now handle change → ((q : Handle) → handle ≡ Some q → Contains xs q → ⊥) → Joins at before xs after → Joins now before xs after
kept_at at now None change before xs after sets absent joined = Joins-kept at now before xs after (λ q p. sets q) joined
kept_at at now (Some handle) change before xs after sets absent joined = kept_elsewhere at now handle _ before xs after sets (absent handle refl) joined

-- the last handle of a list gets another one behind it
next_set : (at now : Handle → Option Link) (xs : List Handle) (after next : Option Handle) → ((q : Handle) (front : List Handle) → xs ≡ front ++ q ∷ [] → Contains front q → ⊥) → SetsAt at now (last_or None xs) (link_changed sides.Next next) → Joins at None xs after → Joins now None xs next
next_set at now xs after next once sets joined =
    elim (last_cases xs) [
      | inl none ↦ subst (λ (l : List Handle). Joins now None l next) (sym none) tt
      | inr some ↦
          let front = some.0 in
          let x = some.1 in
          let ends : last_or None xs ≡ Some x = ap (last_or None) some.2 ∙ last_or-push None front x in
          let set : Sets at now x (link_changed sides.Next next (at x)) = subst (λ (o : Option Handle). SetsAt at now o (link_changed sides.Next next)) ends sets in
          let whole : Joins at None (front ++ x ∷ []) after = subst (λ (l : List Handle). Joins at None l after) some.2 joined in
          let parts = Joins-split at None front (x ∷ []) after whole in
          let start = kept_elsewhere at now x _ None front (Some x) set (once x front some.2) parts.0 in
          let end : now x ≡ Some (record { previous = last_or None front; next = next }) = set.here ∙ ap (link_changed sides.Next next) parts.1.0 in
          subst (λ (l : List Handle). Joins now None l next) (sym some.2) (Joins-append now None front (x ∷ []) next start (end, tt))
    ]

-- the first handle of a list gets another one in front of it
previous_set : (at now : Handle → Option Link) (before previous : Option Handle) (xs : List Handle) → SetsAt at now (first_or xs None) (link_changed sides.Previous previous) → Joins at before xs None → Joins now previous xs None
previous_set at now before previous [] sets joined = tt
previous_set at now before previous (x ∷ xs) sets joined =
    (sets.here ∙ ap (link_changed sides.Previous previous) joined.0, kept_elsewhere at now x _ (Some x) xs None sets (head_is_once at before x xs joined) joined.1)

once_at_end : (at : Handle → Option Link) (xs : List Handle) → Joins at None xs None → (q : Handle) (front : List Handle) → xs ≡ front ++ q ∷ [] → Contains front q → ⊥
once_at_end at xs joined q front split p =
    parts_are_apart at None front (q ∷ []) q (subst (λ (l : List Handle). Joins at None l None) split joined) p (Contains-head q [])

-- a handle that was in no list comes last
pub Joins-linked_last : (at middle now : Handle → Option Link) (xs : List Handle) (handle : Handle) → Joins at None xs None → at handle ≡ None → SetsAt at middle (last_or None xs) (link_changed sides.Next (Some handle)) → Sets middle now handle (Some (record { previous = last_or None xs; next = None })) → Joins now None (xs ++ handle ∷ []) None
Joins-linked_last at middle now xs handle joined absent first second =
    let off : Contains xs handle → ⊥ = λ p. let link = Joins-linked at None xs None handle joined p in let some = link.1 in cc in
    let start = next_set at middle xs None (Some handle) (once_at_end at xs joined) first joined in
    let kept = kept_elsewhere middle now handle _ None xs (Some handle) second off start in
    Joins-append now None xs (handle ∷ []) None kept (second.here, tt)

-- the last handle of a list is in it
pub last_is_member : (xs : List Handle) (q : Handle) → last_or None xs ≡ Some q → Contains xs q
last_is_member xs q ends =
    elim (last_cases xs) [
      | inl none ↦ absurd (let bad = sym (ap (last_or None) none) ∙ ends in cc)
      | inr some ↦
          let same : some.1 ≡ q = let e = sym (last_or-push None some.0 some.1) ∙ sym (ap (last_or None) some.2) ∙ ends in cc in
          subst (λ (l : List Handle). Contains l q) (sym some.2) (subst (λ (h : Handle). Contains (some.0 ++ h ∷ []) q) (sym same) (Contains-push some.0 q))
    ]

pub first_is_member : (xs : List Handle) (q : Handle) → first_or xs None ≡ Some q → Contains xs q
first_is_member [] q begins = absurd (cc)
first_is_member (x ∷ xs) q begins = let same : x ≡ q = cc in subst (λ (h : Handle). Contains (x ∷ xs) h) same (Contains-head x xs)

-- a handle between two lists goes out
pub Joins-unlinked : (at one two now : Handle → Option Link) (front : List Handle) (handle : Handle) (back : List Handle) → Joins at None (front ++ handle ∷ back) None → SetsAt at one (last_or None front) (link_changed sides.Next (first_or back None)) → SetsAt one two (first_or back None) (link_changed sides.Previous (last_or None front)) → Sets two now handle None → Joins now None (front ++ back) None
Joins-unlinked at one two now front handle back joined first second third =
    let parts = Joins-split at None front (handle ∷ back) None joined in
    let apart : (q : Handle) → Contains front q → Contains (handle ∷ back) q → ⊥ = λ q p r. parts_are_apart at None front (handle ∷ back) q joined p r in
    let once : (q : Handle) (start : List Handle) → front ≡ start ++ q ∷ [] → Contains start q → ⊥ = λ q start split p.
    let whole : Joins at None (start ++ q ∷ []) (Some handle) = subst (λ (l : List Handle). Joins at None l (Some handle)) split parts.0 in
    let all : Joins at None ((start ++ q ∷ []) ++ handle ∷ back) None = subst (λ (l : List Handle). Joins at None (l ++ handle ∷ back) None) split joined in
    let rest = Joins-split at None start (q ∷ handle ∷ back) None (subst (λ (l : List Handle). Joins at None l None) (append_assoc start (q ∷ []) (handle ∷ back)) all) in
    parts_are_apart at None start (q ∷ handle ∷ back) q (Joins-append at None start (q ∷ handle ∷ back) None rest.0 rest.1) p (Contains-head q (handle ∷ back)) in
    let front_one : Joins one None front (first_or back None) = next_set at one front (Some handle) (first_or back None) once first parts.0 in
    let back_one : Joins one (Some handle) back None = kept_at at one (last_or None front) (link_changed sides.Next (first_or back None)) (Some handle) back None first (λ q ends p. apart q (last_is_member front q ends) (Contains-tail handle q back p)) parts.1.1 in
    let front_two : Joins two None front (first_or back None) = kept_at one two (first_or back None) (link_changed sides.Previous (last_or None front)) None front (first_or back None) second (λ q begins p. apart q p (Contains-tail handle q back (first_is_member back q begins))) front_one in
    let back_two : Joins two (last_or None front) back None = previous_set one two (Some handle) (last_or None front) back second back_one in
    let front_now : Joins now None front (first_or back None) = kept_elsewhere two now handle None None front (first_or back None) third (λ p. apart handle p (Contains-head handle back)) front_two in
    let back_now : Joins now (last_or None front) back None = kept_elsewhere two now handle None (last_or None front) back None third (head_is_once at _ handle back parts.1) back_two in
    Joins-append now None front back None front_now back_now

-- the ends with one handle more
pub first-with_last : (xs : List Handle) (handle : Handle) → or_handle (first_or xs None) handle ≡ first_or (xs ++ handle ∷ []) None
first-with_last [] handle = refl
first-with_last (x ∷ xs) handle = refl

last_or-some : (before : Handle) (xs : List Handle) → (q : Handle) × (last_or (Some before) xs ≡ Some q)
last_or-some before [] = (before, refl)
last_or-some before (x ∷ xs) = last_or-some x xs

-- the ends without the handle between two lists
pub first-without : (front : List Handle) (handle : Handle) (back : List Handle) → end_without (last_or None front) (first_or back None) (first_or (front ++ handle ∷ back) None) ≡ first_or (front ++ back) None
first-without [] handle back = refl
first-without (x ∷ front) handle back = let some = last_or-some x front in rw some.1 refl

pub last-without : (front : List Handle) (handle : Handle) (back : List Handle) → end_without (first_or back None) (last_or None front) (last_or None (front ++ handle ∷ back)) ≡ last_or None (front ++ back)
last-without front handle [] = ap (last_or None) (sym (append-nil front))
last-without front handle (y ∷ back) = last_or-append None front (handle ∷ y ∷ back) ∙ sym (last_or-append None front (y ∷ back))
