-- Lists of handles that links join: their parts, their members, and what a change of links does to them.
use Rattle.std.proofs.Common.{◌≡◌, ◌≢◌, ◌⊎◌, ℕ, zero, suc, ◌<◌, ◌≤◌, cond, List, [], ◌∷◌, ◌++◌, length, get_or, Option, Some, None, refl, sym, ap, subst, ◌∙◌, inl, inr, arith, Contains, length-append, filter}
use Rattle.std.proofs.lemmas.List.Elements.{Contains-append_right, filter-append}
use Rattle.std.specs.Map.{lookup, remove_entry}
use Rattle.slot_pool.specs.declared.handle.Handle.{Handle}
use Rattle.slot_pool.specs.declared.chain.Chain.{Chain}
use Rattle.slot_pool.specs.declared.chain.Link.{Link}
use Rattle.slot_pool.specs.Handle.{same_handle}
use Rattle.slot_pool.specs.Links.{Links, link_of, next_of, handles_from, members, first_or, last_or, Joins, IsChain, is_other, KeepsOthers}
use Rattle.slot_pool.proofs.Handles.{same_handle_refl, same_handle_tells, same_handle-other, length-remove_entry}

pub Contains-head : {X : Type 0} (x : X) (xs : List X) → Contains (x ∷ xs) x
Contains-head x xs = (0, omega arith, refl)

pub Contains-tail : {X : Type 0} (y x : X) (xs : List X) → Contains xs x → Contains (y ∷ xs) x
Contains-tail y x xs p = (suc p.0, omega (arith, p.1), p.2)

pub Contains-cases : {X : Type 0} (y x : X) (xs : List X) → Contains (y ∷ xs) x → (y ≡ x) ⊎ Contains xs x
Contains-cases {X} y x xs p = by_index p.0 p.1 p.2
  where
    by_index : (k : ℕ) → k < suc (length xs) → get_or (y ∷ xs) k x ≡ x → (y ≡ x) ⊎ Contains xs x
    by_index zero within found = inl found
    by_index (suc k) within found = inr (k, omega arith, found)

-- a list splits at a member
pub Contains-split : {X : Type 0} (x : X) (xs : List X) → Contains xs x → (front : List X) × (back : List X) × (xs ≡ front ++ x ∷ back)
Contains-split x [] p = absurd (omega (arith, p.1))
Contains-split x (y ∷ xs) p =
    elim (Contains-cases y x xs p) [
      | inl here ↦ ([], xs, ap (λ z. z ∷ xs) here)
      | inr there ↦ let rest = Contains-split x xs there in (y ∷ rest.0, rest.1, ap (λ l. y ∷ l) rest.2)
    ]

-- a list is empty, or ends with one element
pub last_cases : {X : Type 0} (xs : List X) → (xs ≡ []) ⊎ ((front : List X) × (x : X) × (xs ≡ front ++ x ∷ []))
last_cases [] = inl refl
last_cases (y ∷ xs) =
    elim (last_cases xs) [
      | inl none ↦ inr ([], y, ap (λ l. y ∷ l) none)
      | inr some ↦ inr (y ∷ some.0, some.1, ap (λ l. y ∷ l) some.2)
    ]

pub first_or-append : (xs ys : List Handle) (after : Option Handle) → first_or (xs ++ ys) after ≡ first_or xs (first_or ys after)
first_or-append [] ys after = refl
first_or-append (x ∷ xs) ys after = refl

pub last_or-append : (before : Option Handle) (xs ys : List Handle) → last_or before (xs ++ ys) ≡ last_or (last_or before xs) ys
last_or-append before [] ys = refl
last_or-append before (x ∷ xs) ys = last_or-append (Some x) xs ys

module _ (at : Handle → Option Link) where
  pub Joins-split : (before : Option Handle) (xs ys : List Handle) (after : Option Handle) → Joins at before (xs ++ ys) after → Joins at before xs (first_or ys after) × Joins at (last_or before xs) ys after
  Joins-split before [] ys after joined = (tt, joined)
  Joins-split before (x ∷ xs) ys after joined =
      let rest = Joins-split (Some x) xs ys after joined.1 in
      let here : at x ≡ Some (record { previous = before; next = first_or xs (first_or ys after) }) =
      joined.0 ∙ ap (λ n. Some (record { previous = before; next = n })) (first_or-append xs ys after) in
      ((here, rest.0), rest.1)

  pub Joins-append : (before : Option Handle) (xs ys : List Handle) (after : Option Handle) → Joins at before xs (first_or ys after) → Joins at (last_or before xs) ys after → Joins at before (xs ++ ys) after
  Joins-append before [] ys after front back = back
  Joins-append before (x ∷ xs) ys after front back =
      let here : at x ≡ Some (record { previous = before; next = first_or (xs ++ ys) after }) =
      front.0 ∙ ap (λ n. Some (record { previous = before; next = n })) (sym (first_or-append xs ys after)) in
      (here, Joins-append (Some x) xs ys after front.1 back)

  -- each member has a link
  pub Joins-linked : (before : Option Handle) (xs : List Handle) (after : Option Handle) (q : Handle) → Joins at before xs after → Contains xs q → (link : Link) × (at q ≡ Some link)
  Joins-linked before [] after q joined p = absurd (omega (arith, p.1))
  Joins-linked before (x ∷ xs) after q joined p =
      elim (Contains-cases x q xs p) [
        | inl here ↦ (_, sym (ap at here) ∙ joined.0)
        | inr there ↦ Joins-linked (Some x) xs after q joined.1 there
      ]

  pub handles_from-joined : (before : Option Handle) (xs : List Handle) (most : ℕ) → Joins at before xs None → length xs ≤ most → handles_from at (first_or xs None) most ≡ xs
  handles_from-joined before [] most joined enough = refl
  handles_from-joined before (x ∷ xs) zero joined enough = absurd (omega arith)
  handles_from-joined before (x ∷ xs) (suc most) joined enough =
      let next : next_of (at x) ≡ first_or xs None = ap next_of joined.0 in
      ap (λ l. x ∷ l) (ap (λ n. handles_from at n most) next ∙ handles_from-joined (Some x) xs most joined.1 (omega arith))

  -- two lists to the end that begin with one handle are one
  pub Joins-unique : (before again : Option Handle) (xs ys : List Handle) → Joins at before xs None → Joins at again ys None → first_or xs None ≡ first_or ys None → xs ≡ ys
  Joins-unique before again [] [] first second same = refl
  Joins-unique before again [] (y ∷ ys) first second same = absurd (cc)
  Joins-unique before again (x ∷ xs) [] first second same = absurd (cc)
  Joins-unique before again (x ∷ xs) (y ∷ ys) first second same =
      let head : x ≡ y = cc in
      let nexts : Some (first_or xs None) ≡ Some (first_or ys None) =
      sym (ap (λ (o : Option Link). Some (next_of o)) first.0) ∙ ap (λ (h : Handle). Some (next_of (at h))) head ∙ ap (λ (o : Option Link). Some (next_of o)) second.0 in
      let rest = Joins-unique (Some x) (Some y) xs ys first.1 second.1 (cc) in
      ap (λ h. h ∷ xs) head ∙ ap (λ l. y ∷ l) rest

  pub head_is_once : (before : Option Handle) (x : Handle) (xs : List Handle) → Joins at before (x ∷ xs) None → Contains xs x → ⊥
  head_is_once before x xs joined p =
      let parts = Contains-split x xs p in
      let whole : Joins at before ((x ∷ parts.0) ++ (x ∷ parts.1)) None = subst (λ (l : List Handle). Joins at before (x ∷ l) None) parts.2 joined in
      let later = (Joins-split before (x ∷ parts.0) (x ∷ parts.1) None whole).1 in
      let same = Joins-unique before _ (x ∷ xs) (x ∷ parts.1) joined later refl in
      omega (arith, ap length same, ap length parts.2, length-append parts.0 (x ∷ parts.1))

  -- a handle is in one part of a list alone
  pub parts_are_apart : (before : Option Handle) (xs ys : List Handle) (q : Handle) → Joins at before (xs ++ ys) None → Contains xs q → Contains ys q → ⊥
  parts_are_apart before [] ys q joined first second = omega (arith, first.1)
  parts_are_apart before (x ∷ xs) ys q joined first second =
      elim (Contains-cases x q xs first) [
        | inl here ↦ head_is_once before x (xs ++ ys) joined (Contains-append_right xs ys x (subst (Contains ys) (sym here) second))
        | inr there ↦ parts_are_apart (Some x) xs ys q joined.1 there second
      ]

-- links that agree at the members join the same list
pub Joins-kept : (at now : Handle → Option Link) (before : Option Handle) (xs : List Handle) (after : Option Handle) → ((q : Handle) → Contains xs q → now q ≡ at q) → Joins at before xs after → Joins now before xs after
Joins-kept at now before [] after same joined = tt
Joins-kept at now before (x ∷ xs) after same joined =
    (same x (Contains-head x xs) ∙ joined.0, Joins-kept at now (Some x) xs after (λ q p. same q (Contains-tail x q xs p)) joined.1)

-- handles that differ and are all linked are at most as many as the links
abbrev pub Differ : List Handle → Type 0
Differ [] = Unit {0}
Differ (x ∷ xs) = (Contains xs x → ⊥) × Differ xs

Differ-joined : (at : Handle → Option Link) (before : Option Handle) (xs : List Handle) → Joins at before xs None → Differ xs
Differ-joined at before [] joined = tt
Differ-joined at before (x ∷ xs) joined = (head_is_once at before x xs joined, Differ-joined at (Some x) xs joined.1)

pub lookup-remove_other : {X : Type 0} (x q : Handle) (es : List (Handle × X)) → q ≢ x → lookup (same_handle q) (remove_entry (same_handle x) es) ≡ lookup (same_handle q) es
lookup-remove_other {X} x q [] differs = refl
lookup-remove_other {X} x q (e ∷ es) differs =
    elim (same_handle_tells x e.0) [
      | inl hit ↦ rw (hit.0, same_handle-other q e.0 (λ same. differs (same ∙ sym hit.1))) refl
      | inr miss ↦ rw miss.0 (ap (λ (o : Option X). cond (same_handle q e.0) (Some e.1) o) (lookup-remove_other x q es differs))
    ]

length_differing : (xs : List Handle) (links : Links) → Differ xs → ((q : Handle) → Contains xs q → (link : Link) × (link_of links q ≡ Some link)) → length xs ≤ length links
length_differing [] links differ linked = omega arith
length_differing (x ∷ xs) links differ linked =
    let here = linked x (Contains-head x xs) in
    let fewer = length-remove_entry (same_handle x) links here.0 here.1 in
    let rest = length_differing xs (remove_entry (same_handle x) links) differ.1 (λ q p.
    let link = linked q (Contains-tail x q xs p) in
    let apart : q ≢ x = λ same. differ.0 (subst (Contains xs) same p) in
    (link.0, lookup-remove_other x q links apart ∙ link.1)) in
    omega arith

-- ends and links that join a list make a chain of it
pub members-joined : (links : Links) (chain : Chain) (xs : List Handle) → chain.first ≡ first_or xs None → Joins (link_of links) None xs None → members links chain ≡ xs
members-joined links chain xs first joined =
    let enough = length_differing xs links (Differ-joined (link_of links) None xs joined) (λ q p. Joins-linked (link_of links) None xs None q joined p) in
    ap (λ (h : Option Handle). handles_from (link_of links) h (length links)) first
    ∙ handles_from-joined (link_of links) None xs (length links) joined enough

pub IsChain-joined : (links : Links) (chain : Chain) (xs : List Handle) → chain.first ≡ first_or xs None → chain.last ≡ last_or None xs → Joins (link_of links) None xs None → IsChain links chain
IsChain-joined links chain xs first last joined =
    let same = sym (members-joined links chain xs first joined) in
    record {
      first = first ∙ ap (λ (l : List Handle). first_or l None) same;
      last = last ∙ ap (last_or None) same;
      joined = subst (λ (l : List Handle). Joins (link_of links) None l None) same joined;
    }

-- links that agree at all linked handles but the changed ones keep the other chains
pub KeepsOthers-from : (old new : Links) (changed : List Handle) → ((q : Handle) (link : Link) → link_of old q ≡ Some link → (Contains changed q → ⊥) → link_of new q ≡ link_of old q) → KeepsOthers old new changed
KeepsOthers-from old new changed same other chain apart =
    let kept = Joins-kept (link_of old) (link_of new) None (members old other) None (λ q p.
    let link = Joins-linked (link_of old) None (members old other) None q chain.joined p in
    same q link.0 link.1 (apart q p)) chain.joined in
    (IsChain-joined new other (members old other) chain.first chain.last kept, members-joined new other (members old other) chain.first kept)

-- the list without one of its handles
pub filter_others : (x : Handle) (xs : List Handle) → (Contains xs x → ⊥) → filter (is_other x) xs ≡ xs
filter_others x [] absent = refl
filter_others x (y ∷ xs) absent =
    let differs : x ≢ y = λ same. absent (subst (λ (h : Handle). Contains (h ∷ xs) x) same (Contains-head x xs)) in
    rw (same_handle-other x y differs) (ap (λ l. y ∷ l) (filter_others x xs (λ p. absent (Contains-tail y x xs p))))

pub filter-without : (at : Handle → Option Link) (front : List Handle) (x : Handle) (back : List Handle) → Joins at None (front ++ x ∷ back) None → filter (is_other x) (front ++ x ∷ back) ≡ front ++ back
filter-without at front x back joined =
    let in_front = filter_others x front (λ p. parts_are_apart at None front (x ∷ back) x joined p (Contains-head x back)) in
    let behind = filter_others x back (head_is_once at _ x back (Joins-split at None front (x ∷ back) None joined).1) in
    let gone : filter (is_other x) (x ∷ back) ≡ filter (is_other x) back = rw (same_handle_refl x) refl in
    filter-append (is_other x) front (x ∷ back) ∙ ap (λ l. l ++ filter (is_other x) (x ∷ back)) in_front ∙ ap (λ l. front ++ l) (gone ∙ behind)
