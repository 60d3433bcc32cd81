-- An index with one rule more, or with more tables.
use Rattle.std.proofs.Common.{◌≡◌, ◌≢◌, ℕ, ◌<◌, ◌≤◌, ◌⊎◌, inl, inr, zero, suc, Bool, true, false, length, take, List, [], ◌∷◌, ◌++◌, Option, None, Some, refl, sym, ap, subst, ◌∙◌, arith, nat_eq, ◌==◌, ◌&&◌, if◌then◌else◌, length-append, append-nil}
use Rattle.std.proofs.lemmas.Bool.{eqb-true, ne_eqb, and_parts}
use Rattle.std.proofs.Common.{eq-eqb}
use Rattle.std.proofs.Math.Seq.{take-append_seam}
use Rattle.std.proofs.Common.{Result, Ok, Err, OnErr}
use Rattle.std.proofs.lemmas.Option.{slice_get_within}
use Rattle.std.specs.List.{slice_get}
use Rattle.std.specs.Option.{option_map}
use Rattle.flow_rules.specs.RuleView.{RuleView}
use Rattle.rule_index.specs.declared.table.Home.{Home}
use Rattle.rule_index.specs.declared.table.Table.{Table}
use Rattle.rule_index.specs.declared.chain.HomeChain.{HomeChain}
use Rattle.rule_index.specs.declared.chain.Lead.{Lead}
use Rattle.rule_index.specs.declared.chain.RulePlace.{RulePlace}
use Rattle.rule_index.specs.declared.finder.Finder.{Finder}
use Rattle.rule_index.specs.Tables.{IsHome, Grows}
use Rattle.rule_index.specs.Places.{same_home, home_at, IsNext, AreLinked, Ends, IsChain, IsFirst, relinked, linked_by, last_of, led_by, longer}
use Rattle.rule_index.specs.Index.{Indexed, HasNo, Stays, chain_of, place_of}
use Rattle.rule_index.proofs.Homes.{IsHome-grows}
use Rattle.rule_index.proofs.Walks.{within}

-- lists with one element more
get_push : {A : Type 0} (xs : List A) (x y : A) (p : ℕ) → slice_get (xs ++ x ∷ []) p ≡ Some y → (slice_get xs p ≡ Some y) ⊎ ((p ≡ length xs) × (x ≡ y))
get_push [] x y zero e = inr (refl, cc)
get_push [] x y (suc p) e = cc
get_push (a ∷ xs) x y zero e = inl e
get_push (a ∷ xs) x y (suc p) e = elim (get_push xs x y p e) [ inl h ↦ inl h | inr h ↦ inr (ap suc h.0, h.1) ]

get_last : {A : Type 0} (xs : List A) (x : A) → slice_get (xs ++ x ∷ []) (length xs) ≡ Some x
get_last [] x = refl
get_last (a ∷ xs) x = get_last xs x

get_before : {A : Type 0} (xs : List A) (x y : A) (p : ℕ) → slice_get xs p ≡ Some y → slice_get (xs ++ x ∷ []) p ≡ Some y
get_before [] x y p e = cc
get_before (a ∷ xs) x y zero e = e
get_before (a ∷ xs) x y (suc p) e = get_before xs x y p e

-- what was lent as a slice comes back
pub lent_back : {A : Type 0} (xs rest : List A) (n : ℕ) → n ≡ length xs → take n (xs ++ rest) ≡ xs
lent_back xs rest n e = ap (λ (k : ℕ). take k (xs ++ rest)) e ∙ take-append_seam xs rest

-- homes are compared
pub same_home_is : (a b : Home) → same_home a b ≡ true → a ≡ b
same_home_is a b e =
    let parts = and_parts (a.digest == b.digest) (a.table == b.table) e in
    let d : a.digest ≡ b.digest = eqb-true a.digest b.digest parts.0 in
    let t : a.table ≡ b.table = eqb-true a.table b.table parts.1 in
    ap (λ (n : ℕ). record { digest = n; table = a.table }) d ∙ ap (λ (n : ℕ). record { digest = b.digest; table = n }) t

pub same_home_self : (a : Home) → same_home a a ≡ true
same_home_self a = ap (λ (b : Bool). b && (a.table == a.table)) (eq-eqb a.digest a.digest refl) ∙ eq-eqb a.table a.table refl

-- a place after another got a new next one
record Relinked (places : List RulePlace) (last next q : ℕ) (x : RulePlace) : Type 0 where
  old : RulePlace
  at : slice_get places q ≡ Some old
  of_home : x.home ≡ old.home
  which : ((q ≡ last) × (x.next ≡ Some next)) ⊎ ((q ≢ last) × (x.next ≡ old.next))

relinked_at : (places : List RulePlace) (last next q : ℕ) (x : RulePlace) → slice_get (relinked places last next) q ≡ Some x → Relinked places last next q x
relinked_at [] last next q x e = cc
relinked_at (y ∷ ys) zero next zero x e =
    let same : record y { next = Some next } ≡ x = cc in
    record { old = y; at = refl; of_home = sym (ap (λ (z : RulePlace). z.home) same); which = inl (refl, sym (ap (λ (z : RulePlace). z.next) same)) }
relinked_at (y ∷ ys) zero next (suc q) x e = record { old = x; at = e; of_home = refl; which = inr (λ no. omega arith, refl) }
relinked_at (y ∷ ys) (suc last) next zero x e = record { old = x; at = e; of_home = refl; which = inr (λ no. omega arith, refl) }
relinked_at (y ∷ ys) (suc last) next (suc q) x e =
    let h = relinked_at ys last next q x e in
    record { old = h.old; at = h.at; of_home = h.of_home; which = elim h.which [ inl a ↦ inl (ap suc a.0, a.1) | inr b ↦ inr (λ same. b.0 (omega arith), b.1) ] }

relinked_home : (places : List RulePlace) (last next q : ℕ) → home_at (relinked places last next) q ≡ home_at places q
relinked_home [] last next q = refl
relinked_home (y ∷ ys) zero next zero = refl
relinked_home (y ∷ ys) zero next (suc q) = refl
relinked_home (y ∷ ys) (suc last) next zero = refl
relinked_home (y ∷ ys) (suc last) next (suc q) = relinked_home ys last next q

relinked_length : (places : List RulePlace) (last next : ℕ) → length (relinked places last next) ≡ length places
relinked_length [] last next = refl
relinked_length (y ∷ ys) zero next = refl
relinked_length (y ∷ ys) (suc last) next = ap suc (relinked_length ys last next)

-- the same, where there may be no last one
abbrev IsLast : Option ℕ → ℕ → Type 0
IsLast None q = ⊥
IsLast (Some last) q = q ≡ last

record Linked (places : List RulePlace) (last : Option ℕ) (next q : ℕ) (x : RulePlace) : Type 0 where
  old : RulePlace
  at : slice_get places q ≡ Some old
  of_home : x.home ≡ old.home
  which : (IsLast last q × (x.next ≡ Some next)) ⊎ ((IsLast last q → ⊥) × (x.next ≡ old.next))

linked_at : (places : List RulePlace) (last : Option ℕ) (next q : ℕ) (x : RulePlace) → slice_get (linked_by places last next) q ≡ Some x → Linked places last next q x
linked_at places None next q x e = record { old = x; at = e; of_home = refl; which = inr (λ no. no, refl) }
linked_at places (Some last) next q x e =
    let h = relinked_at places last next q x e in record { old = h.old; at = h.at; of_home = h.of_home; which = h.which }

linked_home : (places : List RulePlace) (last : Option ℕ) (next q : ℕ) → home_at (linked_by places last next) q ≡ home_at places q
linked_home places None next q = refl
linked_home places (Some last) next q = relinked_home places last next q

pub linked_length : (places : List RulePlace) (last : Option ℕ) (next : ℕ) → length (linked_by places last next) ≡ length places
linked_length places None next = refl
linked_length places (Some last) next = relinked_length places last next

-- the homes of the places with one more
home_push : (places : List RulePlace) (x : RulePlace) (q : ℕ) (home : Home) → home_at (places ++ x ∷ []) q ≡ Some home → (home_at places q ≡ Some home) ⊎ ((q ≡ length places) × (x.home ≡ home))
home_push [] x zero home e = inr (refl, cc)
home_push [] x (suc q) home e = cc
home_push (y ∷ ys) x zero home e = inl e
home_push (y ∷ ys) x (suc q) home e = elim (home_push ys x q home e) [ inl h ↦ inl h | inr h ↦ inr (ap suc h.0, h.1) ]

home_before : (places : List RulePlace) (x : RulePlace) (q : ℕ) (home : Home) → home_at places q ≡ Some home → home_at (places ++ x ∷ []) q ≡ Some home
home_before [] x q home e = cc
home_before (y ∷ ys) x zero home e = e
home_before (y ∷ ys) x (suc q) home e = home_before ys x q home e

home_last : (places : List RulePlace) (x : RulePlace) → home_at (places ++ x ∷ []) (length places) ≡ Some x.home
home_last [] x = refl
home_last (y ∷ ys) x = home_last ys x

-- more tables, and tables of numbers that say the same of all rules that are there
pub Indexed-same : (slots : List (Option RuleView)) (tables tables' : List Table) (places places' : List RulePlace) (chains chains' : Home → Option HomeChain) (ids ids' : ℕ → Option ℕ)
    → Grows tables tables' → places' ≡ places → ((h : Home) → chains' h ≡ chains h)
    → ((p : ℕ) (rule : RuleView) → slice_get slots p ≡ Some (Some rule) → ids' rule.id ≡ ids rule.id)
    → Indexed slots tables places chains ids → Indexed slots tables' places' chains' ids'
Indexed-same slots tables tables' places places' chains chains' ids ids' grows same chained found ok =
    subst (λ (xs : List RulePlace). Indexed slots tables' xs chains' ids') (sym same) (record {
      long = ok.long;
      short = ok.short;
      kept = λ p rule x at there. let k = ok.kept p rule x at there in IsHome-grows tables tables' rule x.home grows k;
      linked = ok.linked;
      chained = λ home. subst (IsChain slots places home) (sym (chained home)) (ok.chained home);
      found = λ p rule at. found p rule at ∙ ok.found p rule at;
    })

module _ (slots : List (Option RuleView)) (places : List RulePlace) (home : Home) (chain : Option HomeChain) (rule : RuleView) where
  abbrev new_place : RulePlace
  new_place = record { home = home; next = None }

  abbrev new_lead : Lead
  new_lead = record { place = length places; id = rule.id }

  abbrev front : List RulePlace
  front = linked_by places (last_of chain) (length places)

  abbrev after : List RulePlace
  after = front ++ new_place ∷ []

  front_home : (q : ℕ) (h : Home) → home_at after q ≡ Some h → (home_at places q ≡ Some h) ⊎ ((q ≡ length places) × (home ≡ h))
  front_home q h e = elim (home_push front new_place q h e) [
    | inl a ↦ inl (sym (linked_home places (last_of chain) (length places) q) ∙ a)
    | inr b ↦ inr (b.0 ∙ linked_length places (last_of chain) (length places), b.1)
  ]

  home_stays : (q : ℕ) (h : Home) → home_at places q ≡ Some h → home_at after q ≡ Some h
  home_stays q h e = home_before front new_place q h (linked_home places (last_of chain) (length places) q ∙ e)

  home_new : home_at after (length places) ≡ Some home
  home_new = subst (λ (n : ℕ). home_at after n ≡ Some home) (linked_length places (last_of chain) (length places)) (home_last front new_place)

  -- a place that is not the last of its home knows the next one still
  next_stays : (p : ℕ) (h : Home) (next : Option ℕ) → (IsLast (last_of chain) p → ⊥) → IsChain slots places home chain → home_at places p ≡ Some h → IsNext places h p next → IsNext after h p next
  next_stays p h None other ok at none = λ q lt e. elim (front_home q h e) [
    | inl a ↦ none q lt a
    | inr b ↦ last_there chain ok other none (subst (λ (k : Home). home_at places p ≡ Some k) (sym b.1) at) b.1
  ] where
    last_there : (c : Option HomeChain) → IsChain slots places home c → (IsLast (last_of c) p → ⊥) → ((q : ℕ) → p < q → home_at places q ≡ Some h → ⊥) → home_at places p ≡ Some home → home ≡ h → ⊥
    last_there None k o n e same = k p e
    last_there (Some c) k o n e same =
        let le : p ≤ c.last = k.greatest p e in
        let apart : p ≢ c.last = o in
        n c.last (omega arith) (subst (λ (x : Home). home_at places c.last ≡ Some x) same k.last)
  next_stays p h (Some n) other ok at next = (
    next.0,
    home_stays n h next.1,
    λ q lt e. elim (front_home q h e) [
      | inl a ↦ next.2 q lt a
      | inr b ↦ let inside = within places h n next.1 in let here = b.0 in omega arith
    ],
  )

  -- the last of the home knows the new one
  next_new : (p : ℕ) (h : Home) → IsLast (last_of chain) p → IsChain slots places home chain → home_at places p ≡ Some h → IsNext after h p (Some (length places))
  next_new p h last ok at = by chain last ok where
    by : (c : Option HomeChain) → IsLast (last_of c) p → IsChain slots places home c → IsNext after h p (Some (length places))
    by None l k = absurd l
    by (Some c) l k =
        let there : home_at places p ≡ Some home = subst (λ (n : ℕ). home_at places n ≡ Some home) (sym l) k.last in
        let same : home ≡ h = (let e : Some home ≡ Some h = sym there ∙ at in cc) in (
          within places h p at,
          subst (λ (x : Home). home_at after (length places) ≡ Some x) same home_new,
          λ q lt e. elim (front_home q h e) [
            | inl a ↦ absurd (let le : q ≤ c.last = k.greatest q (subst (λ (x : Home). home_at places q ≡ Some x) (sym same) a) in let p_is : p ≡ c.last = l in let no : ⊥ = omega arith in no)
            | inr b ↦ let here = b.0 in omega arith
          ],
        )

  linked_after : IsChain slots places home chain → AreLinked places → AreLinked after
  linked_after ok linked p x at = elim (get_push front new_place x p at) [
    | inl a ↦ old (linked_at places (last_of chain) (length places) p x a)
    | inr b ↦ subst (λ (y : RulePlace). IsNext after y.home p y.next) b.1 (λ q lt e. elim (front_home q home e) [
      | inl c ↦ let inside = within places home q c in let here = b.0 in let long = linked_length places (last_of chain) (length places) in omega (arith, here, long)
      | inr d ↦ let there = d.0 in let here = b.0 in let long = linked_length places (last_of chain) (length places) in omega (arith, here, long)
    ])
  ] where
    old : Linked places (last_of chain) (length places) p x → IsNext after x.home p x.next
    old h =
        let home_there : home_at places p ≡ Some h.old.home = ap (option_map (λ (y : RulePlace). y.home)) h.at in
        elim h.which [
          | inl last ↦ subst (λ (k : Home). IsNext after k p x.next) (sym h.of_home)
              (subst (λ (n : Option ℕ). IsNext after h.old.home p n) (sym last.1) (next_new p h.old.home last.0 ok home_there))
          | inr other ↦ subst (λ (k : Home). IsNext after k p x.next) (sym h.of_home)
              (subst (λ (n : Option ℕ). IsNext after h.old.home p n) (sym other.1) (next_stays p h.old.home h.old.next other.0 ok home_there (linked p h.old h.at)))
        ]

  -- a slot, and one of the home there
  IsOld : ℕ → Option RuleView → Type 0
  IsOld q s = slice_get slots q ≡ Some s

  old_or_new : (q : ℕ) (s : Option RuleView) → slice_get (slots ++ Some rule ∷ []) q ≡ Some s → IsOld q s ⊎ (q ≡ length slots)
  unfolding IsOld
  old_or_new q s at = elim (get_push slots (Some rule) s q at) [ inl old ↦ inl old | inr new ↦ inr new.0 ]

  -- the first rule of a home is the first still
  first_stays : (h : Home) (lead : Lead) → length places ≡ length slots → IsFirst None slots places h 0 (Some lead) → IsFirst None (slots ++ Some rule ∷ []) after h 0 (Some lead)
  unfolding IsOld
  first_stays h lead long k = record {
    of_home = home_stays lead.place h k.of_home;
    rule = k.rule;
    at = get_before slots (Some rule) (Some k.rule) lead.place k.at;
    id = k.id;
    does = refl;
    least = λ q s f e at p. elim (old_or_new q s at) [
      | inl old ↦ elim (front_home q h e) [ inl a ↦ k.least q s f a old p | inr b ↦ let here = b.0 in let inside = within places h lead.place k.of_home in omega arith ]
      | inr new ↦ let inside = within places h lead.place k.of_home in omega arith
    ];
  }

  -- where a home had no rule the new one is the first
  first_new : length places ≡ length slots → IsFirst None slots places home 0 None → IsFirst None (slots ++ Some rule ∷ []) after home 0 (Some new_lead)
  unfolding IsOld
  first_new long k = record {
    of_home = home_new;
    rule = rule;
    at = subst (λ (n : ℕ). slice_get (slots ++ Some rule ∷ []) n ≡ Some (Some rule)) (sym long) (get_last slots (Some rule));
    id = refl;
    does = refl;
    least = λ q s f e at p. elim (old_or_new q s at) [
      | inl old ↦ elim (front_home q home e) [ inl a ↦ absurd (k q s f a old p) | inr b ↦ let here = b.0 in omega arith ]
      | inr new ↦ omega (arith, long, new)
    ];
  }

  led : (o : Option Lead) → length places ≡ length slots → IsFirst None slots places home 0 o → IsFirst None (slots ++ Some rule ∷ []) after home 0 (Some (led_by o new_lead))
  led None long k = first_new long k
  led (Some lead) long k = first_stays home lead long k

  none_stays : (h : Home) → length places ≡ length slots → (home ≡ h → ⊥) → IsFirst None slots places h 0 None → IsFirst None (slots ++ Some rule ∷ []) after h 0 None
  unfolding IsOld
  none_stays h long other k = λ q s f e at p. elim (front_home q h e) [
    | inl a ↦ elim (old_or_new q s at) [ inl old ↦ k q s f a old p | inr new ↦ (let inside = within places h q a in let no : ⊥ = omega (arith, long, new, inside) in no) ]
    | inr b ↦ other b.1
  ]

  lead_stays : (h : Home) (o : Option Lead) → length places ≡ length slots → (home ≡ h → ⊥) → IsFirst None slots places h 0 o → IsFirst None (slots ++ Some rule ∷ []) after h 0 o
  lead_stays h None long other k = none_stays h long other k
  lead_stays h (Some lead) long other k = first_stays h lead long k

  -- the chain of the home, and those of others
  chain_longer : length places ≡ length slots → IsChain slots places home chain → Ends (slots ++ Some rule ∷ []) after home (longer chain new_lead)
  chain_longer long ok = by chain ok where
    by : (c : Option HomeChain) → IsChain slots places home c → Ends (slots ++ Some rule ∷ []) after home (longer c new_lead)
    by None none = record {
      lead = first_new long (λ q s f e at p. none q e);
      last = home_new;
      greatest = λ q e. elim (front_home q home e) [ inl a ↦ absurd (none q a) | inr b ↦ let here = b.0 in omega arith ];
    }
    by (Some c) k = record {
      lead = led c.lead long k.lead;
      last = home_new;
      greatest = λ q e. elim (front_home q home e) [ inl a ↦ let f = within places home q a in omega arith | inr b ↦ let here = b.0 in omega arith ];
    }

  chain_stays : (h : Home) (c : Option HomeChain) → length places ≡ length slots → (home ≡ h → ⊥) → IsChain slots places h c → IsChain (slots ++ Some rule ∷ []) after h c
  chain_stays h None long other none = λ q e. elim (front_home q h e) [ inl a ↦ none q a | inr b ↦ other b.1 ]
  chain_stays h (Some c) long other k = record {
    lead = lead_stays h c.lead long other k.lead;
    last = home_stays c.last h k.last;
    greatest = λ q e. elim (front_home q h e) [ inl a ↦ k.greatest q a | inr b ↦ absurd (other b.1) ];
  }

-- one rule more
pub Indexed-push : (slots : List (Option RuleView)) (tables tables' : List Table) (places places' : List RulePlace) (chains chains' : Home → Option HomeChain) (ids ids' : ℕ → Option ℕ) (rule : RuleView) (home : Home) (n : ℕ)
    → n ≡ length places → Grows tables tables' → IsHome tables' rule home
    → places' ≡ linked_by places (last_of (chains home)) n ++ record { home = home; next = None } ∷ []
    → ((h : Home) → chains' h ≡ (if same_home home h then Some (longer (chains home) (record { place = n; id = rule.id })) else chains h))
    → ids' rule.id ≡ Some n → ((q : ℕ) → nat_eq rule.id q ≡ false → ids' q ≡ ids q)
    → HasNo slots rule.id → length slots < 1048576 → Indexed slots tables places chains ids → Indexed (slots ++ Some rule ∷ []) tables' places' chains' ids'
Indexed-push slots tables tables' places places' chains chains' ids ids' rule home n is grows at_home places_are chains_are id_is ids_are new few ok =
    subst (λ (xs : List RulePlace). Indexed (slots ++ Some rule ∷ []) tables' xs chains' ids') (sym (places_are ∙ ap (λ (m : ℕ). linked_by places (last_of (chains home)) m ++ record { home = home; next = None } ∷ []) is)) (record {
      long = long;
      short = omega (arith, length-append slots (Some rule ∷ []));
      kept = kept;
      linked = linked_after slots places home (chains home) rule (ok.chained home) ok.linked;
      chained = chained;
      found = found;
    }) where
      long : length (after slots places home (chains home) rule) ≡ length (slots ++ Some rule ∷ [])
      long = omega (arith, ok.long, linked_length places (last_of (chains home)) (length places), length-append (front slots places home (chains home) rule) (new_place slots places home (chains home) rule ∷ []), length-append slots (Some rule ∷ []))

      kept : (p : ℕ) (r : RuleView) (x : RulePlace) → slice_get (slots ++ Some rule ∷ []) p ≡ Some (Some r) → slice_get (after slots places home (chains home) rule) p ≡ Some x → IsHome tables' r x.home
      kept p r x at there = elim (get_push slots (Some rule) (Some r) p at) [
        | inl old ↦ elim (get_push (front slots places home (chains home) rule) (new_place slots places home (chains home) rule) x p there) [
          | inl a ↦ (let h = linked_at places (last_of (chains home)) (length places) p x a in let k = ok.kept p r h.old old h.at in
              subst (IsHome tables' r) (sym h.of_home) (IsHome-grows tables tables' r h.old.home grows k))
          | inr b ↦ absurd (let inside = slice_get_within slots p (Some r) old in let here = b.0 in let l = linked_length places (last_of (chains home)) (length places) in let no : ⊥ = omega (arith, ok.long, here, l) in no)
        ]
        | inr this ↦ elim (get_push (front slots places home (chains home) rule) (new_place slots places home (chains home) rule) x p there) [
          | inl a ↦ absurd (let h = linked_at places (last_of (chains home)) (length places) p x a in let inside = slice_get_within places p h.old h.at in let here = this.0 in let no : ⊥ = omega (arith, ok.long, here) in no)
          | inr b ↦ (let one : rule ≡ r = (let e : Some rule ≡ Some r = this.1 in cc) in
              subst (λ (y : RulePlace). IsHome tables' r y.home) b.1 (subst (λ (s : RuleView). IsHome tables' s home) one at_home))
        ]
      ]

      chained : (h : Home) → IsChain (slots ++ Some rule ∷ []) (after slots places home (chains home) rule) h (chains' h)
      chained h = subst (IsChain (slots ++ Some rule ∷ []) (after slots places home (chains home) rule) h) (sym (chains_are h)) (by (same_home home h) refl) where
        by : (b : Bool) → same_home home h ≡ b → IsChain (slots ++ Some rule ∷ []) (after slots places home (chains home) rule) h (if b then Some (longer (chains home) (record { place = n; id = rule.id })) else chains h)
        by true e = subst (λ (m : ℕ). Ends (slots ++ Some rule ∷ []) (after slots places home (chains home) rule) h (longer (chains home) (record { place = m; id = rule.id }))) (sym is)
            (subst (λ (k : Home). Ends (slots ++ Some rule ∷ []) (after slots places home (chains home) rule) k (longer (chains home) (record { place = length places; id = rule.id }))) (same_home_is home h e)
            (chain_longer slots places home (chains home) rule ok.long (ok.chained home)))
        by false e = chain_stays slots places home (chains home) rule h (chains h) ok.long (λ same. let t : true ≡ false = sym (same_home_self h) ∙ ap (λ (k : Home). same_home k h) (sym same) ∙ e in let no : ⊥ = cc in no) (ok.chained h)

      found : (p : ℕ) (r : RuleView) → slice_get (slots ++ Some rule ∷ []) p ≡ Some (Some r) → ids' r.id ≡ Some p
      found p r at = elim (get_push slots (Some rule) (Some r) p at) [
        | inl old ↦ ids_are r.id (other r p old) ∙ ok.found p r old
        | inr this ↦ (let one : rule ≡ r = (let e : Some rule ≡ Some r = this.1 in cc) in
            ap ids' (sym (ap (λ (s : RuleView). s.id) one)) ∙ id_is ∙ ap (λ (m : ℕ). Some m) (is ∙ ok.long ∙ sym this.0))
      ] where
        other : (s : RuleView) (q : ℕ) → slice_get slots q ≡ Some (Some s) → nat_eq rule.id s.id ≡ false
        other s q e = ne_eqb rule.id s.id (λ same. new q s e (sym same))

-- what holds anyway holds where there is an error
pub on_err : {A E : Type 0} (r : Result A E) (P : Type 0) → P → OnErr r P
on_err (Ok x) P p = tt
on_err (Err x) P p = p

pub Grows-none : (tables : List Table) → Grows tables tables
Grows-none tables = record { more = []; is = sym (append-nil tables) }

pub stays : (old new : Finder) (rule : RuleView) → Grows old.tables.list new.tables.list → new.places.items ≡ old.places.items → ((h : Home) → chain_of new h ≡ chain_of old h)
    → ((q : ℕ) → nat_eq rule.id q ≡ false → place_of new q ≡ place_of old q) → Stays old new rule
stays old new rule grows places chains ids = λ slots ok none.
    Indexed-same slots old.tables.list new.tables.list old.places.items new.places.items (chain_of old) (chain_of new) (place_of old) (place_of new) grows places chains
    (λ p r at. ids r.id (ne_eqb rule.id r.id (λ same. none p r at (sym same)))) ok
