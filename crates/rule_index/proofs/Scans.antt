-- What a table, and then all tables of a group, tell of the rules that take a frame.
use Rattle.std.proofs.Common.{◌≡◌, ℕ, ◌+◌, ◌^◌, ◌-◌, ◌<◌, ◌≤◌, inl, inr, zero, suc, Bool, true, false, length, map, get_or, List, [], ◌∷◌, Option, None, Some, refl, sym, ap, ◌∙◌, subst, arith, nat_eq, nat_lt, ◌&&◌, if◌then◌else◌}
use Rattle.std.proofs.Common.{eq-eqb}
use Rattle.std.proofs.lemmas.Bool.{and_parts, eqb-true, ltb-true, ltb-false}
use Rattle.std.proofs.lemmas.Bool.Decides.{eqb_tells}
use Rattle.std.proofs.lemmas.Nat.{same_from_place}
use Rattle.std.proofs.lemmas.Option.{slice_get_within, slice_get-get_or}
use Rattle.std.specs.List.{slice_get}
use Rattle.std.specs.Option.{option_map}
use Rattle.packet_headers.specs.declared.items.LayerAt.{LayerAt}
use Rattle.pattern_items.specs.Matches.{accepts}
use Rattle.flow_rules.specs.RuleView.{RuleView}
use Rattle.flow_rules.specs.Best.{takes}
use Rattle.rule_index.specs.declared.table.Home.{Home}
use Rattle.rule_index.specs.declared.table.Table.{Table}
use Rattle.rule_index.specs.declared.turn.Turn.{Turn}
use Rattle.rule_index.specs.declared.chain.HomeChain.{HomeChain}
use Rattle.rule_index.specs.declared.chain.Lead.{Lead}
use Rattle.rule_index.specs.declared.chain.RulePlace.{RulePlace}
use Rattle.rule_index.specs.Tables.{digest_in}
use Rattle.rule_index.specs.Turns.{TablesView, order_of, number_in, AreInTurn, IsCut}
use Rattle.rule_index.specs.Places.{home_at, IsChain, IsFirst, lead_in}
use Rattle.rule_index.specs.Index.{Indexed}
use Rattle.rule_index.specs.Rank.{rank, IsBest, IsTakenIn, earlier}
use Rattle.rule_index.proofs.Walks.{within, home_is}

abbrev Slots : Type 0
Slots = List (Option RuleView)

no_place : RulePlace
no_place = record { home = record { digest = 0; table = 0 }; next = None }

abbrev pub no_turn : Turn
no_turn = record { order = 0; number = 0 }

-- what stands at a place of a home
record Stands (places : List RulePlace) (home : Home) (p : ℕ) : Type 0 where
  place : RulePlace
  there : slice_get places p ≡ Some place
  is : place.home ≡ home

stands : (places : List RulePlace) (home : Home) (p : ℕ) → home_at places p ≡ Some home → Stands places home p
stands places home p h =
    let there : slice_get places p ≡ Some (get_or places p no_place) = slice_get-get_or places p no_place (within places home p h) in
    record { place = get_or places p no_place; there = there; is = home_is places home p (get_or places p no_place) there h }

pub table_at : (list lent : List Table) (n : ℕ) (t : Table) → lent ≡ list → n < length list → t ≡ get_or lent n t → slice_get list n ≡ Some t
table_at list lent n t same lt e = slice_get-get_or list n t lt ∙ ap (λ (x : Table). Some x) (sym (e ∙ ap (λ (xs : List Table). get_or xs n t) same))

module _ (slots : Slots) (tables : List Table) (places : List RulePlace) (chains : Home → Option HomeChain) (ids : ℕ → Option ℕ) where
  -- the home of a rule of a table
  at_home : Indexed slots tables places chains ids → (number : ℕ) (table : Table) → slice_get tables number ≡ Some table
      → (q : ℕ) (r : RuleView) (x : RulePlace) → slice_get slots q ≡ Some (Some r) → slice_get places q ≡ Some x → x.home.table ≡ number
      → (table.group ≡ r.group) × (table.priority ≡ r.priority) × ((ls : List LayerAt) → accepts r.test ls ≡ true → digest_in table ls ≡ Some x.home.digest)
      × (table.exact ≡ true → (ls : List LayerAt) → digest_in table ls ≡ Some x.home.digest → accepts r.test ls ≡ true)
  at_home ok number table at q r x slot place is =
      let home = ok.kept q r x slot place in
      let there : slice_get tables number ≡ Some home.table = ap (slice_get tables) (sym is) ∙ home.at in
      let one : home.table ≡ table = (let e : Some home.table ≡ Some table = sym there ∙ at in cc) in (
        ap (λ (t : Table). t.group) (sym one) ∙ home.group,
        ap (λ (t : Table). t.priority) (sym one) ∙ home.priority,
        λ ls a. ap (λ (t : Table). digest_in t ls) (sym one) ∙ home.accepted ls a,
        λ e ls d. home.exact (ap (λ (t : Table). t.exact) one ∙ e) ls (ap (λ (t : Table). digest_in t ls) one ∙ d),
      )

  -- no digest, so no rule
  pub none_by_digest : Indexed slots tables places chains ids → (number : ℕ) (table : Table) (layers : List LayerAt) → slice_get tables number ≡ Some table → digest_in table layers ≡ None
      → IsTakenIn slots places number layers None
  none_by_digest ok number table layers at none q r x slot place is a =
      let some : digest_in table layers ≡ Some x.home.digest = (at_home ok number table at q r x slot place is).2 layers a in
      let no : ⊥ = (let e : None ≡ Some x.home.digest = sym none ∙ some in cc) in no

  -- a rule that accepts the layers has this home
  home_there : Indexed slots tables places chains ids → (number : ℕ) (table : Table) (layers : List LayerAt) (digest : ℕ) → slice_get tables number ≡ Some table → digest_in table layers ≡ Some digest
      → (q : ℕ) (r : RuleView) (x : RulePlace) → slice_get slots q ≡ Some (Some r) → slice_get places q ≡ Some x → x.home.table ≡ number → accepts r.test layers ≡ true
      → home_at places q ≡ Some (record { digest = digest; table = number })
  home_there ok number table layers digest at by q r x slot place is a =
      let own : digest_in table layers ≡ Some x.home.digest = (at_home ok number table at q r x slot place is).2 layers a in
      let same : x.home.digest ≡ digest = (let e : Some x.home.digest ≡ Some digest = sym own ∙ by in cc) in
      ap (option_map (λ (y : RulePlace). y.home)) place
      ∙ ap (λ (n : ℕ). Some (record { digest = n; table = x.home.table })) same ∙ ap (λ (n : ℕ). Some (record { digest = digest; table = n })) is

  -- the first rule of a home, and there is none in a home of no chain
  pub led : Indexed slots tables places chains ids → (home : Home) → IsFirst None slots places home 0 (lead_in (chains home))
  led ok home = by (chains home) (ok.chained home) where
    by : (c : Option HomeChain) → IsChain slots places home c → IsFirst None slots places home 0 (lead_in c)
    by None none = λ q s f e at p. none q e
    by (Some c) k = k.lead

  led_by_one : Indexed slots tables places chains ids → (home : Home) (o : Option Lead) → o ≡ lead_in (chains home) → IsFirst None slots places home 0 o
  led_by_one ok home o e = subst (IsFirst None slots places home 0) (sym e) (led ok home)

  pub none_by_lead : Indexed slots tables places chains ids → (number : ℕ) (table : Table) (layers : List LayerAt) (digest : ℕ) → slice_get tables number ≡ Some table → digest_in table layers ≡ Some digest
      → None ≡ lead_in (chains (record { digest = digest; table = number })) → IsTakenIn slots places number layers None
  none_by_lead ok number table layers digest at by none q r x slot place is a =
      led_by_one ok (record { digest = digest; table = number }) None none q (Some r) (omega arith) (home_there ok number table layers digest at by q r x slot place is a) slot refl

  pub first_home : Indexed slots tables places chains ids → (home : Home) (lead : Lead) → Some lead ≡ lead_in (chains home) → home_at places lead.place ≡ Some home
  first_home ok home lead some = let k : IsFirst None slots places home 0 (Some lead) = led_by_one ok home (Some lead) some in k.of_home

  -- where digests are exact the first rule of a home is the first that accepts the layers
  pub taken_exactly : Indexed slots tables places chains ids → (number : ℕ) (table : Table) (layers : List LayerAt) (digest : ℕ) (lead : Lead) → slice_get tables number ≡ Some table
      → digest_in table layers ≡ Some digest → Some lead ≡ lead_in (chains (record { digest = digest; table = number })) → table.exact ≡ true → IsTakenIn slots places number layers (Some lead)
  taken_exactly ok number table layers digest lead at by some exact =
      let home : Home = record { digest = digest; table = number } in
      let k : IsFirst None slots places (record { digest = digest; table = number }) 0 (Some lead) = led_by_one ok (record { digest = digest; table = number }) (Some lead) some in
      let s = stands places (record { digest = digest; table = number }) lead.place k.of_home in
      let of_table : s.place.home.table ≡ number = ap (λ (h : Home). h.table) s.is in
      record {
        rule = k.rule;
        at = k.at;
        id = k.id;
        place = s.place;
        there = s.there;
        table = of_table;
        does = (at_home ok number table at lead.place k.rule s.place k.at s.there of_table).3 exact layers (by ∙ ap (λ (h : Home). Some h.digest) (sym s.is));
        least = λ q r x e f is a. k.least q (Some r) (omega arith) (home_there ok number table layers digest at by q r x e f is a) e refl;
      }

  -- else the first one behind it that accepts them
  pub taken_first : Indexed slots tables places chains ids → (number : ℕ) (table : Table) (layers : List LayerAt) (digest : ℕ) (lead : Lead) (o : Option Lead) → slice_get tables number ≡ Some table
      → digest_in table layers ≡ Some digest → Some lead ≡ lead_in (chains (record { digest = digest; table = number }))
      → IsFirst (Some layers) slots places (record { digest = digest; table = number }) lead.place o → IsTakenIn slots places number layers o
  taken_first ok number table layers digest lead None at by some first = λ q r x slot place is a.
      let there = home_there ok number table layers digest at by q r x slot place is a in
      let k : IsFirst None slots places (record { digest = digest; table = number }) 0 (Some lead) = led_by_one ok (record { digest = digest; table = number }) (Some lead) some in
      first q (Some r) (k.least q (Some r) (omega arith) there slot refl) there slot a
  taken_first ok number table layers digest lead (Some l) at by some first =
      let k : IsFirst None slots places (record { digest = digest; table = number }) 0 (Some lead) = led_by_one ok (record { digest = digest; table = number }) (Some lead) some in
      let s = stands places (record { digest = digest; table = number }) l.place first.of_home in
      record {
        rule = first.rule;
        at = first.at;
        id = first.id;
        place = s.place;
        there = s.there;
        table = ap (λ (h : Home). h.table) s.is;
        does = first.does;
        least = λ q r x e f is a. let there = home_there ok number table layers digest at by q r x e f is a in
            first.least q (Some r) (k.least q (Some r) (omega arith) there e refl) there e a;
      }

-- a rule that is at home in the table of a turn
pub record IsIn (slots : Slots) (turns : List Turn) (places : List RulePlace) (i q : ℕ) (r : RuleView) : Type 0 where
  pub place : RulePlace
  pub slot : slice_get slots q ≡ Some (Some r)
  pub there : slice_get places q ≡ Some place
  pub inside : i < length turns
  pub table : place.home.table ≡ (get_or turns i no_turn).number

-- before the first rule that takes the layers: the turns so far have none
pub record NoneYet (slots : Slots) (turns : List Turn) (places : List RulePlace) (group : ℕ) (layers : List LayerAt) (n last : ℕ) : Type 0 where
  pub is : last ≡ order_of group (2 ^ 32 - 1)
  pub floor : (i : ℕ) → n ≤ i → i < length turns → order_of group 0 ≤ (get_or turns i no_turn).order
  pub none : (i q : ℕ) (r : RuleView) → i < n → IsIn slots turns places i q r → takes group layers r ≡ true → ⊥

-- behind it: no turn to come has a lower priority
pub record BestYet (slots : Slots) (turns : List Turn) (places : List RulePlace) (group : ℕ) (layers : List LayerAt) (n last : ℕ) (lead : Lead) : Type 0 where
  pub rule : RuleView
  pub at : slice_get slots lead.place ≡ Some (Some rule)
  pub id : rule.id ≡ lead.id
  pub taken : takes group layers rule ≡ true
  pub low : rule.priority < 2 ^ 32
  pub is : last ≡ order_of group rule.priority
  pub floor : (i : ℕ) → n ≤ i → i < length turns → last ≤ (get_or turns i no_turn).order
  pub least : (i q : ℕ) (r : RuleView) → i < n → IsIn slots turns places i q r → takes group layers r ≡ true → rank rule.priority lead.place ≤ rank r.priority q

abbrev pub Reached : Slots → List Turn → List RulePlace → ℕ → List LayerAt → ℕ → ℕ → Option Lead → Type 0
Reached slots turns places group layers n last None = NoneYet slots turns places group layers n last
Reached slots turns places group layers n last (Some lead) = BestYet slots turns places group layers n last lead

number_at : (turns : List Turn) (k n : ℕ) → k < length (map number_in turns) → get_or (map number_in turns) k n ≡ n → (k < length turns) × (n ≡ (get_or turns k no_turn).number)
number_at [] k n lt e = absurd (omega arith)
number_at (t ∷ ts) zero n lt e = (omega arith, sym e)
number_at (t ∷ ts) (suc k) n lt e = let h = number_at ts k n (omega arith) e in let inside = h.0 in (omega arith, h.1)

taken_of : (group : ℕ) (layers : List LayerAt) (r : RuleView) → takes group layers r ≡ true → (r.group ≡ group) × (accepts r.test layers ≡ true)
taken_of group layers r t = let parts = and_parts (nat_eq r.group group) (accepts r.test layers) t in (eqb-true r.group group parts.0, parts.1)

module _ (slots : Slots) (view : TablesView) (places : List RulePlace) (chains : Home → Option HomeChain) (ids : ℕ → Option ℕ) (ok : Indexed slots view.list places chains ids) (turned : AreInTurn view) (group : ℕ) (layers : List LayerAt) where
  -- the order of a rule\'s turn
  order_here : (i q : ℕ) (r : RuleView) → IsIn slots view.turns places i q r → ((get_or view.turns i no_turn).order ≡ order_of r.group r.priority) × (r.priority < 2 ^ 32)
  order_here i q r h =
      let turn = turned.each i no_turn h.inside in
      let home = ok.kept q r h.place h.slot h.there in
      let one : turn.table ≡ home.table = (let e : Some turn.table ≡ Some home.table = sym turn.at ∙ ap (slice_get view.list) (sym h.table) ∙ home.at in cc) in
      let of_group : turn.table.group ≡ r.group = ap (λ (t : Table). t.group) one ∙ home.group in
      let of_priority : turn.table.priority ≡ r.priority = ap (λ (t : Table). t.priority) one ∙ home.priority in (
        turn.is ∙ ap (λ (n : ℕ). order_of n turn.table.priority) of_group ∙ ap (order_of r.group) of_priority,
        subst (λ (n : ℕ). n < 2 ^ 32) of_priority turn.low,
      )

  -- each rule has a turn
  turn_of : (q : ℕ) (r : RuleView) → slice_get slots q ≡ Some (Some r) → (i : ℕ) × IsIn slots view.turns places i q r
  turn_of q r slot =
      let inside : q < length places = omega (arith, ok.long, slice_get_within slots q (Some r) slot) in
      let there = slice_get-get_or places q no_place inside in
      let home = ok.kept q r (get_or places q no_place) slot there in
      let has = turned.all (get_or places q no_place).home.table (slice_get_within view.list (get_or places q no_place).home.table home.table home.at) in
      let here = number_at view.turns has.0 (get_or places q no_place).home.table has.1 has.2 in
      (has.0, record { place = get_or places q no_place; slot = slot; there = there; inside = here.0; table = here.1 })

  -- the turns in front are of lesser groups
  pub at_start : (n last : ℕ) → last ≡ order_of group (2 ^ 32 - 1) → IsCut view.turns (order_of group 0) n → Reached slots view.turns places group layers n last None
  at_start n last is cut = record {
    is = is;
    floor = λ i le lt. cut.behind i no_turn le lt;
    none = λ i q r lt h t.
        let under : (get_or view.turns i no_turn).order < order_of group 0 = cut.before i no_turn (omega arith) lt in
        let order = (order_here i q r h).0 in
        let same : r.group ≡ group = (taken_of group layers r t).0 in
        omega (arith, under, order, same);
  }

  not_here : (i q n : ℕ) (r : RuleView) → IsTakenIn slots places (get_or view.turns n no_turn).number layers None → i ≡ n → IsIn slots view.turns places i q r → takes group layers r ≡ true → ⊥
  not_here i q n r none e h t = none q r h.place h.slot h.there (h.table ∙ ap (λ (k : ℕ). (get_or view.turns k no_turn).number) e) (taken_of group layers r t).1

  -- one turn more, where no rule of its table takes the layers
  pub passed : (n last : ℕ) (o : Option Lead) → IsTakenIn slots places (get_or view.turns n no_turn).number layers None
      → Reached slots view.turns places group layers n last o → Reached slots view.turns places group layers (n + 1) last o
  passed n last None none k = record {
    is = k.is;
    floor = λ i le lt. k.floor i (omega arith) lt;
    none = λ i q r lt h t. elim (eqb_tells i n) [ inl e ↦ not_here i q n r none e.1 h t | inr e ↦ let other = e.1 in k.none i q r (omega arith) h t ];
  }
  passed n last (Some lead) none k = record {
    rule = k.rule;
    at = k.at;
    id = k.id;
    taken = k.taken;
    low = k.low;
    is = k.is;
    floor = λ i le lt. k.floor i (omega arith) lt;
    least = λ i q r lt h t. elim (eqb_tells i n) [ inl e ↦ absurd (not_here i q n r none e.1 h t) | inr e ↦ let other = e.1 in k.least i q r (omega arith) h t ];
  }

  -- the rule of a turn that takes the layers
  record Hit (n : ℕ) (lead : Lead) (r : RuleView) : Type 0 where
    at : slice_get slots lead.place ≡ Some (Some r)
    id : r.id ≡ lead.id
    order : (get_or view.turns n no_turn).order ≡ order_of r.group r.priority
    low : r.priority < 2 ^ 32
    does : accepts r.test layers ≡ true
    least : (i q : ℕ) (s : RuleView) → i ≡ n → IsIn slots view.turns places i q s → takes group layers s ≡ true → (lead.place ≤ q) × (order_of s.group s.priority ≡ order_of r.group r.priority) × (s.priority < 2 ^ 32)

  hit : (n : ℕ) (lead : Lead) → n < length view.turns → (k : IsTakenIn slots places (get_or view.turns n no_turn).number layers (Some lead)) → Hit n lead k.rule
  hit n lead inside k =
      let here = order_here n lead.place k.rule (record { place = k.place; slot = k.at; there = k.there; inside = inside; table = k.table }) in
      record {
        at = k.at;
        id = k.id;
        order = here.0;
        low = here.1;
        does = k.does;
        least = λ i q s e h t.
            let own = order_here i q s h in
            let same : (get_or view.turns i no_turn).order ≡ (get_or view.turns n no_turn).order = ap (λ (j : ℕ). (get_or view.turns j no_turn).order) e in (
              k.least q s h.place h.slot h.there (h.table ∙ ap (λ (j : ℕ). (get_or view.turns j no_turn).number) e) (taken_of group layers s t).1,
              sym own.0 ∙ same ∙ here.0,
              own.1,
            );
      }

  takes_it : (r : RuleView) → r.group ≡ group → accepts r.test layers ≡ true → takes group layers r ≡ true
  takes_it r e a = ap (λ (b : Bool). b && accepts r.test layers) (eq-eqb r.group group e) ∙ a

  later_turns : (n i : ℕ) → n + 1 ≤ i → i < length view.turns → (get_or view.turns n no_turn).order ≤ (get_or view.turns i no_turn).order
  later_turns n i le lt = turned.rising n i no_turn (omega arith) lt

  pub first_hit : (n last : ℕ) (lead : Lead) → n < length view.turns → (get_or view.turns n no_turn).order ≤ last → IsTakenIn slots places (get_or view.turns n no_turn).number layers (Some lead)
      → Reached slots view.turns places group layers n last None → Reached slots view.turns places group layers (n + 1) (get_or view.turns n no_turn).order (Some lead)
  first_hit n last lead inside within_last k y =
      let h = hit n lead inside k in
      let floor : order_of group 0 ≤ (get_or view.turns n no_turn).order = y.floor n (omega arith) inside in
      let of_group : k.rule.group ≡ group = omega (arith, floor, within_last, y.is, h.order, h.low) in
      record {
        rule = k.rule;
        at = h.at;
        id = h.id;
        taken = takes_it k.rule of_group h.does;
        low = h.low;
        is = h.order ∙ ap (λ (m : ℕ). order_of m k.rule.priority) of_group;
        floor = λ i le lt. later_turns n i le lt;
        least = λ i q r lt o t. elim (eqb_tells i n) [
          | inl e ↦ let own = h.least i q r e.1 o t in let place = own.0 in let order = own.1 in let low = own.2 in let mine = h.low in let same = (taken_of group layers r t).0 in omega (arith, place, order, low, mine, same, of_group)
          | inr e ↦ let other = e.1 in absurd (y.none i q r (omega arith) o t)
        ];
      }

  pub next_hit : (n last : ℕ) (first lead : Lead) → n < length view.turns → (get_or view.turns n no_turn).order ≤ last → IsTakenIn slots places (get_or view.turns n no_turn).number layers (Some lead)
      → Reached slots view.turns places group layers n last (Some first) → Reached slots view.turns places group layers (n + 1) (get_or view.turns n no_turn).order (Some (earlier (Some first) lead))
  next_hit n last first lead inside within_last k y = by (nat_lt lead.place first.place) refl where
    h : Hit n lead k.rule
    h = hit n lead inside k

    same_order : order_of k.rule.group k.rule.priority ≡ order_of group y.rule.priority
    same_order = let floor : last ≤ (get_or view.turns n no_turn).order = y.floor n (omega arith) inside in omega (arith, floor, within_last, y.is, h.order)

    same : (k.rule.group ≡ group) × (k.rule.priority ≡ y.rule.priority)
    same = same_from_place k.rule.group k.rule.priority group y.rule.priority (2 ^ 32) h.low y.low same_order

    order_is : (get_or view.turns n no_turn).order ≡ order_of group y.rule.priority
    order_is = h.order ∙ same_order

    priority_is : (i q : ℕ) (r : RuleView) → i ≡ n → IsIn slots view.turns places i q r → takes group layers r ≡ true → (r.priority ≡ y.rule.priority) × (lead.place ≤ q)
    priority_is i q r e o t =
        let own = h.least i q r e o t in
        let one = same_from_place r.group r.priority k.rule.group k.rule.priority (2 ^ 32) own.2 h.low own.1 in
        (one.1 ∙ same.1, own.0)

    by : (b : Bool) → nat_lt lead.place first.place ≡ b → Reached slots view.turns places group layers (n + 1) (get_or view.turns n no_turn).order (Some (if b then lead else first))
    by true e = record {
      rule = k.rule;
      at = h.at;
      id = h.id;
      taken = takes_it k.rule same.0 h.does;
      low = h.low;
      is = order_is ∙ ap (order_of group) (sym same.1);
      floor = λ i le lt. later_turns n i le lt;
      least = λ i q r lt o t. elim (eqb_tells i n) [
        | inl f ↦ let p = priority_is i q r f.1 o t in let prio = p.0 in let place = p.1 in let mine = same.1 in omega (arith, prio, place, mine)
        | inr f ↦ let other = f.1 in let old = y.least i q r (omega arith) o t in let mine = same.1 in let front = ltb-true lead.place first.place e in omega (arith, old, mine, front)
      ];
    }
    by false e = record {
      rule = y.rule;
      at = y.at;
      id = y.id;
      taken = y.taken;
      low = y.low;
      is = order_is;
      floor = λ i le lt. later_turns n i le lt;
      least = λ i q r lt o t. elim (eqb_tells i n) [
        | inl f ↦ let p = priority_is i q r f.1 o t in let prio = p.0 in let place = p.1 in let front = ltb-false lead.place first.place e in omega (arith, prio, place, front)
        | inr f ↦ let other = f.1 in y.least i q r (omega arith) o t
      ];
    }

  pub one_hit : (n last : ℕ) (best : Option Lead) (lead : Lead) → n < length view.turns → (get_or view.turns n no_turn).order ≤ last → IsTakenIn slots places (get_or view.turns n no_turn).number layers (Some lead)
      → Reached slots view.turns places group layers n last best → Reached slots view.turns places group layers (n + 1) (get_or view.turns n no_turn).order (Some (earlier best lead))
  one_hit n last None lead inside within_last k y = first_hit n last lead inside within_last k y
  one_hit n last (Some first) lead inside within_last k y = next_hit n last first lead inside within_last k y

  -- where all turns to come are later, the best so far is the best
  best_by : (n last : ℕ) (o : Option Lead) → ((i : ℕ) → n ≤ i → i < length view.turns → last < (get_or view.turns i no_turn).order)
      → Reached slots view.turns places group layers n last o → IsBest slots group layers o
  best_by n last None later y = none where
    none : (q : ℕ) (s : RuleView) → slice_get slots q ≡ Some (Some s) → takes group layers s ≡ true → ⊥
    none q s slot t = by (nat_lt (turn_of q s slot).0 n) refl where
      o : IsIn slots view.turns places (turn_of q s slot).0 q s
      o = (turn_of q s slot).1

      by : (b : Bool) → nat_lt (turn_of q s slot).0 n ≡ b → ⊥
      by true e = y.none (turn_of q s slot).0 q s (ltb-true (turn_of q s slot).0 n e) o t
      by false e =
          let over : last < (get_or view.turns (turn_of q s slot).0 no_turn).order = later (turn_of q s slot).0 (ltb-false (turn_of q s slot).0 n e) o.inside in
          let own = order_here (turn_of q s slot).0 q s o in let order = own.0 in let low = own.1 in let same = (taken_of group layers s t).0 in
          omega (arith, over, order, low, same, y.is)
  best_by n last (Some lead) later y = record { rule = y.rule; at = y.at; id = y.id; taken = y.taken; least = least } where
    least : (q : ℕ) (s : RuleView) → slice_get slots q ≡ Some (Some s) → takes group layers s ≡ true → rank y.rule.priority lead.place ≤ rank s.priority q
    least q s slot t = by (nat_lt (turn_of q s slot).0 n) refl where
      o : IsIn slots view.turns places (turn_of q s slot).0 q s
      o = (turn_of q s slot).1

      by : (b : Bool) → nat_lt (turn_of q s slot).0 n ≡ b → rank y.rule.priority lead.place ≤ rank s.priority q
      by true e = y.least (turn_of q s slot).0 q s (ltb-true (turn_of q s slot).0 n e) o t
      by false e =
          let over : last < (get_or view.turns (turn_of q s slot).0 no_turn).order = later (turn_of q s slot).0 (ltb-false (turn_of q s slot).0 n e) o.inside in
          let own = order_here (turn_of q s slot).0 q s o in let order = own.0 in let same = (taken_of group layers s t).0 in
          let short = slice_get_within slots lead.place (Some y.rule) y.at in
          omega (arith, over, order, same, y.is, short, ok.short)

  pub best_behind : (n last : ℕ) (o : Option Lead) → last < (get_or view.turns n no_turn).order
      → Reached slots view.turns places group layers n last o → IsBest slots group layers o
  best_behind n last o over y = best_by n last o (λ i le lt. let up : (get_or view.turns n no_turn).order ≤ (get_or view.turns i no_turn).order = turned.rising n i no_turn le lt in omega (arith, over, up)) y

  pub best_at_end : (n last : ℕ) (o : Option Lead) → length view.turns ≤ n → Reached slots view.turns places group layers n last o → IsBest slots group layers o
  best_at_end n last o over y = best_by n last o (λ i le lt. absurd (omega (arith, over, le, lt))) y
