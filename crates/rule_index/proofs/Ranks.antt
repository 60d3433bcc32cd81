-- The rule of the least rank is the best rule.
use Rattle.std.proofs.Common.{◌≡◌, ℕ, ◌^◌, ◌≤◌, ◌<◌, zero, suc, Bool, true, false, nat_lt, length, List, [], ◌∷◌, Option, None, Some, refl, sym, ap, ◌∙◌, subst, arith, filter, if◌then◌else◌}
use Rattle.std.proofs.lemmas.Bool.{ltb-true, ltb-false}
use Rattle.std.proofs.lemmas.Nat.{same_from_place}
use Rattle.std.proofs.lemmas.Option.{slice_get_within}
use Rattle.std.specs.List.{slice_get}
use Rattle.std.specs.Option.{option_map}
use Rattle.packet_headers.specs.declared.items.LayerAt.{LayerAt}
use Rattle.flow_rules.specs.RuleView.{RuleView}
use Rattle.flow_rules.specs.Best.{takes, better, first_lowest, best}
use Rattle.rule_index.specs.declared.chain.Lead.{Lead}
use Rattle.rule_index.specs.Rank.{present, rank, IsBest}

abbrev Slots : Type 0
Slots = List (Option RuleView)

-- a rule is the best, wherever it stands
record HasBest (slots : Slots) (group : ℕ) (layers : List LayerAt) (r : RuleView) : Type 0 where
  place : ℕ
  at : slice_get slots place ≡ Some (Some r)
  taken : takes group layers r ≡ true
  least : (q : ℕ) (s : RuleView) → slice_get slots q ≡ Some (Some s) → takes group layers s ≡ true → rank r.priority place ≤ rank s.priority q

abbrev Tells : Slots → ℕ → List LayerAt → Option RuleView → Type 0
Tells slots group layers None = IsBest slots group layers None
Tells slots group layers (Some r) = HasBest slots group layers r

-- a slot in front without a rule
behind_none : (slots : Slots) (group : ℕ) (layers : List LayerAt) (o : Option RuleView) → Tells slots group layers o → Tells (None ∷ slots) group layers o
behind_none slots group layers None t = none where
  none : (q : ℕ) (s : RuleView) → slice_get (None ∷ slots) q ≡ Some (Some s) → takes group layers s ≡ true → ⊥
  none zero s at is = cc
  none (suc q) s at is = t q s at is
behind_none slots group layers (Some r) t = record { place = suc t.place; at = t.at; taken = t.taken; least = least } where
  least : (q : ℕ) (s : RuleView) → slice_get (None ∷ slots) q ≡ Some (Some s) → takes group layers s ≡ true → rank r.priority (suc t.place) ≤ rank s.priority q
  least zero s at is = cc
  least (suc q) s at is = let h = t.least q s at is in omega arith

-- a rule in front that doesn't take them
passed_over : (slots : Slots) (group : ℕ) (layers : List LayerAt) (x : RuleView) (o : Option RuleView) → takes group layers x ≡ false → Tells slots group layers o → Tells (Some x ∷ slots) group layers o
passed_over slots group layers x None misses t = none where
  none : (q : ℕ) (s : RuleView) → slice_get (Some x ∷ slots) q ≡ Some (Some s) → takes group layers s ≡ true → ⊥
  none zero s at is = let same : x ≡ s = cc in let e : false ≡ true = sym misses ∙ ap (takes group layers) same ∙ is in cc
  none (suc q) s at is = t q s at is
passed_over slots group layers x (Some r) misses t = record { place = suc t.place; at = t.at; taken = t.taken; least = least } where
  least : (q : ℕ) (s : RuleView) → slice_get (Some x ∷ slots) q ≡ Some (Some s) → takes group layers s ≡ true → rank r.priority (suc t.place) ≤ rank s.priority q
  least zero s at is = let same : x ≡ s = cc in let e : false ≡ true = sym misses ∙ ap (takes group layers) same ∙ is in cc
  least (suc q) s at is = let h = t.least q s at is in omega arith

-- one that does
in_front : (slots : Slots) (group : ℕ) (layers : List LayerAt) (x : RuleView) (o : Option RuleView) → length slots ≤ 2 ^ 32 → takes group layers x ≡ true → Tells slots group layers o → HasBest (Some x ∷ slots) group layers (better x o)
in_front slots group layers x None short does t = record { place = 0; at = refl; taken = does; least = least } where
  least : (q : ℕ) (s : RuleView) → slice_get (Some x ∷ slots) q ≡ Some (Some s) → takes group layers s ≡ true → rank x.priority 0 ≤ rank s.priority q
  least zero s at is = let same : x ≡ s = cc in subst (λ (r : RuleView). rank x.priority 0 ≤ rank r.priority 0) same (omega arith)
  least (suc q) s at is = absurd (t q s at is)
in_front slots group layers x (Some later) short does t = by (nat_lt later.priority x.priority) refl where
  low : nat_lt later.priority x.priority ≡ true → (q : ℕ) (s : RuleView) → slice_get (Some x ∷ slots) q ≡ Some (Some s) → takes group layers s ≡ true → rank later.priority (suc t.place) ≤ rank s.priority q
  low b zero s at is =
      let same : x ≡ s = cc in let lower : later.priority < x.priority = ltb-true later.priority x.priority b in let inside : t.place < length slots = slice_get_within slots t.place (Some later) t.at in
      subst (λ (r : RuleView). rank later.priority (suc t.place) ≤ rank r.priority 0) same (omega arith)
  low b (suc q) s at is = let h = t.least q s at is in omega arith

  high : nat_lt later.priority x.priority ≡ false → (q : ℕ) (s : RuleView) → slice_get (Some x ∷ slots) q ≡ Some (Some s) → takes group layers s ≡ true → rank x.priority 0 ≤ rank s.priority q
  high b zero s at is = let same : x ≡ s = cc in subst (λ (r : RuleView). rank x.priority 0 ≤ rank r.priority 0) same (omega arith)
  high b (suc q) s at is = let h = t.least q s at is in let over : x.priority ≤ later.priority = ltb-false later.priority x.priority b in let inside : t.place < length slots = slice_get_within slots t.place (Some later) t.at in omega arith

  by : (b : Bool) → nat_lt later.priority x.priority ≡ b → HasBest (Some x ∷ slots) group layers (if b then later else x)
  by true b = record { place = suc t.place; at = t.at; taken = t.taken; least = low b }
  by false b = record { place = 0; at = refl; taken = does; least = high b }

tells_cons : (t : Bool) (slots : Slots) (group : ℕ) (layers : List LayerAt) (x : RuleView) → length slots ≤ 2 ^ 32 → takes group layers x ≡ t → Tells slots group layers (best (present slots) group layers)
    → Tells (Some x ∷ slots) group layers (first_lowest (if t then x ∷ filter (takes group layers) (present slots) else filter (takes group layers) (present slots)))
tells_cons true slots group layers x short e h = in_front slots group layers x (best (present slots) group layers) short e h
tells_cons false slots group layers x short e h = passed_over slots group layers x (best (present slots) group layers) e h

tells_best : (slots : Slots) (group : ℕ) (layers : List LayerAt) → length slots ≤ 2 ^ 32 → Tells slots group layers (best (present slots) group layers)
tells_best [] group layers short = λ q s at is. cc
tells_best (None ∷ slots) group layers short = behind_none slots group layers (best (present slots) group layers) (tells_best slots group layers (omega arith))
tells_best (Some x ∷ slots) group layers short =
    tells_cons (takes group layers x) slots group layers x (omega arith) refl (tells_best slots group layers (omega arith))

abbrev id_in : RuleView → ℕ
id_in rule = rule.id

abbrev id_of : Lead → ℕ
id_of lead = lead.id

same_rule : (slots : Slots) (group : ℕ) (layers : List LayerAt) (o : Option RuleView) (m : Option Lead)
    → length slots ≤ 2 ^ 32 → Tells slots group layers o → IsBest slots group layers m → option_map id_of m ≡ option_map id_in o
same_rule slots group layers None None short t l = refl
same_rule slots group layers None (Some lead) short t l = absurd (t lead.place l.rule l.at l.taken)
same_rule slots group layers (Some r) None short t l = absurd (l t.place r t.at t.taken)
same_rule slots group layers (Some r) (Some lead) short t l =
    let over = t.least lead.place l.rule l.at l.taken in
    let under = l.least t.place r t.at t.taken in
    let inside = slice_get_within slots t.place (Some r) t.at in
    let here = slice_get_within slots lead.place (Some l.rule) l.at in
    let place : lead.place ≡ t.place = (same_from_place l.rule.priority lead.place r.priority t.place (2 ^ 32) (omega (arith, short, here)) (omega (arith, short, inside)) (omega (arith, over, under))).1 in
    let one : l.rule ≡ r = (let e : Some (Some l.rule) ≡ Some (Some r) = sym l.at ∙ ap (slice_get slots) place ∙ t.at in cc) in
    ap (λ (n : ℕ). Some n) (sym l.id ∙ ap id_in one)

pub id_of_best : (slots : Slots) (group : ℕ) (layers : List LayerAt) (m : Option Lead) → length slots ≤ 2 ^ 32 → IsBest slots group layers m
    → option_map id_of m ≡ option_map id_in (best (present slots) group layers)
id_of_best slots group layers m short l = same_rule slots group layers (best (present slots) group layers) m short (tells_best slots group layers short) l
