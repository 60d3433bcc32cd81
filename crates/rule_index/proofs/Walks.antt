-- The way along a home\'s places.
use Rattle.std.proofs.Common.{◌≡◌, Bool, if◌then◌else◌, ℕ, ◌+◌, ◌-◌, ◌<◌, ◌≤◌, inl, inr, zero, suc, true, false, length, get_or, List, [], ◌∷◌, Option, None, Some, refl, sym, ap, subst, ◌∙◌, arith}
use Rattle.std.proofs.Math.ListN.{set}
use Rattle.std.proofs.lemmas.Bool.Decides.{eqb_tells}
use Rattle.std.proofs.lemmas.Option.{slice_get_within}
use Rattle.std.specs.List.{slice_get}
use Rattle.std.specs.Option.{option_map}
use Rattle.packet_headers.specs.declared.items.LayerAt.{LayerAt}
use Rattle.flow_rules.specs.RuleView.{RuleView}
use Rattle.rule_index.specs.declared.table.Home.{Home}
use Rattle.rule_index.specs.declared.chain.RulePlace.{RulePlace}
use Rattle.rule_index.specs.Places.{passes, passing, home_at, IsNext, AreLinked, IsFirst, relinked}

-- what passes is still to come
pub record Coming (asked : Option (List LayerAt)) (slots : List (Option RuleView)) (places : List RulePlace) (home : Home) (from a : ℕ) : Type 0 where
  pub of_home : home_at places a ≡ Some home
  pub behind : from ≤ a
  pub least : (q : ℕ) (s : Option RuleView) → from ≤ q → home_at places q ≡ Some home → slice_get slots q ≡ Some s → passes asked s ≡ true → a ≤ q

abbrev pub Ahead : Option (List LayerAt) → List (Option RuleView) → List RulePlace → Home → ℕ → Option ℕ → Type 0
Ahead asked slots places home from None = IsFirst asked slots places home from None
Ahead asked slots places home from (Some a) = Coming asked slots places home from a

pub ahead_start : (asked : Option (List LayerAt)) (slots : List (Option RuleView)) (places : List RulePlace) (home : Home) (from : ℕ) → home_at places from ≡ Some home → Ahead asked slots places home from (Some from)
ahead_start asked slots places home from e = record { of_home = e; behind = (let h : from ≤ from = omega arith in h); least = λ q s le h i t. le }

-- a place of a home
abbrev home_in : Option RulePlace → Option Home
home_in o = option_map (λ (x : RulePlace). x.home) o

within_by : (places : List RulePlace) (home : Home) (a : ℕ) (o : Option RulePlace) → slice_get places a ≡ o → home_in o ≡ Some home → a < length places
within_by places home a None e h = cc
within_by places home a (Some x) e h = slice_get_within places a x e

pub within : (places : List RulePlace) (home : Home) (a : ℕ) → home_at places a ≡ Some home → a < length places
within places home a h = within_by places home a (slice_get places a) refl h

pub home_is : (places : List RulePlace) (home : Home) (a : ℕ) (x : RulePlace) → slice_get places a ≡ Some x → home_at places a ≡ Some home → x.home ≡ home
home_is places home a x e h = let k : Some x.home ≡ Some home = ap home_in (sym e) ∙ h in cc

-- behind a place that doesn\'t pass comes the next one
pub ahead_next : (asked : Option (List LayerAt)) (slots : List (Option RuleView)) (places : List RulePlace) (home : Home) (from a : ℕ) (x : RulePlace) (s : Option RuleView)
    → AreLinked places → slice_get places a ≡ Some x → slice_get slots a ≡ Some s → passes asked s ≡ false → Coming asked slots places home from a → Ahead asked slots places home from x.next
ahead_next asked slots places home from a x s linked at slot misses coming = by x.next (subst (λ (h : Home). IsNext places h a x.next) (home_is places home a x at coming.of_home) (linked a x at)) where
  not_here : (q : ℕ) (t : Option RuleView) → slice_get slots q ≡ Some t → passes asked t ≡ true → a ≤ q → a < q
  not_here q t i p le = elim (eqb_tells a q) [
    | inl same ↦ absurd (let there : slice_get slots a ≡ Some t = ap (slice_get slots) same.1 ∙ i in let one : s ≡ t = cc in let no : false ≡ true = sym misses ∙ ap (passes asked) one ∙ p in let f : ⊥ = cc in f)
    | inr apart ↦ let other = apart.1 in omega arith
  ]

  by : (n : Option ℕ) → IsNext places home a n → Ahead asked slots places home from n
  by None none = λ q t le h i p. none q (not_here q t i p (coming.least q t le h i p)) h
  by (Some n) next = record { of_home = next.1; behind = (let f = coming.behind in let g = next.0 in omega arith); least = λ q t le h i p. next.2 q (not_here q t i p (coming.least q t le h i p)) h }

-- what passes, by its id
pub misses : (asked : Option (List LayerAt)) (s : Option RuleView) → None ≡ passing asked s → passes asked s ≡ false
misses asked None e = refl
misses asked (Some rule) e = by (passes asked (Some rule)) refl e where
  by : (b : Bool) → passes asked (Some rule) ≡ b → None ≡ (if b then Some rule.id else None) → passes asked (Some rule) ≡ false
  by true t n = cc
  by false t n = t

pub found : (asked : Option (List LayerAt)) (slots : List (Option RuleView)) (places : List RulePlace) (home : Home) (from a : ℕ) (s : Option RuleView) (id : ℕ)
    → slice_get slots a ≡ Some s → Some id ≡ passing asked s → Coming asked slots places home from a → IsFirst asked slots places home from (Some (record { place = a; id = id }))
found asked slots places home from a None id slot p coming = cc
found asked slots places home from a (Some rule) id slot p coming = by (passes asked (Some rule)) refl p where
  by : (b : Bool) → passes asked (Some rule) ≡ b → Some id ≡ (if b then Some rule.id else None) → IsFirst asked slots places home from (Some (record { place = a; id = id }))
  by false t e = cc
  by true t e = record { of_home = coming.of_home; rule = rule; at = slot; id = (let same : id ≡ rule.id = cc in sym same); does = t; least = coming.least }

-- how many places are left
abbrev pub left : List RulePlace → Option ℕ → ℕ
left places None = 0
left places (Some a) = length places + 1 - a

pub left_less : (places : List RulePlace) (a : ℕ) (x : RulePlace) → AreLinked places → slice_get places a ≡ Some x → left places x.next < left places (Some a)
left_less places a x linked at = by x.next (linked a x at) where
  by : (n : Option ℕ) → IsNext places x.home a n → left places n < left places (Some a)
  by None none = let lt = slice_get_within places a x at in omega arith
  by (Some n) next = let lt = slice_get_within places a x at in let more = next.0 in omega arith

pub set_is_relinked : (places : List RulePlace) (last next : ℕ) (d : RulePlace) → last < length places → set places last (record (get_or places last d) { next = Some next }) ≡ relinked places last next
set_is_relinked [] last next d lt = absurd (omega arith)
set_is_relinked (x ∷ xs) zero next d lt = refl
set_is_relinked (x ∷ xs) (suc last) next d lt = ap (λ (l : List RulePlace). x ∷ l) (set_is_relinked xs last next d (omega arith))

pub relinked_past : (places : List RulePlace) (last next : ℕ) → length places ≤ last → places ≡ relinked places last next
relinked_past [] last next le = refl
relinked_past (x ∷ xs) zero next le = absurd (omega arith)
relinked_past (x ∷ xs) (suc last) next le = ap (λ (l : List RulePlace). x ∷ l) (relinked_past xs last next (omega arith))
