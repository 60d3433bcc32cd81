-- Places, each with its home, and the chains of the places that have one home.
use Rattle.std.specs.Prelude.{◌≡◌, ℕ, zero, suc, ◌<◌, ◌≤◌, Bool, true, false, nat_eq, if◌then◌else◌, ◌==◌, ◌&&◌, List, [], ◌∷◌, Option, None, Some, slice_get}
use Rattle.std.specs.Option.{option_map}
use Rattle.packet_headers.specs.declared.items.LayerAt.{LayerAt}
use Rattle.pattern_items.specs.Matches.{accepts}
use Rattle.flow_rules.specs.RuleView.{RuleView}
use Rattle.rule_index.specs.declared.table.Home.{Home}
use Rattle.rule_index.specs.declared.chain.HomeChain.{HomeChain}
use Rattle.rule_index.specs.declared.chain.Lead.{Lead}
use Rattle.rule_index.specs.declared.chain.RulePlace.{RulePlace}

abbrev pub same_home : Home → Home → Bool
same_home a b = (a.digest == b.digest) && (a.table == b.table)

-- a slot has a rule, and the rule accepts the layers if there are any to ask of
abbrev pub passes : Option (List LayerAt) → Option RuleView → Bool
passes asked None = false
passes None (Some rule) = true
passes (Some layers) (Some rule) = accepts rule.test layers

-- the id of the rule in a slot that passes
abbrev pub passing : Option (List LayerAt) → Option RuleView → Option ℕ
passing asked None = None
passing asked (Some rule) = if passes asked (Some rule) then Some rule.id else None

abbrev pub home_at : List RulePlace → ℕ → Option Home
home_at places p = option_map (λ (x : RulePlace). x.home) (slice_get places p)

-- the next place of a home behind a place
abbrev pub IsNext : List RulePlace → Home → ℕ → Option ℕ → Type 0
IsNext places home p None = (q : ℕ) → p < q → home_at places q ≡ Some home → ⊥
IsNext places home p (Some n) = (p < n) × (home_at places n ≡ Some home) × ((q : ℕ) → p < q → home_at places q ≡ Some home → n ≤ q)

-- each place knows the next of its home
abbrev pub AreLinked : List RulePlace → Type 0
AreLinked places = (p : ℕ) (x : RulePlace) → slice_get places p ≡ Some x → IsNext places x.home p x.next

-- the first place of a home, from a place on, whose slot passes, and the id of the rule there
pub record IsFirstAt (asked : Option (List LayerAt)) (slots : List (Option RuleView)) (places : List RulePlace) (home : Home) (from : ℕ) (lead : Lead) : Type 0 where
  pub of_home : home_at places lead.place ≡ Some home
  pub rule : RuleView
  pub at : slice_get slots lead.place ≡ Some (Some rule)
  pub id : rule.id ≡ lead.id
  pub does : passes asked (Some rule) ≡ true
  pub least : (q : ℕ) (s : Option RuleView) → from ≤ q → home_at places q ≡ Some home → slice_get slots q ≡ Some s → passes asked s ≡ true → lead.place ≤ q

abbrev pub IsFirst : Option (List LayerAt) → List (Option RuleView) → List RulePlace → Home → ℕ → Option Lead → Type 0
IsFirst asked slots places home from None = (q : ℕ) (s : Option RuleView) → from ≤ q → home_at places q ≡ Some home → slice_get slots q ≡ Some s → passes asked s ≡ true → ⊥
IsFirst asked slots places home from (Some lead) = IsFirstAt asked slots places home from lead

-- the first place of a home that has a rule, if any has, and the last of all its places
pub record Ends (slots : List (Option RuleView)) (places : List RulePlace) (home : Home) (chain : HomeChain) : Type 0 where
  pub lead : IsFirst None slots places home 0 chain.lead
  pub last : home_at places chain.last ≡ Some home
  pub greatest : (q : ℕ) → home_at places q ≡ Some home → q ≤ chain.last

abbrev pub IsChain : List (Option RuleView) → List RulePlace → Home → Option HomeChain → Type 0
IsChain slots places home None = (q : ℕ) → home_at places q ≡ Some home → ⊥
IsChain slots places home (Some chain) = Ends slots places home chain

-- the places with this one as the next of another
abbrev pub relinked : List RulePlace → ℕ → ℕ → List RulePlace
relinked [] last next = []
relinked (x ∷ xs) zero next = record x { next = Some next } ∷ xs
relinked (x ∷ xs) (suc last) next = x ∷ relinked xs last next

-- the places with this one as the next of the last one of its home, if there is one
abbrev pub linked_by : List RulePlace → Option ℕ → ℕ → List RulePlace
linked_by places None next = places
linked_by places (Some last) next = relinked places last next

abbrev pub lead_in : Option HomeChain → Option Lead
lead_in None = None
lead_in (Some chain) = chain.lead

abbrev pub last_of : Option HomeChain → Option ℕ
last_of None = None
last_of (Some chain) = Some chain.last

-- the rule at the first place, or this one where there was none
abbrev pub led_by : Option Lead → Lead → Lead
led_by None new = new
led_by (Some lead) new = lead

-- the ends of a home\'s places with one more
abbrev pub longer : Option HomeChain → Lead → HomeChain
longer None new = record { lead = Some new; last = new.place }
longer (Some chain) new = record { lead = Some (led_by chain.lead new); last = new.place }

-- the first place that has a rule once that of a place is gone, where this is the first behind
abbrev pub led_behind : ℕ → Option Lead → Option Lead → Option Lead
led_behind place next None = None
led_behind place next (Some lead) = if nat_eq lead.place place then next else Some lead

abbrev pub moved : ℕ → Option Lead → HomeChain → HomeChain
moved place next chain = record { lead = led_behind place next chain.lead; last = chain.last }
