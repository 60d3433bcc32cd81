-- What an index keeps of its rules to find them.
use Rattle.std.specs.Prelude.{◌≡◌, ℕ, ◌≤◌, ◌<◌, nat_eq, length, List, [], ◌∷◌, ◌++◌, Option, None, Some, slice_get}
use Rattle.std.specs.HashMap as hash
use Rattle.flow_rules.specs.RuleView.{RuleView}
use Rattle.rule_index.specs.declared.table.Home.{Home}
use Rattle.rule_index.specs.declared.table.Table.{Table}
use Rattle.rule_index.specs.declared.chain.HomeChain.{HomeChain}
use Rattle.rule_index.specs.declared.chain.RulePlace.{RulePlace}
use Rattle.rule_index.specs.declared.finder.Finder.{Finder}
use Rattle.rule_index.specs.Places.{same_home, AreLinked, IsChain}
use Rattle.rule_index.specs.Rank.{present}
use Rattle.rule_index.specs.Tables.{IsHome}

pub record Indexed (slots : List (Option RuleView)) (tables : List Table) (places : List RulePlace) (chains : Home → Option HomeChain) (ids : ℕ → Option ℕ) : Type 0 where
  pub long : length places ≡ length slots
  pub short : length slots ≤ 1048576
  pub kept : (p : ℕ) (rule : RuleView) (x : RulePlace) → slice_get slots p ≡ Some (Some rule) → slice_get places p ≡ Some x → IsHome tables rule x.home
  pub linked : AreLinked places
  pub chained : (home : Home) → IsChain slots places home (chains home)
  pub found : (p : ℕ) (rule : RuleView) → slice_get slots p ≡ Some (Some rule) → ids rule.id ≡ Some p

abbrev pub chain_of : Finder → Home → Option HomeChain
chain_of finder home = hash.get same_home finder.chains home

abbrev pub place_of : Finder → ℕ → Option ℕ
place_of finder id = hash.get nat_eq finder.ids id

abbrev pub IsIndexed : List (Option RuleView) → Finder → Type 0
IsIndexed slots finder = Indexed slots finder.tables.list finder.places.items (chain_of finder) (place_of finder)

-- no rule has this id
abbrev pub HasNo : List (Option RuleView) → ℕ → Type 0
HasNo slots id = (p : ℕ) (rule : RuleView) → slice_get slots p ≡ Some (Some rule) → rule.id ≡ id → ⊥

-- no two rules have one id
abbrev pub AreDistinct : List (Option RuleView) → Type 0
AreDistinct slots = (p q : ℕ) (r s : RuleView) → slice_get slots p ≡ Some (Some r) → slice_get slots q ≡ Some (Some s) → r.id ≡ s.id → p ≡ q

pub record IsPlaceOf (slots : List (Option RuleView)) (id p : ℕ) : Type 0 where
  pub rule : RuleView
  pub at : slice_get slots p ≡ Some (Some rule)
  pub is : rule.id ≡ id

abbrev pub IsFound : List (Option RuleView) → ℕ → Option ℕ → Type 0
IsFound slots id None = HasNo slots id
IsFound slots id (Some p) = IsPlaceOf slots id p

-- there is one rule more, or none
abbrev pub Adds : Finder → Finder → RuleView → Type 0
Adds old new rule = (slots : List (Option RuleView)) → IsIndexed slots old → length slots < 1048576 → HasNo slots rule.id → IsIndexed (slots ++ Some rule ∷ []) new

abbrev pub Stays : Finder → Finder → RuleView → Type 0
Stays old new rule = (slots : List (Option RuleView)) → IsIndexed slots old → HasNo slots rule.id → IsIndexed slots new

-- the rule in a slot, if there is a slot
abbrev pub rule_in : Option (Option RuleView) → Option RuleView
rule_in None = None
rule_in (Some slot) = slot

-- the slots have so many rules, and they can be found
pub record IsSound (slots : List (Option RuleView)) (finder : Finder) (count : ℕ) : Type 0 where
  pub indexed : IsIndexed slots finder
  pub counted : count ≡ length (present slots)
