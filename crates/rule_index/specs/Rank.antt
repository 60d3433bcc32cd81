-- The order in which rules of a group take a frame, as one number: the priority, and then the place.
use Rattle.std.specs.Prelude.{◌≡◌, ℕ, ◌+◌, ◌*◌, ◌^◌, ◌≤◌, nat_lt, true, if◌then◌else◌, List, [], ◌∷◌, Option, None, Some, slice_get}
use Rattle.packet_headers.specs.declared.items.LayerAt.{LayerAt}
use Rattle.pattern_items.specs.Matches.{accepts}
use Rattle.flow_rules.specs.RuleView.{RuleView}
use Rattle.flow_rules.specs.Best.{takes}
use Rattle.rule_index.specs.declared.chain.Lead.{Lead}
use Rattle.rule_index.specs.declared.chain.RulePlace.{RulePlace}

-- the rules that are there, in order
abbrev pub present : List (Option RuleView) → List RuleView
present [] = []
present (None ∷ slots) = present slots
present (Some rule ∷ slots) = rule ∷ present slots

abbrev pub rank : ℕ → ℕ → ℕ
rank priority place = priority * 2 ^ 32 + place

-- the rule of the least rank that takes the layers, by its place and its id
pub record IsBestAt (slots : List (Option RuleView)) (group : ℕ) (layers : List LayerAt) (lead : Lead) : Type 0 where
  pub rule : RuleView
  pub at : slice_get slots lead.place ≡ Some (Some rule)
  pub id : rule.id ≡ lead.id
  pub taken : takes group layers rule ≡ true
  pub least : (q : ℕ) (s : RuleView) → slice_get slots q ≡ Some (Some s) → takes group layers s ≡ true → rank rule.priority lead.place ≤ rank s.priority q

abbrev pub IsBest : List (Option RuleView) → ℕ → List LayerAt → Option Lead → Type 0
IsBest slots group layers None = (q : ℕ) (s : RuleView) → slice_get slots q ≡ Some (Some s) → takes group layers s ≡ true → ⊥
IsBest slots group layers (Some lead) = IsBestAt slots group layers lead

-- the first place of a table whose rule accepts the layers
pub record IsTakenAt (slots : List (Option RuleView)) (places : List RulePlace) (number : ℕ) (layers : List LayerAt) (lead : Lead) : Type 0 where
  pub rule : RuleView
  pub at : slice_get slots lead.place ≡ Some (Some rule)
  pub id : rule.id ≡ lead.id
  pub place : RulePlace
  pub there : slice_get places lead.place ≡ Some place
  pub table : place.home.table ≡ number
  pub does : accepts rule.test layers ≡ true
  pub least : (q : ℕ) (r : RuleView) (x : RulePlace) → slice_get slots q ≡ Some (Some r) → slice_get places q ≡ Some x → x.home.table ≡ number → accepts r.test layers ≡ true → lead.place ≤ q

abbrev pub IsTakenIn : List (Option RuleView) → List RulePlace → ℕ → List LayerAt → Option Lead → Type 0
IsTakenIn slots places number layers None =
    (q : ℕ) (r : RuleView) (x : RulePlace) → slice_get slots q ≡ Some (Some r) → slice_get places q ≡ Some x → x.home.table ≡ number → accepts r.test layers ≡ true → ⊥
IsTakenIn slots places number layers (Some lead) = IsTakenAt slots places number layers lead

-- the earlier of two places, if there are two
abbrev pub earlier : Option Lead → Lead → Lead
earlier None lead = lead
earlier (Some first) lead = if nat_lt lead.place first.place then lead else first
