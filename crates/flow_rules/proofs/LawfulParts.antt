-- Lawful changes, one at a time and in parts.
use Rattle.std.proofs.Common.{◌↔◌, ℕ, List, [], ◌∷◌, ◌++◌, fold}
use Rattle.flow_rules.specs.declared.change.Change.{Change}
use Rattle.flow_rules.specs.declared.change.Change.TheVariants as changes
use Rattle.flow_rules.specs.Changes.{changed}
use Rattle.flow_rules.specs.Lawful.{AreLawfulOn}
use Rattle.flow_rules.specs.Walk.{Flows}

-- the changes behind a lawful one are lawful where it has taken place
pub lawful-behind : (flows : Flows) (change : Change) (list : List Change) → AreLawfulOn flows.rxq flows (change ∷ list)
    → AreLawfulOn (changed flows change).rxq (changed flows change) list
lawful-behind flows (changes.Added rule) list lawful = lawful.2
lawful-behind flows (changes.Removed id) list lawful = lawful.2
lawful-behind flows changes.Flushed list lawful = lawful.2
lawful-behind flows (changes.IndirectSet id value) list lawful = lawful.2
lawful-behind flows (changes.IndirectGone id) list lawful = lawful.2
lawful-behind flows (changes.Isolated on) list lawful = lawful.2

-- behind those before them, and joined again
apart : (rxq : ℕ) (flows : Flows) (first others : List Change) → AreLawfulOn rxq flows (first ++ others)
    → AreLawfulOn rxq flows first × AreLawfulOn rxq (fold changed flows first) others
apart rxq flows [] others lawful = (tt, lawful)
apart rxq flows (change ∷ first) others lawful =
    let parts = apart rxq (changed flows change) first others lawful.2 in
    ((lawful.0, lawful.1, parts.0), parts.1)

joined : (rxq : ℕ) (flows : Flows) (first others : List Change) → AreLawfulOn rxq flows first → AreLawfulOn rxq (fold changed flows first) others
    → AreLawfulOn rxq flows (first ++ others)
joined rxq flows [] others now later = later
joined rxq flows (change ∷ first) others now later = (now.0, now.1, joined rxq (changed flows change) first others now.2 later)

pub lawful-parts : (rxq : ℕ) (flows : Flows) (first others : List Change)
    → AreLawfulOn rxq flows (first ++ others) ↔ (AreLawfulOn rxq flows first × AreLawfulOn rxq (fold changed flows first) others)
lawful-parts rxq flows first others = (apart rxq flows first others, λ parts. joined rxq flows first others parts.0 parts.1)
