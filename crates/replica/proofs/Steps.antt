-- A replica catches up in parts.
use Rattle.std.proofs.Common.{◌≡◌, ℕ, ◌+◌, List, ◌++◌, length, fold, ap, ◌∙◌, arith}
use Rattle.std.proofs.lemmas.List.{length-append}
use Rattle.std.proofs.lemmas.List.Sums.{fold-append}
use Rattle.flow_rules.specs.declared.change.Change.{Change}
use Rattle.flow_rules.specs.Changes.{changed}
use Rattle.flow_rules.specs.Walk.{Flows}
use Rattle.replica.specs.Caught.{ReplicaView, caught_up}

pub caught_up-parts : (replica : ReplicaView) (first others : List Change) → caught_up replica (first ++ others) ≡ caught_up (caught_up replica first) others
caught_up-parts replica first others =
    let at : ℕ → Flows → ReplicaView = λ version flows. record replica { version = version; flows = flows } in
    let count : replica.version + length (first ++ others) ≡ replica.version + length first + length others = omega (arith, length-append first others) in
    ap (λ version. at version (fold changed replica.flows (first ++ others))) count
    ∙ ap (at (replica.version + length first + length others)) (fold-append changed replica.flows first others)
