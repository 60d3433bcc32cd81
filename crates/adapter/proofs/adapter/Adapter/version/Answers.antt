use Rattle.std.proofs.Common.{ap, ◌∙◌, length, subst}
use Rattle.std.specs.List.{All}
use Rattle.port_state.specs.Changes.{HasFewActions, changes_of}
use Rattle.adapter.specs.Seen.{Seen}
use Rattle.adapter.proofs.adapter.Adapter.version.Goals as goal

pub returns-clause-number : goal.returns-clause-number
returns-clause-number c =
    c.len.ensures.number ∙ ap length c.self.invariant.1.all ∙ ap (λ (s : Seen). length (changes_of s.limits s.history)) c.self.view_is

pub returns-clause-few : goal.returns-clause-few
returns-clause-few c =
    subst (λ (s : Seen). All HasFewActions (changes_of s.limits s.history)) c.self.view_is (subst (All HasFewActions) c.self.invariant.1.all c.self.invariant.1.few)
