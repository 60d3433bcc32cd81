use Rattle.std.proofs.Common.{◌≡◌, ◌+◌, ◌≤◌, ℕ, ap, ◌∙◌, length, drop, fold, subst, sym, List, arith}
use Rattle.std.proofs.lemmas.List.{length-drop}
use Rattle.std.specs.List.{All}
use Rattle.flow_rules.specs.declared.change.Change.{Change}
use Rattle.flow_rules.specs.Changes.{changed}
use Rattle.flow_rules.specs.Lawful.{AreLawful}
use Rattle.flow_rules.specs.Limits.{AreLimits}
use Rattle.flow_calls.specs.declared.entry.Entry.{Entry}
use Rattle.adapter.specs.declared.spare.Spare.{Spare}
use Rattle.flow_rules.specs.declared.limits.Limits.{Limits}
use Rattle.port_state.specs.Changes.{HasFewActions, changes_of, flows_at}
use Rattle.adapter.specs.Seen.{Seen}
use Rattle.port_state.specs.Changes.{AreTold}
use Rattle.port_state.specs.State.{flows_of, state_of}
use Rattle.port_state.proofs.ChangesTold.{flows-from, lawful-from}
use Rattle.adapter.proofs.adapter.Adapter.changes_from.Goals as goal

-- what is handed out, where a list tells the changes of a history
record Handed (seen : Seen) (version : ℕ) (out : List Change) : Type 0 where
  changes : out ≡ drop version (changes_of seen.limits seen.history)
  number : version + length out ≡ length (changes_of seen.limits seen.history)
  lawful : AreLawful seen.limits (flows_at seen.limits seen.history version) out
  flows : fold changed (flows_at seen.limits seen.history version) out ≡ flows_of (state_of seen.limits seen.history)

handed : (limits : Limits) (h : List Entry) (list out : List Change) (version : ℕ) (spare : Spare) (seen : Seen) → record { limits = limits; history = h; spare = spare } ≡ seen → AreLimits limits → AreTold limits h list
    → version ≤ length (changes_of seen.limits seen.history) → out ≡ drop version list → Handed seen version out
handed limits h list out version spare seen same ranges told within is =
    let all = changes_of limits h in
    let these : out ≡ drop version all = is ∙ ap (drop version) told.all in
    let within_here : version ≤ length all = subst (λ (s : Seen). version ≤ length (changes_of s.limits s.history)) (sym same) within in
    subst (λ (s : Seen). Handed s version out) same
    (record {
      changes = these;
      number = omega (arith, within_here, ap length these, length-drop version all);
      lawful = subst (AreLawful limits (flows_at limits h version)) (sym these) (lawful-from limits h version ranges (subst (All HasFewActions) told.all told.few));
      flows = ap (fold changed (flows_at limits h version)) these ∙ flows-from limits h version;
    })

pub returns-clause-changes : goal.returns-clause-changes
returns-clause-changes c =
    (handed c.self.inside.limits c.self.inside.history.entries c.self.inside.changes.list c.from.result.now c.args.version c.self.inside.history.spare _ c.self.view_is c.self.invariant.0.ranges c.self.invariant.1 c.requires
    c.from.ensures).changes

pub returns-clause-number : goal.returns-clause-number
returns-clause-number c =
    (handed c.self.inside.limits c.self.inside.history.entries c.self.inside.changes.list c.from.result.now c.args.version c.self.inside.history.spare _ c.self.view_is c.self.invariant.0.ranges c.self.invariant.1 c.requires
    c.from.ensures).number

pub returns-clause-lawful : goal.returns-clause-lawful
returns-clause-lawful c =
    (handed c.self.inside.limits c.self.inside.history.entries c.self.inside.changes.list c.from.result.now c.args.version c.self.inside.history.spare _ c.self.view_is c.self.invariant.0.ranges c.self.invariant.1 c.requires
    c.from.ensures).lawful

pub returns-clause-flows : goal.returns-clause-flows
returns-clause-flows c =
    (handed c.self.inside.limits c.self.inside.history.entries c.self.inside.changes.list c.from.result.now c.args.version c.self.inside.history.spare _ c.self.view_is c.self.invariant.0.ranges c.self.invariant.1 c.requires
    c.from.ensures).flows
