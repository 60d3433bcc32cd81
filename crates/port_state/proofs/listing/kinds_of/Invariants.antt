use Rattle.std.proofs.Common.{◌≡◌, ◌≤◌, ◌++◌, length, drop}
use Rattle.flow_calls.specs.Rows.{action_kinds}
use Rattle.port_state.proofs.listing.kinds_of.Given as goal

-- the kinds so far and those of the actions that are left
abbrev pub invariant-loop-action : goal.invariant-loop-action
invariant-loop-action l =
    (length l.kinds.items ≤ l.action-index)
    × (l.kinds.items ++ action_kinds (drop l.action-index l.actions) ≡ action_kinds l.actions)
