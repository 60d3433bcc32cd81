use Rattle.std.proofs.Common.{◌≤◌, ◌-◌}
use Rattle.port_state.proofs.Pushing.{Goes, IsPushing}
use Rattle.port_state.proofs.state.State.push.Given as goal

-- so many operations are left, and with what is done they come to the whole
abbrev pub invariant-loop : goal.invariant-loop
invariant-loop l = IsPushing l.queue (l.end - l.counter) l.changes.room l.limits.rxq l.self × Goes l.queue l.fn.self l.self l.fn.changes.list l.changes.list × (l.counter ≤ l.end)
