use Rattle.std.proofs.Common.{◌≡◌, ◌++◌}
use Rattle.port_state.specs.Kept.{AreKept}
use Rattle.port_state.specs.Standing.{standing_kept}
use Rattle.adapter.proofs.Bursts.{Entering}
use Rattle.adapter.proofs.adapter.Adapter.burst.Given as goal

abbrev pub invariant-loop-packed : goal.invariant-loop-packed
invariant-loop-packed l =
    (l.self-inside.limits ≡ l.fn.self.limits)
    × Entering l.self-inside.limits l.self-inside.changes.list (l.fn.self.history ++ l.fn.frames.items) l.fn.self.spare
    (standing_kept l.self-inside.standing) l.self-inside.history l.packed-iterator.rest.items
    × AreKept l.self-inside.standing.state
