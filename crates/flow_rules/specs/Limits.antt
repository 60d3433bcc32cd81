-- What the limits of a port may be.
use Rattle.std.specs.Prelude.{◌≤◌}
use Rattle.flow_rules.specs.declared.limits.Limits.{Limits}

-- the ranges of the limits
pub record AreLimits (limits : Limits) : Type 0 where
  pub some_queue : 1 ≤ limits.rxq
  pub queues : limits.rxq ≤ 16
  pub some_rule : 1 ≤ limits.flow_max
  pub rules : limits.flow_max ≤ 65536
