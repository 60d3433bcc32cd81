-- A state by its parts.
use Rattle.std.proofs.Common.{map, List}
use Rattle.flow_rules.specs.Shared.{Shared}
use Rattle.port_state.specs.State.{Placed, State}
use Rattle.port_state.specs.Tables.{Templates}
use Rattle.port_state.specs.StateInside.{queue_of}
use Rattle.port_state.specs.declared.state.State.TheInside.{Inside}

-- with these rules, shared values, templates and tables
abbrev pub with_parts : Inside → List Placed → Shared → Templates → State
with_parts s rs vs ts = record {
  rules = rs;
  shared = vs;
  templates = ts;
  queues = map queue_of s.queues.items;
  queue_size = s.queue_size;
  isolated = s.isolated;
  ids = s.ids;
  rxq = s.rxq;
}
