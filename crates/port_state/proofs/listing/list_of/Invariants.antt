use Rattle.std.proofs.Common.{◌≡◌, map, take}
use Rattle.flow_calls.specs.Rows.{row_of}
use Rattle.port_state.proofs.listing.list_of.Given as goal

abbrev pub invariant-loop-entry : goal.invariant-loop-entry
invariant-loop-entry l = l.rows.items ≡ map (λ entry. row_of entry.now.rule) (take l.entry-index l.rules)
