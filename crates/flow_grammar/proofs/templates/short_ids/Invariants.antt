use Rattle.std.proofs.Common.{◌≡◌, take}
use Rattle.flow_grammar.proofs.templates.short_ids.Given as goal

-- the ids so far
abbrev pub invariant-loop-id : goal.invariant-loop-id
invariant-loop-id l = l.short.items ≡ take l.id-index l.id-items
