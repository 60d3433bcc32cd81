-- The calls of a part by caller: the shell is 0, the agent of flow queue q (0 to 7) is 1 + q.
use Rattle.std.specs.Prelude.{ℕ, ◌-◌, ◌==◌, List, [], slice_index_or, if◌then◌else◌}
use Rattle.flow_calls.specs.declared.call.Call.{Call}
use Rattle.flow_grammar.specs.declared.part.Part.{Part}
use Rattle.flow_grammar.specs.declared.part.Part.TheVariants as parts

-- the calls that a caller has in a part: those of a section are the shell's; of a phase its opening and its closing don't
-- count
abbrev pub calls_of : Part → ℕ → List Call
calls_of (parts.Section calls) who = if who == 0 then calls else []
calls_of (parts.Phase opening count shell agents closing) who = if who == 0 then shell else slice_index_or agents (who - 1) []
