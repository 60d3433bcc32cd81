-- Who made an entry: the shell, the agent of a flow queue, or a packet worker.
use Rattle.std.specs.Prelude.{◌-◌, ℕ, List, ◌++◌, nat_le, if◌then◌else◌, codes, decimal}
use Rattle.flow_calls.specs.declared.caller.Caller.{Caller}

abbrev pub caller_text : Caller → List ℕ
caller_text caller =
    if nat_le 9 caller.0 then codes "worker" ++ decimal (caller.0 - 9)
    else if nat_le 1 caller.0 then codes "agent" ++ decimal (caller.0 - 1)
    else codes "shell"
