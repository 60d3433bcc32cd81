-- What a call leaves in the history.
use Rattle.std.specs.Prelude.{List, [], ◌∷◌, Result, Ok, Err}
use Rattle.flow_calls.specs.declared.caller.Caller.{Caller}
use Rattle.flow_calls.specs.declared.call.Call.{Call}
use Rattle.flow_calls.specs.declared.reply.Reply.{Reply}
use Rattle.flow_calls.specs.declared.entry.Entry.{Entry}
use Rattle.flow_calls.specs.declared.entry.Entry.TheVariants.{Asked}

-- its entry, and none where it met want of memory
abbrev pub entry_left : {E : Type 0} → Caller → Call → Result Reply E → List Entry
entry_left caller call (Ok reply) = Asked caller call reply ∷ []
entry_left caller call (Err error) = []
