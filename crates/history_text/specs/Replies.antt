-- What is told of the reply to a call.
use Rattle.std.specs.Prelude.{ℕ, List, [], ◌++◌}
use Rattle.std.specs.List.{flat_map}
use Rattle.flow_rules.specs.declared.limits.Limits.{Limits}
use Rattle.flow_calls.specs.declared.reply.Reply.{Reply}
use Rattle.flow_calls.specs.declared.reply.Reply.TheVariants as replies
use Rattle.history_text.specs.Forms.{filled}
use Rattle.history_text.specs.Kinds.{kind_form, spell}
use Rattle.history_text.specs.Totals.{totals_text}
use Rattle.history_text.specs.Rows.{row_text}
use Rattle.history_text.specs.Pulled.{letters_text}

-- the list behind the text of a reply
abbrev pub behind_text : Limits → Reply → List ℕ
behind_text limits (replies.Listed rows) = flat_map row_text rows
behind_text limits (replies.Stopped totals) = totals_text limits totals
behind_text limits (replies.Pulled queue outcomes) = letters_text outcomes
behind_text limits reply = []

abbrev pub reply_text : Limits → Reply → List ℕ
reply_text limits reply = filled (kind_form (spell reply).kind) (spell reply).numbers ++ behind_text limits reply
