use Rattle.std.proofs.Common.{ap}
use Rattle.flow_calls.specs.declared.reply.Reply.TheVariants.{Stopped, Pulled}
use Rattle.io_edges.proofs.Joins.{Prints-as}
use Rattle.history_text.specs.Replies.{behind_text}
use Rattle.history_text.proofs.reply.print_behind.Goals as goal

pub returns-in-Stopped : goal.returns-in-Stopped
returns-in-Stopped g c =
    rw c.in-Stopped.is (Prints-as (ap (λ totals. behind_text c.args.limits (Stopped totals)) c.get.ensures) c.print_totals.ensures)

pub returns-in-Pulled : goal.returns-in-Pulled
returns-in-Pulled g c =
    rw c.in-Pulled.is (Prints-as (ap (λ outcomes. behind_text c.args.limits (Pulled c.in-Pulled.field-0 outcomes)) c.get-in-Pulled.ensures) c.print_letters.ensures)
