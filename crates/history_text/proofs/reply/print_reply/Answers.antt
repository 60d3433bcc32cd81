use Rattle.std.proofs.Common.{◌++◌, ap, ◌∙◌}
use Rattle.io_edges.proofs.Joins.{Prints-then, Prints-as}
use Rattle.history_text.specs.Forms.{filled}
use Rattle.history_text.specs.Kinds.{kind_form}
use Rattle.history_text.specs.Replies.{behind_text}
use Rattle.history_text.proofs.reply.print_reply.Goals as goal

pub returns : goal.returns
returns g c =
    let behind = behind_text c.args.limits c.args.reply.now in
    Prints-as
    (ap (λ text. filled text c.as_slice.result.now ++ behind) c.kind_form.ensures
    ∙ ap (λ ns. filled (kind_form c.spell-spelled.result.kind) ns ++ behind) c.as_slice.ensures.value
    ∙ ap (λ s. filled (kind_form s.kind) s.numbers ++ behind) c.spell-spelled.ensures)
    (Prints-then c.print_form.ensures c.print_behind.ensures)
