use Rattle.std.proofs.Common.{◌++◌, codes, ap, ◌∙◌, append_assoc}
use Rattle.history_text.specs.Verdicts.{fate_text, mark_text, hash_text, path_text}
use Rattle.io_edges.proofs.Joins.{Prints-then, Prints-as}
use Rattle.history_text.proofs.verdict.print_verdict.Goals as goal

pub returns : goal.returns
returns g c =
    let verdict = c.args.verdict.now in
    let path = path_text verdict.path.items in
    let joined = append_assoc (mark_text verdict.mark) (codes " hash " ++ (hash_text verdict.hash ++ codes " path ")) path
    ∙ ap (λ t. mark_text verdict.mark ++ (codes " hash " ++ t)) (append_assoc (hash_text verdict.hash) (codes " path ") path) in
    Prints-as (ap (λ t. fate_text verdict.fate ++ (codes " mark " ++ t)) joined)
    (Prints-then c.print_fate.ensures (Prints-then c.print_marks.ensures (Prints-as (ap path_text c.deref.ensures.0) c.print_path.ensures)))
