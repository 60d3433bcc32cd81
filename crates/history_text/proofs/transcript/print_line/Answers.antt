use Rattle.std.proofs.Common.{◌≡◌, ◌∙◌, [], ◌∷◌, ◌++◌, codes, ap, subst, sym}
use Rattle.flow_calls.specs.declared.parcel.Parcel.{Parcel}
use Rattle.flow_calls.specs.declared.entry.Entry.TheVariants.{Asked, Passed}
use Rattle.adapter.specs.KeptLine.{IsLineOf}
use Rattle.io_edges.proofs.Joins.{Prints-then, Prints-as}
use Rattle.history_text.specs.Callers.{caller_text}
use Rattle.history_text.specs.Forms.{filled}
use Rattle.history_text.specs.Text.{entry_text}
use Rattle.history_text.specs.Verdicts.{verdict_text}
use Rattle.history_text.proofs.transcript.print_line.Goals as goal

pub returns-in-Asked : goal.returns-in-Asked
unfolding entry_text
returns-in-Asked g c entry line =
    let told : entry ≡ Asked c.in-Asked.caller c.in-Asked.call.now c.in-Asked.reply.now = subst (λ l. IsLineOf l entry) c.in-Asked.is line in
    Prints-as (ap (entry_text c.args.limits) (sym told))
    (Prints-then c.print_caller.ensures
    (Prints-then (Prints-then c.print.ensures.prints (Prints-then c.print_number.ensures.prints (Prints-then c.print-in-Asked.ensures.prints
    (Prints-then c.print_number-in-Asked.ensures.prints c.print-in-Asked-2.ensures.prints))))
    (Prints-then c.print_reply.ensures c.print-in-Asked-3.ensures.prints)))

pub returns-in-Passed : goal.returns-in-Passed
unfolding entry_text
returns-in-Passed g c entry line =
    let caller = c.in-Passed.caller in
    let verdict = c.in-Passed.verdict in
    let told : (parcel : Parcel) × (parcel.number ≡ c.in-Passed.number) × (entry ≡ Passed caller parcel verdict) = subst (λ l. IsLineOf l entry) c.in-Passed.is line in
    Prints-as
    (ap (λ n. caller_text caller ++ (filled (codes " #0: ") (n ∷ []) ++ (verdict_text verdict ++ codes "\n"))) (sym told.1) ∙ ap (entry_text c.args.limits) (sym told.2))
    (Prints-then c.print_caller-in-Passed.ensures
    (Prints-then (Prints-then c.print-in-Passed.ensures.prints (Prints-then c.print_number-in-Passed.ensures.prints c.print-in-Passed-2.ensures.prints))
    (Prints-then c.print_verdict.ensures c.print-in-Passed-3.ensures.prints)))
