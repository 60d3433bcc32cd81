-- The transcript of a history: a line for each entry, and a line of totals.
use Rattle.std.specs.Prelude.{ℕ, List, [], ◌∷◌, ◌++◌, codes}
use Rattle.std.specs.List.{flat_map}
use Rattle.flow_rules.specs.declared.limits.Limits.{Limits}
use Rattle.flow_calls.specs.declared.entry.Entry.{Entry}
use Rattle.flow_calls.specs.declared.entry.Entry.TheVariants.{Asked, Passed}
use Rattle.flow_calls.specs.Totals.{totals_of}
use Rattle.history_text.specs.declared.ending.Ending.{Ending}
use Rattle.history_text.specs.Forms.{filled}
use Rattle.history_text.specs.Endings.{ending_text}
use Rattle.history_text.specs.Callers.{caller_text}
use Rattle.history_text.specs.Totals.{totals_text}
use Rattle.history_text.specs.Replies.{reply_text}
use Rattle.history_text.specs.Verdicts.{verdict_text}

unfoldable pub entry_text : Limits → Entry → List ℕ
entry_text limits (Asked caller call reply) = caller_text caller ++ (filled (codes " 0.0: ") (call.at.line ∷ call.at.part ∷ [])
    ++ (reply_text limits reply ++ codes "\n"))
entry_text limits (Passed caller parcel verdict) = caller_text caller ++ (filled (codes " #0: ") (parcel.number ∷ [])
    ++ (verdict_text verdict ++ codes "\n"))

-- what stands behind the last entry
abbrev pub end_text : Limits → List Entry → Ending → List ℕ
end_text limits history ending = codes "total " ++ (totals_text limits (totals_of history) ++ (codes "\n" ++ ending_text ending))

abbrev pub text_of : Limits → List Entry → Ending → List ℕ
text_of limits history ending = flat_map (entry_text limits) history ++ end_text limits history ending
