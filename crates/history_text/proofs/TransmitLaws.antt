-- What more entries add to a transmit file.
use Rattle.std.proofs.Common.{◌≡◌, List, [], ◌∷◌, ◌++◌, sym, ap, ◌∙◌, append_assoc, append-nil}
use Rattle.capture_files.specs.Record.{Frame}
use Rattle.capture_files.specs.Writing.{header_bytes}
use Rattle.flow_rules.specs.declared.limits.Limits.{Limits}
use Rattle.flow_calls.specs.declared.entry.Entry.{Entry}
use Rattle.history_text.specs.Transmit.{record_of_entry, records_of_entries, transmit_of}

pub records_of_entries-append : (limits : Limits) (frames : List Frame) (before xs ys : List Entry)
    → records_of_entries limits frames before (xs ++ ys) ≡ records_of_entries limits frames before xs ++ records_of_entries limits frames (before ++ xs) ys
records_of_entries-append limits frames before [] ys = ap (λ b. records_of_entries limits frames b ys) (sym (append-nil before))
records_of_entries-append limits frames before (x ∷ xs) ys =
    let first = record_of_entry limits frames before x in
    let behind = before ++ x ∷ [] in
    ap (λ l. first ++ l) (records_of_entries-append limits frames behind xs ys)
    ∙ sym (append_assoc first (records_of_entries limits frames behind xs) (records_of_entries limits frames (behind ++ xs) ys))
    ∙ ap (λ b. (first ++ records_of_entries limits frames behind xs) ++ records_of_entries limits frames b ys) (append_assoc before (x ∷ []) xs)

pub transmit_of-append : (limits : Limits) (frames : List Frame) (history more : List Entry)
    → transmit_of limits frames (history ++ more) ≡ transmit_of limits frames history ++ records_of_entries limits frames history more
transmit_of-append limits frames history more =
    ap (λ l. header_bytes ++ l) (records_of_entries-append limits frames [] history more)
    ∙ sym (append_assoc header_bytes (records_of_entries limits frames [] history) (records_of_entries limits frames history more))
