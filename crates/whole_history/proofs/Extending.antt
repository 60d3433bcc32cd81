-- What one more frame adds behind others.
use Rattle.std.proofs.Common.{◌≡◌, ℕ, ◌+◌, List, [], ◌∷◌, ◌++◌, length, sym, ap, ◌∙◌, append_assoc, append-nil, add-zero, arith}
use Rattle.flow_rules.specs.declared.limits.Limits.{Limits}
use Rattle.capture_files.specs.Record.{Frame}
use Rattle.flow_calls.specs.declared.entry.Entry.{Entry}
use Rattle.adapter.specs.History.{passed_by}
use Rattle.whole_history.specs.Reach.{parcel_of}
use Rattle.whole_history.specs.Serial.{caller_at, passes_of}

pub passes_of-last : (limits : Limits) (number : ℕ) (frames : List Frame) (frame : Frame) (h : List Entry)
    → passes_of limits number (frames ++ frame ∷ []) h
    ≡ passes_of limits number frames h ++ passed_by limits (h ++ passes_of limits number frames h) (caller_at 9) (parcel_of (number + length frames) frame) ∷ []
passes_of-last limits number [] frame h =
    ap (λ n. passed_by limits h (caller_at 9) (parcel_of n frame) ∷ []) (sym (add-zero number))
    ∙ ap (λ before. passed_by limits before (caller_at 9) (parcel_of (number + 0) frame) ∷ []) (sym (append-nil h))
passes_of-last limits number (first ∷ frames) frame h =
    let passed = passed_by limits h (caller_at 9) (parcel_of number first) in
    let before = h ++ passed ∷ [] in
    let others = passes_of limits (number + 1) frames before in
    let same : (number + 1) + length frames ≡ number + length (first ∷ frames) = omega arith in
    ap (λ l. passed ∷ l) (passes_of-last limits (number + 1) frames frame before
    ∙ ap (λ n. others ++ passed_by limits (before ++ others) (caller_at 9) (parcel_of n frame) ∷ []) same
    ∙ ap (λ b. others ++ passed_by limits b (caller_at 9) (parcel_of (number + length (first ∷ frames)) frame) ∷ []) (append_assoc h (passed ∷ []) others))
