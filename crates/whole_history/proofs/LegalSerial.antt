-- The serial history is legal.
use Rattle.std.proofs.Common.{ℕ, ◌+◌, List, [], ◌∷◌, ◌++◌, length, sym, append_assoc, append-nil, subst, refl}
use Rattle.flow_rules.specs.declared.limits.Limits.{Limits}
use Rattle.capture_files.specs.Record.{Frame}
use Rattle.flow_calls.specs.declared.call.Call.{Call}
use Rattle.flow_calls.specs.declared.entry.Entry.{Entry}
use Rattle.adapter.specs.History.{IsLegal, IsLegalBehind, asked_by, passed_by}
use Rattle.flow_grammar.specs.declared.part.Part.{Part}
use Rattle.flow_grammar.specs.declared.part.Part.TheVariants.{Section, Phase}
use Rattle.whole_history.specs.Reach.{first, taken_by, left_by, parcel_of}
use Rattle.whole_history.specs.Serial.{caller_at, asks_of, all_asks_of, passes_of, in_turn, part_of, serial_from, serial}

-- legal entries, and legal ones behind them
pub IsLegalBehind-append : (limits : Limits) (before xs ys : List Entry) → IsLegalBehind limits before xs → IsLegalBehind limits (before ++ xs) ys → IsLegalBehind limits before (xs ++ ys)
IsLegalBehind-append limits before [] ys p q = subst (λ b. IsLegalBehind limits b ys) (append-nil before) q
IsLegalBehind-append limits before (x ∷ xs) ys p q =
    (p.0, IsLegalBehind-append limits (before ++ x ∷ []) xs ys p.1 (subst (λ b. IsLegalBehind limits b ys) (sym (append_assoc before (x ∷ []) xs)) q))

-- a step adds legal entries to every history
abbrev pub AddsLegal : Limits → (List Entry → List Entry) → Type 0
AddsLegal limits step = (h : List Entry) → IsLegalBehind limits h (step h)

pub AddsLegal-asks : (limits : Limits) (who : ℕ) (calls : List Call) → AddsLegal limits (asks_of limits who calls)
AddsLegal-asks limits who [] h = tt
AddsLegal-asks limits who (call ∷ calls) h = (refl, AddsLegal-asks limits who calls (h ++ asked_by limits h (caller_at who) call ∷ []))

AddsLegal-all_asks : (limits : Limits) (who : ℕ) (lists : List (List Call)) → AddsLegal limits (all_asks_of limits who lists)
AddsLegal-all_asks limits who [] h = tt
AddsLegal-all_asks limits who (calls ∷ others) h =
    let asked = asks_of limits who calls h in
    IsLegalBehind-append limits h asked (all_asks_of limits (who + 1) others (h ++ asked)) (AddsLegal-asks limits who calls h) (AddsLegal-all_asks limits (who + 1) others (h ++ asked))

AddsLegal-passes : (limits : Limits) (number : ℕ) (frames : List Frame) → AddsLegal limits (passes_of limits number frames)
AddsLegal-passes limits number [] h = tt
AddsLegal-passes limits number (frame ∷ frames) h =
    (refl, AddsLegal-passes limits (number + 1) frames (h ++ passed_by limits h (caller_at 9) (parcel_of number frame) ∷ []))

AddsLegal-then : (limits : Limits) (step : List Entry → List Entry) (steps : List (List Entry → List Entry)) → AddsLegal limits step → AddsLegal limits (in_turn steps)
    → AddsLegal limits (in_turn (step ∷ steps))
AddsLegal-then limits step steps one more h = IsLegalBehind-append limits h (step h) (in_turn steps (h ++ step h)) (one h) (more (h ++ step h))

AddsLegal-nothing : (limits : Limits) → AddsLegal limits (in_turn [])
AddsLegal-nothing limits h = tt

AddsLegal-part : (limits : Limits) (number : ℕ) (frames : List Frame) (part : Part) → AddsLegal limits (part_of limits number frames part)
AddsLegal-part limits number frames (Section calls) h = AddsLegal-asks limits 0 calls h
AddsLegal-part limits number frames (Phase opening count calls agents closing) h =
    let opens = asks_of limits 0 (opening ∷ calls) in
    let tells = all_asks_of limits 1 agents in
    let passes = passes_of limits number (first count frames) in
    let closes = asks_of limits 0 (closing ∷ []) in
    AddsLegal-then limits opens (tells ∷ passes ∷ closes ∷ []) (AddsLegal-asks limits 0 (opening ∷ calls))
    (AddsLegal-then limits tells (passes ∷ closes ∷ []) (AddsLegal-all_asks limits 1 agents)
    (AddsLegal-then limits passes (closes ∷ []) (AddsLegal-passes limits number (first count frames))
    (AddsLegal-then limits closes [] (AddsLegal-asks limits 0 (closing ∷ [])) (AddsLegal-nothing limits)))) h

AddsLegal-serial : (limits : Limits) (number : ℕ) (frames : List Frame) (parts : List Part) → AddsLegal limits (serial_from limits number frames parts)
AddsLegal-serial limits number frames [] h = tt
AddsLegal-serial limits number frames (part ∷ parts) h =
    let added = part_of limits number frames part h in
    IsLegalBehind-append limits h added (serial_from limits (number + length (taken_by part frames)) (left_by part frames) parts (h ++ added))
    (AddsLegal-part limits number frames part h)
    (AddsLegal-serial limits (number + length (taken_by part frames)) (left_by part frames) parts (h ++ added))

-- each serial history is legal
pub IsLegal-serial : (limits : Limits) (program : List Part) (frames : List Frame) → IsLegal limits (serial limits program frames)
IsLegal-serial limits program frames = AddsLegal-serial limits 1 frames program []
