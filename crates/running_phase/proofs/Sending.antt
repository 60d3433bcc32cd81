-- What entries send one behind the other, and what frames send that pass together.
use Rattle.std.proofs.Common.{◌≡◌, ℕ, ◌==◌, Bool, true, false, cond, List, [], ◌∷◌, ◌++◌, flat_map, length, Option, Some, refl, sym, ap, ◌∙◌, subst, eq-eqb, append_assoc, append-nil, length-append, arith}
use Rattle.std.proofs.lemmas.List.{nil_from_length}
use Rattle.std.proofs.lemmas.List.Elements.{All-head, All-tail}
use Rattle.packet_headers.specs.Layers.{layers}
use Rattle.capture_files.specs.Record.{Frame}
use Rattle.flow_actions.specs.declared.verdict.Verdict.{Verdict}
use Rattle.flow_rules.specs.declared.limits.Limits.{Limits}
use Rattle.flow_rules.specs.Walk.{Flows, verdict_of}
use Rattle.flow_calls.specs.declared.caller.Caller.{Caller}
use Rattle.flow_calls.specs.declared.entry.Entry.{Entry}
use Rattle.flow_calls.specs.declared.entry.Entry.TheVariants.{Passed}
use Rattle.flow_calls.specs.declared.parcel.Parcel.{Parcel}
use Rattle.flow_calls.specs.Entries.{caller_of, entries_by}
use Rattle.flow_calls.specs.Totals.{is_drop}
use Rattle.flow_calls.proofs.Entries.{entries_by-append}
use Rattle.port_state.specs.State.{flows_of, state_of}
use Rattle.port_state.proofs.ChangesTold.{changes_of-passed, flows_of-equal}
use Rattle.adapter.specs.History.{IsLegalBehind}
use Rattle.flow_port.specs.Bursts.{passed_all, verdicts_by}
use Rattle.running_phase.specs.declared.copies.FrameCopy.{FrameCopy}
use Rattle.running_phase.specs.Copies.{Finds, frame_of, parcels}
use Rattle.running_phase.specs.Sends.{records_behind, sends, sent_by, all_sent}
use Rattle.running_phase.specs.Turns.{goes_out}

pub all_sent-append : (limits : Limits) (look : ℕ → Option Frame) (before xs ys : List Entry)
    → all_sent limits look before (xs ++ ys) ≡ all_sent limits look before xs ++ all_sent limits look (before ++ xs) ys
all_sent-append limits look before [] ys = ap (λ b. all_sent limits look b ys) (sym (append-nil before))
all_sent-append limits look before (x ∷ xs) ys =
    let first = sends limits look before x in
    let behind = before ++ x ∷ [] in
    ap (λ l. first ++ l) (all_sent-append limits look behind xs ys)
    ∙ sym (append_assoc first (all_sent limits look behind xs) (all_sent limits look (behind ++ xs) ys))
    ∙ ap (λ b. (first ++ all_sent limits look behind xs) ++ all_sent limits look b ys) (append_assoc before (x ∷ []) xs)

-- frames change nothing that packets see
flows-passed : (limits : Limits) (h : List Entry) (caller : Caller) (p : Parcel) (v : Verdict) → flows_of (state_of limits (h ++ Passed caller p v ∷ [])) ≡ flows_of (state_of limits h)
flows-passed limits h caller p v = flows_of-equal limits (h ++ Passed caller p v ∷ []) h (changes_of-passed limits h caller p v)

pub flows-burst : (limits : Limits) (caller : Caller) (ps : List Parcel) (vs : List Verdict) (h : List Entry)
    → flows_of (state_of limits (h ++ passed_all caller ps vs)) ≡ flows_of (state_of limits h)
flows-burst limits caller [] vs h = ap (λ l. flows_of (state_of limits l)) (append-nil h)
flows-burst limits caller (p ∷ ps) [] h = ap (λ l. flows_of (state_of limits l)) (append-nil h)
flows-burst limits caller (p ∷ ps) (v ∷ vs) h =
    ap (λ l. flows_of (state_of limits l)) (sym (append_assoc h (Passed caller p v ∷ []) (passed_all caller ps vs)))
    ∙ flows-burst limits caller ps vs (h ++ Passed caller p v ∷ [])
    ∙ flows-passed limits h caller p v

-- frames that pass together send what goes out of them
pub sent_by-burst : (limits : Limits) (look : ℕ → Option Frame) (flows : Flows) (caller : Caller) (copies : List FrameCopy) (before : List Entry)
    → Finds look copies → flows_of (state_of limits before) ≡ flows
    → sent_by caller.0 limits look before (passed_all caller (parcels copies) (verdicts_by flows (parcels copies))) ≡ flat_map (goes_out flows) copies
sent_by-burst limits look flows caller [] before finds same = refl
sent_by-burst limits look flows caller (c ∷ cs) before finds same =
    let F : FrameCopy → Type 0 = λ x. look x.number ≡ Some (frame_of x) in
    let others = parcels cs in
    let key = layers c.bytes.items in
    let v = verdict_of flows key in
    let e = Passed caller (record { number = c.number; key = key; len = length c.bytes.items }) v in
    let rest = sent_by caller.0 limits look (before ++ e ∷ []) (passed_all caller others (verdicts_by flows others)) in
    ap (λ b. cond b (sends limits look before e) [] ++ rest) (eq-eqb caller.0 caller.0 refl)
    ∙ ap (λ (f : Flows). cond (is_drop v.fate) [] (records_behind f key (look c.number)) ++ rest) same
    ∙ ap (λ o. cond (is_drop v.fate) [] (records_behind flows key o) ++ rest) (All-head F c cs finds)
    ∙ ap (λ l. goes_out flows c ++ l) (sent_by-burst limits look flows caller cs (before ++ e ∷ []) (All-tail F c cs finds) (flows-passed limits before caller (record { number = c.number; key = key; len = length c.bytes.items }) v ∙ same))

-- entries that are right stay so without those before them
pub legal-behind : (limits : Limits) (before xs ys : List Entry) → IsLegalBehind limits before (xs ++ ys) → IsLegalBehind limits (before ++ xs) ys
legal-behind limits before [] ys legal = subst (λ b. IsLegalBehind limits b ys) (sym (append-nil before)) legal
legal-behind limits before (x ∷ xs) ys legal =
    subst (λ b. IsLegalBehind limits b ys) (append_assoc before (x ∷ []) xs) (legal-behind limits (before ++ x ∷ []) xs ys legal.1)

-- frames of a legal history have the verdicts of what packets see behind it
pub judged-burst : (limits : Limits) (flows : Flows) (caller : Caller) (ps : List Parcel) (vs : List Verdict) (before : List Entry) → length vs ≡ length ps
    → flows_of (state_of limits before) ≡ flows → IsLegalBehind limits before (passed_all caller ps vs) → vs ≡ verdicts_by flows ps
judged-burst limits flows caller [] [] before count same legal = refl
judged-burst limits flows caller [] (v ∷ vs) before count same legal = absurd (omega arith)
judged-burst limits flows caller (p ∷ ps) [] before count same legal = absurd (omega arith)
judged-burst limits flows caller (p ∷ ps) (v ∷ vs) before count same legal =
    ap (λ x. x ∷ vs) (legal.0 ∙ ap (λ (f : Flows). verdict_of f p.key) same)
    ∙ ap (λ l. verdict_of flows p.key ∷ l)
    (judged-burst limits flows caller ps vs (before ++ Passed caller p v ∷ []) (omega arith) (flows-passed limits before caller p v ∙ same) legal.1)

-- between a caller's entries there is none of them
pub none_between : (who : ℕ) (old between own : List Entry) → entries_by who own ≡ own → entries_by who ((old ++ between) ++ own) ≡ entries_by who old ++ own → entries_by who between ≡ []
none_between who old between own is all =
    let parts : entries_by who old ++ own ≡ (entries_by who old ++ entries_by who between) ++ own
    = sym all ∙ entries_by-append who (old ++ between) own ∙ ap (λ l. l ++ entries_by who own) (entries_by-append who old between)
    ∙ ap (λ l. (entries_by who old ++ entries_by who between) ++ l) is in
    let here = entries_by who old in
    let more = entries_by who between in
    nil_from_length more (omega (arith, ap length parts, length-append here own, length-append (here ++ more) own, length-append here more))

-- a burst is its caller's
pub own_burst : (caller : Caller) (ps : List Parcel) (vs : List Verdict) → entries_by caller.0 (passed_all caller ps vs) ≡ passed_all caller ps vs
own_burst caller [] vs = refl
own_burst caller (p ∷ ps) [] = refl
own_burst caller (p ∷ ps) (v ∷ vs) =
    let rest = entries_by caller.0 (passed_all caller ps vs) in
    ap (λ b. cond b (Passed caller p v ∷ rest) rest) (eq-eqb caller.0 caller.0 refl) ∙ ap (λ l. Passed caller p v ∷ l) (own_burst caller ps vs)
