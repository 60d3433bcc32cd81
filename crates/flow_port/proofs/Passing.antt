-- Frames that pass together.
use Rattle.std.proofs.Common.{◌≡◌, ℕ, ◌+◌, ◌<◌, ◌≤◌, Result, Ok, Err, OnOk, OnErr, List, [], ◌∷◌, ◌++◌, length, get_or, take, All, sym, refl, ap, ◌∙◌, subst, arith, append_assoc, append-nil}
use Rattle.std.proofs.lemmas.List.{length-map, length-take-le, take_more}
use Rattle.std.proofs.lemmas.List.Elements.{All-nil, All-cons}
use Rattle.flow_actions.specs.declared.verdict.Verdict.{Verdict}
use Rattle.flow_rules.specs.declared.limits.Limits.{Limits}
use Rattle.flow_rules.specs.Walk.{Flows, verdict_of}
use Rattle.replica.specs.Caught.{ReplicaView}
use Rattle.turn_book.specs.Views.{BeginsWith, Each}
use Rattle.flow_calls.specs.declared.caller.Caller.{Caller}
use Rattle.flow_calls.specs.declared.parcel.Parcel.{Parcel}
use Rattle.flow_calls.specs.declared.entry.Entry.{Entry}
use Rattle.flow_calls.specs.declared.entry.Entry.TheVariants.{Passed}
use Rattle.port_state.specs.Changes.{changes_of}
use Rattle.adapter.specs.History.{IsFrame}
use Rattle.adapter.specs.Seen.{Seen, Grows, Stays}
use Rattle.port_state.specs.State.{flows_of, state_of}
use Rattle.port_state.proofs.ChangesTold.{changes_of-passed}
use Rattle.flow_port.specs.Bursts.{AreFit, passed_all, verdicts_by}
use Rattle.flow_port.specs.Ports.{Grew}
use Rattle.flow_port.specs.Standing.{Stands, IsCurrent}
use Rattle.flow_port.proofs.Standing.{Stands-grown, Stands-grows, flows-current}

pub passed_none : (caller : Caller) (ps : List Parcel) → passed_all caller ps [] ≡ []
passed_none caller [] = refl
passed_none caller (p ∷ ps) = refl

-- one more
pub passed_more : (caller : Caller) (ps : List Parcel) (vs : List Verdict) (p : Parcel) (v : Verdict) → length vs < length ps → p ≡ get_or ps (length vs) p
    → passed_all caller ps (vs ++ v ∷ []) ≡ passed_all caller ps vs ++ Passed caller p v ∷ []
passed_more caller [] vs p v lt e = absurd (omega arith)
passed_more caller (q ∷ ps) [] p v lt e = ap (λ x. Passed caller x v ∷ passed_all caller ps []) (sym e) ∙ ap (λ l. Passed caller p v ∷ l) (passed_none caller ps)
passed_more caller (q ∷ ps) (w ∷ vs) p v lt e = ap (λ l. Passed caller q w ∷ l) (passed_more caller ps vs p v (omega arith) e)

-- those of the first verdicts, and the next one
pub passed_next : (caller : Caller) (ps : List Parcel) (vs : List Verdict) (i : ℕ) (p : Parcel) (v : Verdict) → i < length vs → length vs ≡ length ps
    → p ≡ get_or ps i p → v ≡ get_or vs i v → passed_all caller ps (take (i + 1) vs) ≡ passed_all caller ps (take i vs) ++ Passed caller p v ∷ []
passed_next caller ps vs i p v lt same at_p at_v =
    let short : length (take i vs) ≡ i = length-take-le i vs (omega arith) in
    ap (passed_all caller ps) (take_more vs i v lt ∙ ap (λ x. take i vs ++ x ∷ []) (sym at_v))
    ∙ passed_more caller ps (take i vs) p v (omega arith) (at_p ∙ ap (λ n. get_or ps n p) (sym short))

-- they are their caller's
pub passed_owned : (owner : Entry → ℕ) (caller : Caller) (n : ℕ) → ((p : Parcel) (v : Verdict) → owner (Passed caller p v) ≡ n) → (ps : List Parcel) (vs : List Verdict)
    → Each (λ e. owner e ≡ n) (passed_all caller ps vs)
passed_owned owner caller n own [] vs = tt
passed_owned owner caller n own (p ∷ ps) [] = tt
passed_owned owner caller n own (p ∷ ps) (v ∷ vs) = (own p v, passed_owned owner caller n own ps vs)

frames_fit : (limits : Limits) (history : List Entry) (caller : Caller) → 9 ≤ caller.0 → caller.0 ≤ 24 → (ps : List Parcel)
    → All (IsFrame limits history) (passed_all caller ps (verdicts_by (flows_of (state_of limits history)) ps))
frames_fit limits history caller least most [] = All-nil (IsFrame limits history)
frames_fit limits history caller least most (p ∷ ps) =
    All-cons (IsFrame limits history) (Passed caller p (verdict_of (flows_of (state_of limits history)) p.key)) _ (least, most, refl) (frames_fit limits history caller least most ps)

-- frames with the verdicts that the history gives may be entered
pub are_frames : (limits : Limits) (history : List Entry) (caller : Caller) (ps : List Parcel) (vs : List Verdict) (entries : List Entry) → (9 ≤ caller.0) × (caller.0 ≤ 24)
    → AreFit limits history caller ps vs entries → All (IsFrame limits history) entries
are_frames limits history caller ps vs entries worker fit =
    subst (All (IsFrame limits history)) (sym (fit.packed ∙ ap (passed_all caller ps) fit.judged)) (frames_fit limits history caller worker.0 worker.1 ps)

-- frames change nothing that packets see
passed_changes : (limits : Limits) (caller : Caller) (ps : List Parcel) (vs : List Verdict) (history : List Entry) → changes_of limits (history ++ passed_all caller ps vs) ≡ changes_of limits history
passed_changes limits caller [] vs history = ap (changes_of limits) (append-nil history)
passed_changes limits caller (p ∷ ps) [] history = ap (changes_of limits) (append-nil history)
passed_changes limits caller (p ∷ ps) (v ∷ vs) history =
    ap (changes_of limits) (sym (append_assoc history (Passed caller p v ∷ []) (passed_all caller ps vs)))
    ∙ passed_changes limits caller ps vs (history ++ Passed caller p v ∷ [])
    ∙ changes_of-passed limits history caller p v

current_passed : (limits : Limits) (history : List Entry) (caller : Caller) (ps : List Parcel) (vs : List Verdict) (replica : ReplicaView) → IsCurrent limits history replica
    → IsCurrent limits (history ++ passed_all caller ps vs) replica
current_passed limits history caller ps vs replica current =
    record { stands = Stands-grown limits history (passed_all caller ps vs) replica current.stands; version = current.version ∙ ap length (sym (passed_changes limits caller ps vs history)) }

-- the replica is current behind its own frames
pub current_entered : (old new : Seen) (caller : Caller) (ps : List Parcel) (vs : List Verdict) (replica : ReplicaView) → Grows old new (passed_all caller ps vs)
    → IsCurrent old.limits old.history replica → IsCurrent new.limits new.history replica
current_entered old new caller ps vs replica grows current =
    subst (λ (l : Limits). IsCurrent l new.history replica) (sym grows.limits)
    (subst (λ h. IsCurrent old.limits h replica) (sym grows.history) (current_passed old.limits old.history caller ps vs replica current))

-- frames that were packed by a current replica are fit
pub fit_current : (limits : Limits) (history : List Entry) (caller : Caller) (ps : List Parcel) (vs : List Verdict) (entries : List Entry) (replica : ReplicaView)
    → IsCurrent limits history replica → vs ≡ verdicts_by replica.flows ps → entries ≡ passed_all caller ps vs → AreFit limits history caller ps vs entries
fit_current limits history caller ps vs entries replica current judged packed =
    record { judged = judged ∙ ap (λ (f : Flows). verdicts_by f ps) (flows-current limits history replica current); packed = packed }

-- there is a verdict for each
pub fit_count : (limits : Limits) (history : List Entry) (caller : Caller) (ps : List Parcel) (vs : List Verdict) (entries : List Entry) → AreFit limits history caller ps vs entries → length vs ≡ length ps
fit_count limits history caller ps vs entries fit = ap length fit.judged ∙ length-map ps _

-- the replica stands where it stood, and behind frames that were entered
pub Stands_entered : {T E : Type 0} (result : Result T E) (old new : Seen) (entries : List Entry) (replica : ReplicaView)
    → OnOk result (Grows old new entries) → OnErr result (Stays old new) → Stands old.limits old.history replica → Stands new.limits new.history replica
Stands_entered (Ok x) old new entries replica grows stays stands = Stands-grows old new entries replica grows stands
Stands_entered (Err e) old new entries replica grows stays stands =
    subst (λ (l : Limits). Stands l new.history replica) (sym stays.limits) (subst (λ h. Stands old.limits h replica) (sym stays.history) stands)

-- without verdicts nothing was added
pub added_nothing : (before : List Entry) (caller : Caller) (ps : List Parcel) (vs : List Verdict) → vs ≡ [] → before ++ passed_all caller ps vs ≡ before
added_nothing before caller ps vs none = ap (λ l. before ++ passed_all caller ps l) none ∙ ap (λ l. before ++ l) (passed_none caller ps) ∙ append-nil before

pub grew_nothing : (old new : List Entry) (caller : Caller) (ps : List Parcel) (vs : List Verdict) → vs ≡ [] → Grew old new (passed_all caller ps vs) → BeginsWith new old
grew_nothing old new caller ps vs none grew = (grew.0, grew.1 ∙ added_nothing (old ++ grew.0) caller ps vs none)

pub on_ok_always : {T E : Type 0} {P : Type 0} (result : Result T E) → P → OnOk result P
on_ok_always (Ok x) p = p
on_ok_always (Err e) p = tt
