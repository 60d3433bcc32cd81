-- A replica that stands in a history: behind more entries, caught up, and beside frames.
use Rattle.std.proofs.Common.{◌≡◌, ℕ, ◌+◌, ◌<◌, ◌≤◌, Result, Ok, Err, OnOk, OnErr, List, [], ◌++◌, length, take, drop, fold, refl, sym, ap, ◌∙◌, subst, arith, append-nil, length-append}
use Rattle.std.proofs.lemmas.List.{length-take-le, length-drop, take-append-le, take_all}
use lib.Seq.{take-add}
use Rattle.std.proofs.lemmas.List.Sums.{fold-append}
use Rattle.flow_rules.specs.declared.change.Change.{Change}
use Rattle.flow_rules.specs.declared.limits.Limits.{Limits}
use Rattle.flow_rules.specs.Changes.{changed}
use Rattle.flow_rules.specs.Lawful.{AreLawful}
use Rattle.flow_rules.specs.Walk.{Flows}
use Rattle.replica.specs.Caught.{ReplicaView, caught_up}
use Rattle.flow_calls.specs.declared.entry.Entry.{Entry}
use Rattle.port_state.specs.Changes.{changes_behind, changes_of, flows_at}
use Rattle.port_state.specs.State.{flows_of, opening, state_of}
use Rattle.adapter.specs.Seen.{Seen, Grows}
use Rattle.port_state.proofs.ChangesTold.{changes_of-append, flows_of-changes}
use Rattle.turn_book.specs.Views.{BeginsWith}
use Rattle.flow_port.specs.Standing.{Stands, IsCurrent}

-- the history grew, and the replica is as it was
pub Stands-grown : (limits : Limits) (old more : List Entry) (replica : ReplicaView) → Stands limits old replica → Stands limits (old ++ more) replica
Stands-grown limits old more replica stands =
    let before = changes_of limits old in
    let others = changes_behind limits (state_of limits old) more in
    let all : changes_of limits (old ++ more) ≡ before ++ others = changes_of-append limits old more in
    record {
      port = stands.port;
      behind = omega (arith, ap length all, length-append before others, stands.behind);
      flows = stands.flows
          ∙ ap (fold changed (flows_of (opening limits))) (sym (take-append-le replica.version before others stands.behind) ∙ ap (take replica.version) (sym all));
    }

-- the same of an adapter
pub Stands-grows : (old new : Seen) (entries : List Entry) (replica : ReplicaView) → Grows old new entries → Stands old.limits old.history replica
    → Stands new.limits new.history replica
Stands-grows old new entries replica grows stands =
    subst (λ (l : Limits). Stands l new.history replica) (sym grows.limits)
    (subst (λ h. Stands old.limits h replica) (sym grows.history) (Stands-grown old.limits old.history entries replica stands))

-- at no change, in a history without entries
pub Stands-start : (limits : Limits) → Stands limits [] (record { limits = limits; version = 0; flows = flows_of (opening limits) })
Stands-start limits = record { port = refl; behind = omega arith; flows = refl }

-- it applied some of the changes that are left
pub Stands-caught : (limits : Limits) (history : List Entry) (replica after : ReplicaView) (left list : List Change) (n : ℕ) → Stands limits history replica
    → left ≡ drop replica.version (changes_of limits history) → n ≤ length left → list ≡ take n left → after ≡ caught_up replica list → Stands limits history after
Stands-caught limits history replica after left list n stands rest few some is =
    let all = changes_of limits history in
    let start = flows_of (opening limits) in
    let short : length list ≡ n = ap length some ∙ length-take-le n left few in
    let count : after.version ≡ replica.version + n = ap (λ (r : ReplicaView). r.version) is ∙ ap (λ m. replica.version + m) short in
    record {
      port = ap (λ (r : ReplicaView). r.limits) is ∙ stands.port;
      behind = omega (arith, count, few, ap length rest, length-drop replica.version all, stands.behind);
      flows = ap (λ (r : ReplicaView). r.flows) is
          ∙ ap (λ (flows : Flows). fold changed flows list) stands.flows
          ∙ sym (fold-append changed start (take replica.version all) list)
          ∙ ap (λ l. fold changed start (take replica.version all ++ l)) (some ∙ ap (take n) rest)
          ∙ ap (fold changed start) (sym (take-add replica.version n all))
          ∙ ap (λ m. fold changed start (take m all)) (sym count);
    }

-- it applied all of them, or met want of memory behind some
pub Stands-followed : {T E : Type 0} (result : Result T E) (limits : Limits) (history : List Entry) (replica after : ReplicaView) (left : List Change) → Stands limits history replica
    → left ≡ drop replica.version (changes_of limits history) → OnOk result (after ≡ caught_up replica left)
    → OnErr result ((n : ℕ) × (n < length left) × (after ≡ caught_up replica (take n left))) → Stands limits history after
Stands-followed (Ok x) limits history replica after left stands rest ok err =
    Stands-caught limits history replica after left left (length left) stands rest (omega arith) (sym (take_all (length left) left (omega arith))) ok
Stands-followed (Err e) limits history replica after left stands rest ok err =
    let some = err.1 in
    Stands-caught limits history replica after left (take err.0 left) err.0 stands rest (omega arith) refl err.2

-- behind all that are left it is current
pub current-caught : (limits : Limits) (history : List Entry) (replica after : ReplicaView) (left : List Change) → Stands limits history replica
    → left ≡ drop replica.version (changes_of limits history) → after ≡ caught_up replica left → IsCurrent limits history after
current-caught limits history replica after left stands rest is =
    let all = changes_of limits history in
    let count : after.version ≡ replica.version + length left = ap (λ (r : ReplicaView). r.version) is in
    record {
      stands = Stands-caught limits history replica after left left (length left) stands rest (omega arith) (sym (take_all (length left) left (omega arith))) is;
      version = omega (arith, count, ap length rest, length-drop replica.version all, stands.behind);
    }

-- the changes that are left may come
pub lawful-left : (limits : Limits) (history : List Entry) (replica : ReplicaView) (version : ℕ) (list : List Change) → version ≡ replica.version → Stands limits history replica
    → AreLawful limits (flows_at limits history version) list → AreLawful replica.limits replica.flows list
lawful-left limits history replica version list same stands lawful =
    subst (λ (l : Limits). AreLawful l replica.flows list) (sym stands.port)
    (subst (λ (f : Flows). AreLawful limits f list) (sym (stands.flows ∙ ap (flows_at limits history) (sym same))) lawful)

-- behind all changes it sees what packets see now
pub flows-current : (limits : Limits) (history : List Entry) (replica : ReplicaView) → IsCurrent limits history replica → replica.flows ≡ flows_of (state_of limits history)
flows-current limits history replica current =
    let all = changes_of limits history in
    current.stands.flows
    ∙ ap (fold changed (flows_of (opening limits))) (take_all replica.version all (omega (arith, current.version)))
    ∙ sym (flows_of-changes limits history)

-- what a seat has seen is a front of the history in its turn
pub Stands-later : (limits now : Limits) (front seen history : List Entry) (replica : ReplicaView) → now ≡ limits → BeginsWith seen front → BeginsWith history seen
    → Stands limits front replica → Stands now history replica
Stands-later limits now front seen history replica same begins grew stands =
    subst (λ (l : Limits). Stands l history replica) (sym same)
    (subst (λ h. Stands limits h replica) (sym (grew.1 ∙ ap (λ l. l ++ grew.0) begins.1))
    (Stands-grown limits (front ++ begins.0) grew.0 replica (Stands-grown limits front begins.0 replica stands)))

-- a current replica stands in what the seat has seen
pub at_front : (limits : Limits) (history : List Entry) (replica : ReplicaView) → Stands limits history replica → (front : List Entry) × BeginsWith history front × Stands limits front replica
at_front limits history replica stands = (history, ([], sym (append-nil history)), stands)
