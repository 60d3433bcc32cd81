-- A session's workers behind calls and behind a phase's middle.
use Rattle.std.proofs.Common.{◌≡◌, ℕ, ◌+◌, ◌^◌, ◌≤◌, ◌==◌, Bool, true, false, cond, List, [], ◌∷◌, ◌++◌, length, All, Option, None, Some, sym, ap, ◌∙◌, subst, append-nil, arith}
use Rattle.std.specs.List.{cons_option, sum_by}
use Rattle.std.proofs.lemmas.List.Elements.{All-append, All-cons, All-head, All-nil, All-tail, All-weaker}
use Rattle.std.proofs.lemmas.List.Sorted.{All-permutation}
use Rattle.std.proofs.lemmas.List.Sums.{sum_by-cons}
use Rattle.capture_files.specs.Record.{Frame}
use Rattle.flow_rules.specs.declared.limits.Limits.{Limits}
use Rattle.flow_calls.specs.declared.call.Call.{Call}
use Rattle.flow_calls.specs.declared.entry.Entry.{Entry}
use Rattle.flow_calls.specs.declared.entry.Entry.TheVariants.{Asked, Passed}
use Rattle.flow_calls.specs.declared.parcel.Parcel.{Parcel}
use Rattle.flow_calls.specs.Entries.{numbers_by, parcels_of}
use Rattle.flow_calls.proofs.Entries.{numbers_by-append}
use Rattle.replica.specs.Caught.{ReplicaView}
use Rattle.adapter.specs.Seen.{Seen, Grows}
use Rattle.flow_grammar.specs.declared.part.Part.{Part}
use Rattle.flow_grammar.specs.declared.part.Part.TheVariants.{Section, Phase}
use Rattle.flow_grammar.specs.Limits.{calls_in}
use Rattle.flow_port.specs.Standing.{Stands}
use Rattle.flow_port.proofs.Standing.{Stands-grows}
use Rattle.whole_history.specs.Reach.{parcels_from}
use Rattle.whole_history.specs.Serial.{asks_of}
use Rattle.whole_history.proofs.Telling.{NoFrame-asks}
use Rattle.running_phase.specs.declared.copies.FrameCopy.{FrameCopy}
use Rattle.running_phase.specs.Copies.{parcels}
use Rattle.testpmd_shell.specs.Phase.{AreNumbered}
use Rattle.testpmd_shell.specs.Workers.{AreReady}
use Rattle.testpmd_shell.proofs.Copying.{parcels-numbered}
use Rattle.testpmd_shell.proofs.PhaseRun.{AddsMiddle}

-- ---- before the run

pub AreReady-start : (taken workers : ℕ) (limits : Limits) (adapter : Seen) (replicas : List ReplicaView) → adapter.limits ≡ limits → adapter.history ≡ [] → length replicas ≡ workers
    → (1 ≤ workers) × (workers ≤ 16) → All (λ (r : ReplicaView). Stands limits [] r) replicas → AreReady taken adapter replicas
AreReady-start taken workers limits adapter replicas same empty count few stand = record {
  one = subst (λ n. 1 ≤ n) (sym count) few.0;
  few = subst (λ n. n ≤ 16) (sym count) few.1;
  stand = subst (λ (l : Limits). All (λ (r : ReplicaView). Stands l adapter.history r) replicas) (sym same)
      (subst (λ h. All (λ (r : ReplicaView). Stands limits h r) replicas) (sym empty) stand);
  numbered = λ by. subst (λ h. All (λ n. n ≤ taken) (numbers_by by h)) (sym empty) (All-nil (λ n. n ≤ taken));
}

-- ---- behind calls

pub AreReady-asks : (taken : ℕ) (limits : Limits) (who : ℕ) (calls : List Call) (h : List Entry) (old new : Seen) (replicas : List ReplicaView) → Grows old new (asks_of limits who calls h)
    → AreReady taken old replicas → AreReady taken new replicas
AreReady-asks taken limits who calls h old new replicas grows ready =
    let asked = asks_of limits who calls h in record {
      one = ready.one;
      few = ready.few;
      stand = All-weaker (λ (r : ReplicaView). Stands old.limits old.history r) (λ (r : ReplicaView). Stands new.limits new.history r)
          (λ r stands. Stands-grows old new asked r grows stands) replicas ready.stand;
      numbered = λ by. subst (All (λ n. n ≤ taken))
          (sym (ap (numbers_by by) grows.history ∙ numbers_by-append by old.history asked ∙ ap (λ l. numbers_by by old.history ++ l) ((NoFrame-asks limits who calls h).numbers by)
          ∙ append-nil (numbers_by by old.history)))
          (ready.numbered by);
    }

-- ---- behind a phase's middle

low_parcels : (most number : ℕ) (frames : List Frame) → number + length frames ≤ most + 1 → All (λ (p : Parcel). p.number ≤ most) (parcels_from number frames)
low_parcels most number [] few = All-nil (λ (p : Parcel). p.number ≤ most)
low_parcels most number (f ∷ frames) few =
    All-cons (λ (p : Parcel). p.number ≤ most) _ (parcels_from (number + 1) frames) (omega arith) (low_parcels most (number + 1) frames (omega arith))

low_cons : (b : Bool) (most n : ℕ) (ns : List ℕ) → n ≤ most → All (λ n. n ≤ most) ns → All (λ n. n ≤ most) (cons_option (cond b (Some n) None) ns)
low_cons true most n ns low others = All-cons (λ n. n ≤ most) n ns low others
low_cons false most n ns low others = others

low_numbers : (most who : ℕ) (es : List Entry) → All (λ (p : Parcel). p.number ≤ most) (parcels_of es) → All (λ n. n ≤ most) (numbers_by who es)
low_numbers most who [] low = All-nil (λ n. n ≤ most)
low_numbers most who (Asked caller call reply ∷ es) low = low_numbers most who es low
low_numbers most who (Passed caller parcel verdict ∷ es) low =
    let L : Parcel → Type 0 = λ p. p.number ≤ most in
    low_cons (caller.0 == who) most parcel.number (numbers_by who es) (All-head L parcel (parcels_of es) low) (low_numbers most who es (All-tail L parcel (parcels_of es) low))

pub AreReady-middle : (workers taken : ℕ) (shell : List Call) (agents : List (List Call)) (opening : Call) (more : List Frame) (copies : List FrameCopy) (old new : Seen) (replicas replicas' : List ReplicaView)
    → AddsMiddle workers shell agents copies old new → AreNumbered (taken + 1) more copies → length replicas' ≡ length replicas
    → All (λ (r : ReplicaView). Stands new.limits new.history r) replicas' → AreReady taken old replicas → AreReady (taken + length more) new replicas'
AreReady-middle workers taken shell agents opening more copies old new replicas replicas' passed are same stand ready =
    let most = taken + length more in
    let middle = passed.0 in
    let L : Parcel → Type 0 = λ p. p.number ≤ most in
    let is = passed.2 opening opening None in
    let dealt : All L (parcels copies) = subst (All L) (sym (parcels-numbered (taken + 1) more copies are)) (low_parcels most (taken + 1) more (omega arith)) in
    let low : All L (parcels_of middle) = All-permutation L (parcels copies) (parcels_of middle) is.frames dealt in
    record {
      one = subst (λ n. 1 ≤ n) (sym same) ready.one;
      few = subst (λ n. n ≤ 16) (sym same) ready.few;
      stand = stand;
      numbered = λ by. subst (All (λ n. n ≤ most)) (sym (ap (numbers_by by) passed.1 ∙ numbers_by-append by old.history middle))
          (All-append (λ n. n ≤ most) (numbers_by by old.history) (numbers_by by middle)
          (All-weaker (λ n. n ≤ taken) (λ n. n ≤ most) (λ n below. omega arith) (numbers_by by old.history) (ready.numbered by))
          (low_numbers most by middle low));
    }

-- ---- how many calls a phase has

few-lists : (most : ℕ) (lists : List (List Call)) → sum_by length lists ≤ most → All (λ (calls : List Call). length calls ≤ most) lists
few-lists most [] few = All-nil (λ (calls : List Call). length calls ≤ most)
few-lists most (calls ∷ lists) few =
    let sum : sum_by length (calls ∷ lists) ≡ length calls + sum_by length lists = sum_by-cons length calls lists in
    All-cons (λ (cs : List Call). length cs ≤ most) calls lists (omega (arith, sum)) (few-lists most lists (omega (arith, sum)))

pub few-each : (opening closing : Call) (count : Option ℕ) (shell : List Call) (agents : List (List Call)) → calls_in (Phase opening count shell agents closing ∷ []) ≤ 65536
    → (length shell ≤ 2 ^ 32) × All (λ (calls : List Call). length calls ≤ 2 ^ 32) agents
few-each opening closing count shell agents few =
    let all : length shell + sum_by length agents ≤ 65536 = omega (arith, few) in
    let shell_few : length shell ≤ 65536 = omega arith in
    let agents_few : sum_by length agents ≤ 65536 = omega arith in
    let wide : 65536 ≤ 2 ^ 32 = omega arith in (
      omega arith,
      All-weaker (λ (calls : List Call). length calls ≤ 65536) (λ (calls : List Call). length calls ≤ 2 ^ 32) (λ calls short. omega arith) agents
          (few-lists 65536 agents agents_few),
    )

-- of the parts of a program with few calls each has few, and so have those behind it
pub few-part : (part : Part) (others : List Part) → calls_in (part ∷ others) ≤ 65536 → (calls_in (part ∷ []) ≤ 65536) × (calls_in others ≤ 65536)
few-part (Section calls) others few = (omega (arith, few), omega (arith, few))
few-part (Phase opening count shell agents closing) others few = (omega (arith, few), omega (arith, few))
