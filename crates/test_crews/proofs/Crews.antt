-- Who is in a crew, and what a member may rely on before its work.
use Rattle.std.proofs.Common.{◌≡◌, ◌≢◌, ℕ, ◌+◌, ◌<◌, ◌≤◌, ◌^◌, Result, Ok, Err, OnOk, Some, List, [], ◌∷◌, ◌++◌, map, length, get_or, take, drop, All, append-nil, sym, refl, ap, ◌∙◌, subst, length-append, arith}
use Rattle.std.specs.List.Sorted.{IsStrictlyIncreasing}
use Rattle.std.proofs.lemmas.List.{drop_all, get_or-map, length-map, take_all}
use Rattle.std.proofs.lemmas.List.Elements.{All-nil, All-pop, All-push}
use Rattle.std.proofs.lemmas.List.Kept.{AllPairs-from_increasing}
use Rattle.flow_actions.specs.declared.verdict.Verdict.{Verdict}
use Rattle.flow_calls.specs.declared.caller.Caller.{Caller}
use Rattle.flow_calls.specs.declared.parcel.Parcel.{Parcel}
use Rattle.flow_calls.specs.Entries.{numbers_by}
use Rattle.replica.specs.Caught.{ReplicaView}
use Rattle.flow_port.specs.declared.port.FlowPort.{FlowPort}
use Rattle.flow_port.specs.declared.seat.PortSeat.{PortSeat}
use Rattle.flow_port.specs.Bursts.{passed_all}
use Rattle.flow_port.specs.Ports.{AreDifferent, IsFreshAt, IsSeatAt, limits_of, mine, opening_of, seen, turns, whose}
use Rattle.flow_port.specs.Standing.{StandsAt}
use Rattle.flow_port.proofs.Numbers.{below_passed}
use Rattle.test_crews.specs.declared.passing.Passing.{Passing}
use Rattle.test_crews.specs.declared.seating.Member.{Member}
use Rattle.test_crews.specs.Members.{IsDone, IsFreshPassing}
use Rattle.test_crews.specs.Passing.{MayPass}

abbrev numbers_of : List Caller → List ℕ
numbers_of callers = map (λ (k : Caller). k.0) callers

-- callers whose numbers rise differ
pub differ : (callers : List Caller) → IsStrictlyIncreasing (numbers_of callers) → AreDifferent callers
differ callers rising i j d lt within same =
    let long = length-map callers (λ (k : Caller). k.0) in
    let pair = AllPairs-from_increasing (numbers_of callers) rising i j d.0 lt (omega (arith, within, long)) in
    let here = get_or-map (λ (k : Caller). k.0) callers i d d.0 (omega (arith, lt, within)) in
    let there = get_or-map (λ (k : Caller). k.0) callers j d d.0 within in
    absurd (omega (arith, pair, here, there, same))

-- and those below 25 are known
pub known : (callers : List Caller) (n : ℕ) → n ≤ 25 → All (λ m. m < n) (numbers_of callers) → All (λ (k : Caller). k.0 ≤ 24) callers
known callers n few below k d lt =
    let long = length-map callers (λ (k : Caller). k.0) in
    let under = below k d.0 (omega (arith, lt, long)) in
    let here = get_or-map (λ (k : Caller). k.0) callers k d d.0 lt in
    omega (arith, under, here, few)

-- what holds of the callers, holds of those whose seats they are
pub All-whose : (P : Caller → Type 0) (seats : List PortSeat) (callers : List Caller) → map whose seats ≡ callers → All P callers → All (λ s. P (whose s)) seats
All-whose P seats callers same all k d lt =
    subst P (get_or-map whose seats k d (whose d) lt) (subst (All P) (sym same) all k (whose d) (let e = length-map seats whose in omega arith))

-- a worker that has not begun may let its frames pass
pub may_pass : (port : FlowPort) (s : PortSeat) (p : Passing) → IsFreshAt port s → IsFreshPassing (limits_of port) (whose s).0 p → numbers_by (whose s).0 (opening_of port) ≡ [] → MayPass port s p
may_pass port s p fresh ready none =
    let left = fresh.1 in
    let end = ready.end in
    record {
      seat = fresh.0;
      worker = ready.worker;
      turns = omega (arith, left, end);
      step = ready.step;
      below = subst (All (λ n. n < p.share.next)) (sym (ap (numbers_by (whose s).0) fresh.2 ∙ none)) (All-nil (λ n. n < p.share.next));
      stands = ([], (seen s, refl), ready.stands);
    }

pub on_ok_both : {T E : Type 0} {P Q S : Type 0} (result : Result T E) → OnOk result P → OnOk result Q → (P → Q → S) → OnOk result S
on_ok_both (Ok x) p q f = f p q
on_ok_both (Err e) p q f = tt

-- what a burst tells where it passed: the seat's turn, its caller's entries, and where the replica stands
pub record IsPassed (port : FlowPort) (old new : PortSeat) (ps : List Parcel) (vs : List Verdict) (replica : ReplicaView) : Type 0 where
  pub is : IsSeatAt port new
  pub same : whose new ≡ whose old
  pub turns : turns new + 1 ≡ turns old
  pub mine : mine port new ≡ mine port old ++ passed_all (whose old) ps vs
  pub count : length vs ≡ length ps
  pub stands : StandsAt port new replica

-- behind it a worker may let its next frames pass
pub passed_on : (port : FlowPort) (old new : PortSeat) (p q : Passing) (ps : List Parcel) (vs : List Verdict) → MayPass port old p → IsPassed port old new ps vs q.replica
    → q.share.step ≡ p.share.step → q.share.end ≡ p.share.end → 1 ≤ length ps → p.share.next + length ps ≤ q.share.next → All (λ n. n < q.share.next) (map (λ (k : Parcel). k.number) ps) → MayPass port new q
passed_on port old new p q ps vs may passed same end some further below =
    let left = may.turns in
    let turn = passed.turns in
    let step = may.step in
    record {
      seat = passed.is;
      worker = subst (λ (k : Caller). (9 ≤ k.0) × (k.0 ≤ 24)) (sym passed.same) may.worker;
      turns = omega (arith, left, turn, end, further, some);
      step = omega (arith, step, same);
      below = below_passed port old new ps vs p.share.next q.share.next may.seat passed.is passed.same passed.mine passed.count (omega (arith, further)) below may.below;
      stands = passed.stands;
    }

-- a list that is lent as a slice comes back as it was left
pub written_back : {X : Type 0} (n : ℕ) (left old : List X) → length left ≡ length old → length left ≡ n → take n (left ++ drop (length left) old) ≡ left
written_back n left old same at = ap (take n) (ap (λ l. left ++ l) (drop_all (length left) old (omega arith)) ∙ append-nil left) ∙ take_all n left (omega arith)

-- a member's seat goes back into the list
pub gathered : (port : FlowPort) (before rest : List Member) (m : Member) (old new : List PortSeat) (n : ℕ) → before ≡ rest ++ m ∷ [] → new ≡ old ++ m.seat ∷ []
    → All (IsDone port) before → All (IsSeatAt port) old → length old + length before ≡ n → All (IsDone port) rest × All (IsSeatAt port) new × (length new + length rest ≡ n)
gathered port before rest m old new n parts added done at count =
    let left = All-pop (IsDone port) before rest (Some m) parts done in
    let fewer : length before ≡ length rest + 1 = ap length parts ∙ length-append rest (m ∷ []) in
    let more : length new ≡ length old + 1 = ap length added ∙ length-append old (m.seat ∷ []) in
    (left.0, subst (All (IsSeatAt port)) (sym added) (All-push (IsSeatAt port) old m.seat at left.1), omega (arith, count, fewer, more))
