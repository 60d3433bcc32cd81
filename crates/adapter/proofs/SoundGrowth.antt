-- An adapter stays sound behind one more entry.
use Rattle.std.proofs.Common.{◌≡◌, ℕ, ◌+◌, ◌*◌, Bool, true, false, map, flat_map, count_by, ◌<◌, ◌≤◌, ◌^◌, List, [], ◌∷◌, ◌++◌, length, refl, sym, ap, ◌∙◌, append_assoc, append-nil, subst, arith, length-append}
use Rattle.std.proofs.lemmas.List.Sums.{count_by-le-length}
use Rattle.std.proofs.lemmas.Nat.{mul-le}
use Rattle.packet_headers.specs.declared.items.LayerAt.{LayerAt}
use Rattle.flow_actions.specs.declared.verdict.Verdict.{Verdict}
use Rattle.flow_actions.specs.declared.verdict.Fate.{Fate}
use Rattle.flow_actions.specs.declared.verdict.Fate.TheVariants as fates
use Rattle.flow_rules.specs.declared.limits.Limits.{Limits}
use Rattle.flow_rules.specs.Walk.{Flows, verdict_of, counters_of}
use Rattle.flow_calls.specs.declared.caller.Caller.{Caller}
use Rattle.flow_calls.specs.declared.call.Call.{Call}
use Rattle.flow_calls.specs.declared.call.Op.{Op}
use Rattle.flow_calls.specs.declared.parcel.Parcel.{Parcel}
use Rattle.flow_calls.specs.declared.reply.Totals.{Totals}
use Rattle.flow_calls.specs.declared.entry.Entry.{Entry}
use Rattle.flow_calls.specs.declared.entry.Entry.TheVariants.{Asked, Passed}
use Rattle.port_state.specs.State.{State, state_of, state_behind, opening, flows_of, rule_in, next_state}
use Rattle.flow_calls.specs.declared.call.Op.TheVariants as ops
use Rattle.flow_rules.specs.declared.counter.Counter.{Counter}
use Rattle.flow_rules.specs.declared.counter.Counter.TheVariants as counters
use Rattle.flow_rules.specs.declared.counter.Count.{Count}
use Rattle.flow_rules.specs.Naming.{rule_at, namings_at}
use Rattle.flow_rules.specs.Shared.{shared_at}
use Rattle.flow_rules.proofs.Namings.{named-by_path}
use Rattle.port_state.specs.Changes.{changes_by}
use Rattle.port_state.specs.Counters.{zero_count, counted_more, is_counter, is_there, while_there, carried, count_of}
use Rattle.flow_rules.specs.declared.change.Change.{Change}
use Rattle.flow_rules.specs.Changes.{changed}
use Rattle.port_state.specs.Raising.{HasRoomFor}
use Rattle.flow_calls.specs.Totals.{totals_of}
use Rattle.port_state.specs.Standing.{Standing, standing_of, Counts}
use Rattle.port_state.specs.Reply.{answer_of, reply_to, reply_to_query, reply_to_shared_query}
use Rattle.adapter.proofs.CountsGrowth.{count_of-push, count_of-nil}
use Rattle.flow_rules.specs.OnPort.{IsBelow}
use Rattle.port_state.specs.Counted.{counted, HasRoom}
use Rattle.adapter.specs.History.{IsLegalBehind, IsRight}
use Rattle.flow_rules.specs.Limits.{AreLimits}
use Rattle.adapter.specs.Sound.{Sound}
use Rattle.port_state.proofs.StateKept.{IsUnder, IsUnder-state_of, state_of-push, state_of-nil}
use Rattle.flow_rules.proofs.FatesBelow.{verdict-below}
use Rattle.adapter.proofs.TotalsGrowth.{totals_of-asked, totals_of-passed, totals_of-room, totals_of-nil}

-- a legal history and a right entry behind it
pub IsLegalBehind-push : (limits : Limits) (before h : List Entry) (e : Entry) → IsLegalBehind limits before h → IsRight limits (before ++ h) e → IsLegalBehind limits before (h ++ e ∷ [])
IsLegalBehind-push limits before [] e legal right = (subst (λ b. IsRight limits b e) (append-nil before) right, tt)
IsLegalBehind-push limits before (x ∷ h) e legal right =
    (legal.0, IsLegalBehind-push limits (before ++ x ∷ []) h e legal.1 (subst (λ b. IsRight limits b e) (sym (append_assoc before (x ∷ []) h)) right))

reply_to-is : (limits : Limits) (h : List Entry) (op : Op) → reply_to limits h op ≡ answer_of limits (standing_of limits h) op
unfolding reply_to
reply_to-is limits h op = refl

-- no frame passed
abbrev pub no_totals : Totals
no_totals = record { received = 0; dropped = 0; queues = 0 ∷ 0 ∷ 0 ∷ 0 ∷ 0 ∷ 0 ∷ 0 ∷ 0 ∷ 0 ∷ 0 ∷ 0 ∷ 0 ∷ 0 ∷ 0 ∷ 0 ∷ 0 ∷ [] }

-- an adapter without rules and entries
pub Sound-nil : (limits : Limits) (at : Standing) → at.state ≡ opening limits → at.totals ≡ no_totals → ((c : Counter) → at.count c ≡ zero_count) → AreLimits limits
    → Sound limits at []
Sound-nil limits at state totals counts ranges = record {
  ranges = ranges;
  state = state ∙ sym (state_of-nil limits);
  totals = totals ∙ sym totals_of-nil;
  counts = λ c. counts c ∙ sym (count_of-nil limits c);
  few = λ c. omega (arith, ap (λ (n : Count). n.hits) (counts c), ap (λ (n : Count). n.bytes) (counts c));
  legal = tt;
  short = omega arith;
}

-- the state of an adapter is under its limits
pub IsUnder-sound : (limits : Limits) (at : Standing) (h : List Entry) → Sound limits at h → IsUnder limits at.state
IsUnder-sound limits at h sound = subst (IsUnder limits) (sym sound.state) (IsUnder-state_of limits h)

-- replies depend on what each counter stands at alone
pub answer-counts : (limits : Limits) (s : State) (t : Totals) (f g : Counter → Count) → ((c : Counter) → f c ≡ g c) → (op : Op)
    → answer_of limits (record { state = s; totals = t; count = f }) op ≡ answer_of limits (record { state = s; totals = t; count = g }) op
answer-counts limits s t f g same (ops.Validate spec) = refl
answer-counts limits s t f g same (ops.Create spec) = refl
answer-counts limits s t f g same (ops.Destroy id) = refl
answer-counts limits s t f g same ops.Flush = refl
answer-counts limits s t f g same (ops.Query id) = ap (reply_to_query (rule_at id (map rule_in s.rules))) (same (counters.Rule id))
answer-counts limits s t f g same ops.List = refl
answer-counts limits s t f g same (ops.Isolate on) = refl
answer-counts limits s t f g same (ops.IndirectCreate id attr action) = refl
answer-counts limits s t f g same (ops.IndirectUpdate id action) = refl
answer-counts limits s t f g same (ops.IndirectDestroy id) = refl
answer-counts limits s t f g same (ops.IndirectQuery id) = ap (reply_to_shared_query (shared_at id s.shared)) (same (counters.Shared id))
answer-counts limits s t f g same (ops.PatternTemplateCreate id attr pattern) = refl
answer-counts limits s t f g same (ops.PatternTemplateDestroy id) = refl
answer-counts limits s t f g same (ops.ActionsTemplateCreate id attr lists) = refl
answer-counts limits s t f g same (ops.ActionsTemplateDestroy id) = refl
answer-counts limits s t f g same (ops.TableCreate id attr rules_number templates) = refl
answer-counts limits s t f g same (ops.TableDestroy id) = refl
answer-counts limits s t f g same (ops.Configure queues size) = refl
answer-counts limits s t f g same (ops.QueueCreate q postpone table pt act lists) = refl
answer-counts limits s t f g same (ops.QueueDestroy q postpone rule) = refl
answer-counts limits s t f g same (ops.QueueIndirectCreate q postpone id attr action) = refl
answer-counts limits s t f g same (ops.QueueIndirectUpdate q postpone id action) = refl
answer-counts limits s t f g same (ops.QueueIndirectDestroy q postpone id) = refl
answer-counts limits s t f g same (ops.Push q) = refl
answer-counts limits s t f g same (ops.Pull q) = refl
answer-counts limits s t f g same (ops.Start _) = refl
answer-counts limits s t f g same ops.Stop = refl
answer-counts limits s t f g same ops.Quit = refl
answer-counts limits s t f g same (ops.Bad _) = refl

-- the reply of the standing is that behind the history
pub reply-sound : (limits : Limits) (at : Standing) (h : List Entry) (op : Op) → Sound limits at h → answer_of limits at op ≡ reply_to limits h op
reply-sound limits at h op sound =
    let told : State → Totals → Standing = λ s t. record { state = s; totals = t; count = at.count } in
    ap (λ s. answer_of limits (told s at.totals) op) sound.state
    ∙ ap (λ t. answer_of limits (told (state_of limits h) t) op) sound.totals
    ∙ answer-counts limits (state_of limits h) (totals_of h) at.count (count_of limits h) sound.counts op
    ∙ sym (reply_to-is limits h op)

-- the facts on few frames
abbrev IsFew : ℕ → Count → Type 0
IsFew k n = (n.hits ≤ 256 * k) × (n.bytes ≤ 2 ^ 32 * n.hits)

while_there-few : (b : Bool) (n : Count) (k : ℕ) → IsFew k n → IsFew k (while_there b n)
while_there-few true n k few = few
while_there-few false n k few = (omega arith, omega arith)

carried-few : (c : Counter) (flows : Flows) (list : List Change) (n : Count) (k : ℕ) → IsFew k n → IsFew k (carried c flows list n)
carried-few c flows [] n k few = few
carried-few c flows (change ∷ list) n k few =
    carried-few c (changed flows change) list (while_there (is_there c (changed flows change)) n) k (while_there-few (is_there c (changed flows change)) n k few)

few-later : (n : Count) (k : ℕ) → IsFew k n → IsFew (k + 1) n
few-later n k few = (omega (arith, few.0), few.1)

-- behind a call that was answered and carried out
pub Sound-asked : (limits : Limits) (at at' : Standing) (h : List Entry) (caller : Caller) (call : Call)
    → Sound limits at h → length h < 2 ^ 32 → at'.state ≡ next_state limits at.state call.op → at'.totals ≡ at.totals
    → ((c : Counter) → at'.count c ≡ carried c (flows_of at.state) (changes_by limits at.state call.op) (at.count c))
    → Sound limits at' (h ++ Asked caller call (answer_of limits at call.op) ∷ [])
Sound-asked limits at at' h caller call sound more is totals counts =
    let e : Entry = Asked caller call (answer_of limits at call.op) in
    let before = state_of limits h in
    let behind : at'.state ≡ state_behind limits before e = is ∙ ap (λ s. next_state limits s call.op) sound.state in
    record {
      ranges = sound.ranges;
      state = behind ∙ sym (state_of-push limits h e);
      totals = totals ∙ sound.totals ∙ totals_of-asked h caller call (answer_of limits at call.op);
      counts = λ c. counts c ∙ ap (λ (s : State). carried c (flows_of s) (changes_by limits s call.op) (at.count c)) sound.state
          ∙ ap (carried c (flows_of before) (changes_by limits before call.op)) (sound.counts c) ∙ sym (count_of-push limits h e c);
      few = λ c. subst (IsFew (length (h ++ e ∷ []))) (sym (counts c))
          (subst (λ k. IsFew k (carried c (flows_of at.state) (changes_by limits at.state call.op) (at.count c))) (sym (length-append h (e ∷ [])))
          (few-later (carried c (flows_of at.state) (changes_by limits at.state call.op) (at.count c)) (length h)
          (carried-few c (flows_of at.state) (changes_by limits at.state call.op) (at.count c) (length h) (sound.few c))));
      legal = IsLegalBehind-push limits [] h e sound.legal (reply-sound limits at h call.op sound);
      short = omega (arith, length-append h (e ∷ []));
    }

-- where nothing but memory was taken
pub Sound-same : (limits : Limits) (at at' : Standing) (h : List Entry) → Sound limits at h → at'.state ≡ at.state → at'.totals ≡ at.totals → ((c : Counter) → at'.count c ≡ at.count c)
    → Sound limits at' h
Sound-same limits at at' h sound state totals counts = record {
  ranges = sound.ranges;
  state = state ∙ sound.state;
  totals = totals ∙ sound.totals;
  counts = λ c. counts c ∙ sound.counts c;
  few = λ c. subst (IsFew (length h)) (sym (counts c)) (sound.few c);
  legal = sound.legal;
  short = sound.short;
}

IsBelow-more : (n : ℕ) (fate : Fate) → n ≤ 16 → IsBelow n fate → IsBelow 16 fate
IsBelow-more n (fates.Queue q) more below = omega arith
IsBelow-more n fates.Drop more below = tt

-- the queue of the verdict on a frame is one that the totals count
pub IsBelow-verdict : (limits : Limits) (h : List Entry) (layers : List LayerAt) (v : Verdict)
    → AreLimits limits → v ≡ verdict_of (flows_of (state_of limits h)) layers → IsBelow 16 v.fate
IsBelow-verdict limits h layers v ranges is =
    subst (λ (w : Verdict). IsBelow 16 w.fate) (sym is)
    (IsBelow-more limits.rxq (verdict_of (flows_of (state_of limits h)) layers).fate ranges.queues
    (verdict-below limits.rxq ranges.some_queue (flows_of (state_of limits h)) (IsUnder-state_of limits h).port layers (IsUnder-state_of limits h).queues (IsUnder-state_of limits h).shared))

-- the totals can rise
pub HasRoom-totals : (limits : Limits) (at : Standing) (h : List Entry) → Sound limits at h → HasRoom at.totals
HasRoom-totals limits at h sound = subst HasRoom (sym sound.totals) (totals_of-room h sound.short)

-- and so can each counter
pub HasRoomFor-counts : (limits : Limits) (at : Standing) (h : List Entry) → Sound limits at h → (c : Counter) → HasRoomFor 256 (at.count c)
HasRoomFor-counts limits at h sound c = (omega (arith, (sound.few c).0, sound.short), omega (arith, (sound.few c).0, (sound.few c).1, sound.short))

few-more : (n : Count) (k len l l' : ℕ) → l' ≡ l + 1 → len < 2 ^ 32 → k ≤ 256 → (n.hits ≤ 256 * l) × (n.bytes ≤ 2 ^ 32 * n.hits)
    → ((counted_more n k len).hits ≤ 256 * l') × ((counted_more n k len).bytes ≤ 2 ^ 32 * (counted_more n k len).hits)
few-more n k len l l' longer short most few = (omega (arith, longer, most, few.0), product (mul-le k len k (2 ^ 32) (omega arith) (omega (arith, short)))) where
  product : k * len ≤ k * 2 ^ 32 → n.bytes + k * len ≤ 2 ^ 32 * (n.hits + k)
  product more = omega (arith, more, few.1)

-- behind a frame that was entered and counted
pub Sound-passed : (limits : Limits) (at at' : Standing) (h : List Entry) (caller : Caller) (parcel : Parcel) (v : Verdict)
    → Sound limits at h → length h < 2 ^ 32 → v ≡ verdict_of (flows_of (state_of limits h)) parcel.key → Counts at at' v.path.items v.fate parcel.len
    → Sound limits at' (h ++ Passed caller parcel v ∷ [])
Sound-passed limits at at' h caller parcel v sound more is by_frame =
    let e : Entry = Passed caller parcel v in
    let names = flat_map (namings_at (flows_of at.state)) v.path.items in
    let at_state : v ≡ verdict_of (flows_of at.state) parcel.key = is ∙ ap (λ (s : State). verdict_of (flows_of s) parcel.key) (sym sound.state) in
    let named : names ≡ counters_of (flows_of at.state) parcel.key
    = ap (λ (w : Verdict). flat_map (namings_at (flows_of at.state)) w.path.items) at_state ∙ sym (named-by_path (flows_of at.state) parcel.key by_frame.own) in
    record {
      ranges = sound.ranges;
      state = by_frame.state ∙ sound.state ∙ sym (state_of-push limits h e);
      totals = by_frame.totals ∙ ap (λ t. counted t v.fate) sound.totals ∙ totals_of-passed h caller parcel v (IsBelow-verdict limits h parcel.key v sound.ranges is);
      counts = λ c. by_frame.count c
          ∙ ap (λ ns. counted_more (at.count c) (count_by (is_counter c) ns) parcel.len) (named ∙ ap (λ (s : State). counters_of (flows_of s) parcel.key) sound.state)
          ∙ ap (λ n. counted_more n (count_by (is_counter c) (counters_of (flows_of (state_of limits h)) parcel.key)) parcel.len) (sound.counts c)
          ∙ sym (count_of-push limits h e c);
      few = λ c. subst (λ (n : Count). (n.hits ≤ 256 * length (h ++ e ∷ [])) × (n.bytes ≤ 2 ^ 32 * n.hits)) (sym (by_frame.count c))
          (few-more (at.count c) (count_by (is_counter c) names) parcel.len (length h) (length (h ++ e ∷ [])) (length-append h (e ∷ [])) by_frame.short
          (omega (arith, count_by-le-length (is_counter c) names, by_frame.few)) (sound.few c));
      legal = IsLegalBehind-push limits [] h e sound.legal is;
      short = omega (arith, length-append h (e ∷ []));
    }
