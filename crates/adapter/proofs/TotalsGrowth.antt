-- Totals behind one more entry.
use Rattle.std.proofs.Common.{◌≡◌, ℕ, ◌+◌, ◌<◌, ◌≤◌, ◌^◌, Bool, cond, List, [], ◌∷◌, ◌++◌, length, get_or, refl, sym, ap, ◌∙◌, add-zero, zero-add, arith, subst, inl, inr, replicate, eq-eqb}
use Rattle.std.specs.List.{count_by, slice_index, slice_set}
use Rattle.std.proofs.lemmas.List.Sums.{sum_by-append, count_by-le-length}
use Rattle.std.proofs.lemmas.List.FromFn.{fill_by_all, get_or-map-range_with_len, length-map-range_with_len}
use Rattle.std.proofs.lemmas.List.{get_or-set_same, get_or-set_other, length-set}
use Rattle.std.proofs.lemmas.Bool.Decides.{eqb_tells}
use Rattle.flow_calls.specs.declared.caller.Caller.{Caller}
use Rattle.flow_calls.specs.declared.call.Call.{Call}
use Rattle.flow_calls.specs.declared.parcel.Parcel.{Parcel}
use Rattle.flow_calls.specs.declared.reply.Reply.{Reply}
use Rattle.flow_calls.specs.declared.reply.Totals.{Totals}
use Rattle.flow_actions.specs.declared.verdict.Verdict.{Verdict}
use Rattle.flow_actions.specs.declared.verdict.Fate.{Fate}
use Rattle.flow_actions.specs.declared.verdict.Fate.TheVariants as fates
use Rattle.flow_calls.specs.declared.entry.Entry.{Entry}
use Rattle.flow_calls.specs.declared.entry.Entry.TheVariants.{Asked, Passed}
use Rattle.flow_calls.specs.Totals.{totals_of, queue_totals, passes_by, is_queue, is_any_fate, is_drop}
use Rattle.flow_rules.specs.OnPort.{IsBelow}
use Rattle.port_state.specs.Counted.{counted, HasRoom}

-- one more entry adds one to the count where it passes
pub count_by-push : (p : Entry → Bool) (h : List Entry) (e : Entry) → count_by p (h ++ e ∷ []) ≡ count_by p h + cond (p e) 1 0
count_by-push p h e = sum_by-append (λ x. cond (p x) 1 0) h (e ∷ []) ∙ ap (λ n. count_by p h + n) (zero-add (cond (p e) 1 0))

pub length-queue_totals : (h : List Entry) → length (queue_totals h) ≡ 16
unfolding queue_totals
length-queue_totals h = length-map-range_with_len (λ q. count_by (passes_by (is_queue q)) h) 0 16

pub get_or-queue_totals : (h : List Entry) (q : ℕ) → q < 16 → get_or (queue_totals h) q 0 ≡ count_by (passes_by (is_queue q)) h
unfolding queue_totals
get_or-queue_totals h q below = get_or-map-range_with_len (λ k. count_by (passes_by (is_queue k)) h) 0 16 q q 0 below (zero-add q)

-- numbers that are the counts at each queue are the totals
pub queue_totals_by : (h : List Entry) (qs : List ℕ) → length qs ≡ 16 → ((q : ℕ) → q < 16 → get_or qs q 0 ≡ count_by (passes_by (is_queue q)) h) → qs ≡ queue_totals h
unfolding queue_totals
queue_totals_by h qs n each = fill_by_all (λ q. count_by (passes_by (is_queue q)) h) qs 16 0 n each

-- a call changes no totals
pub queue_totals-asked : (h : List Entry) (caller : Caller) (call : Call) (reply : Reply) → queue_totals h ≡ queue_totals (h ++ Asked caller call reply ∷ [])
queue_totals-asked h caller call reply =
    queue_totals_by (h ++ Asked caller call reply ∷ []) (queue_totals h) (length-queue_totals h)
    (λ q below. get_or-queue_totals h q below ∙ sym (add-zero (count_by (passes_by (is_queue q)) h)) ∙ sym (count_by-push (passes_by (is_queue q)) h (Asked caller call reply)))

abbrev totals_with : ℕ → ℕ → List ℕ → Totals
totals_with received dropped queues = record { received = received; dropped = dropped; queues = queues }

Totals-ext : (r r' d d' : ℕ) (qs qs' : List ℕ) → r ≡ r' → d ≡ d' → qs ≡ qs' → totals_with r d qs ≡ totals_with r' d' qs'
Totals-ext r r' d d' qs qs' a b c = ap (λ n. totals_with n d qs) a ∙ ap (λ n. totals_with r' n qs) b ∙ ap (λ l. totals_with r' d' l) c

pub totals_of-asked : (h : List Entry) (caller : Caller) (call : Call) (reply : Reply) → totals_of h ≡ totals_of (h ++ Asked caller call reply ∷ [])
totals_of-asked h caller call reply =
    let e = Asked caller call reply in
    Totals-ext _ _ _ _ _ _
    (sym (count_by-push (passes_by is_any_fate) h e ∙ add-zero (count_by (passes_by is_any_fate) h)))
    (sym (count_by-push (passes_by is_drop) h e ∙ add-zero (count_by (passes_by is_drop) h)))
    (queue_totals-asked h caller call reply)

-- the totals with the queue's one raised
queue_totals-queue : (h : List Entry) (caller : Caller) (parcel : Parcel) (v : Verdict) (n : ℕ) → n < 16 → v.fate ≡ fates.Queue n
    → slice_set (queue_totals h) n (slice_index (queue_totals h) n + 1) ≡ queue_totals (h ++ Passed caller parcel v ∷ [])
queue_totals-queue h caller parcel v n below is =
    let qs = queue_totals h in
    let e = Passed caller parcel v in
    let long : n < length qs = omega (arith, length-queue_totals h) in
    queue_totals_by (h ++ e ∷ []) (slice_set qs n (slice_index qs n + 1))
    (length-set qs n (slice_index qs n + 1) ∙ length-queue_totals h)
    (λ q small. elim (eqb_tells n q) [
      | inl t ↦ subst (λ k. get_or (slice_set qs n (slice_index qs n + 1)) k 0 ≡ count_by (passes_by (is_queue k)) (h ++ e ∷ [])) t.1
          (get_or-set_same qs n (slice_index qs n + 1) 0 long
          ∙ ap (λ k. k + 1) (get_or-queue_totals h n below)
          ∙ sym (count_by-push (passes_by (is_queue n)) h e ∙ ap (λ f. count_by (passes_by (is_queue n)) h + cond (is_queue n f) 1 0) is ∙ ap (λ b. count_by (passes_by (is_queue n)) h + cond b 1 0) (eq-eqb n n refl)))
      | inr t ↦ get_or-set_other qs n q (slice_index qs n + 1) 0 (λ same. t.1 (sym same))
          ∙ get_or-queue_totals h q small
          ∙ sym (count_by-push (passes_by (is_queue q)) h e ∙ ap (λ f. count_by (passes_by (is_queue q)) h + cond (is_queue q f) 1 0) is ∙ ap (λ b. count_by (passes_by (is_queue q)) h + cond b 1 0) t.0 ∙ add-zero (count_by (passes_by (is_queue q)) h))
    ])

queue_totals-drop : (h : List Entry) (caller : Caller) (parcel : Parcel) (v : Verdict) → v.fate ≡ fates.Drop → queue_totals h ≡ queue_totals (h ++ Passed caller parcel v ∷ [])
queue_totals-drop h caller parcel v is =
    let e = Passed caller parcel v in
    queue_totals_by (h ++ e ∷ []) (queue_totals h) (length-queue_totals h)
    (λ q below. get_or-queue_totals h q below
    ∙ sym (count_by-push (passes_by (is_queue q)) h e ∙ ap (λ f. count_by (passes_by (is_queue q)) h + cond (is_queue q f) 1 0) is ∙ add-zero (count_by (passes_by (is_queue q)) h)))

totals_of-fate : (h : List Entry) (caller : Caller) (parcel : Parcel) (v : Verdict) (f : Fate) → v.fate ≡ f → IsBelow 16 f → counted (totals_of h) f ≡ totals_of (h ++ Passed caller parcel v ∷ [])
totals_of-fate h caller parcel v (fates.Queue n) is below =
    let e = Passed caller parcel v in
    Totals-ext _ _ _ _ _ _
    (sym (count_by-push (passes_by is_any_fate) h e))
    (sym (count_by-push (passes_by is_drop) h e ∙ ap (λ f. count_by (passes_by is_drop) h + cond (is_drop f) 1 0) is ∙ add-zero (count_by (passes_by is_drop) h)))
    (queue_totals-queue h caller parcel v n below is)
totals_of-fate h caller parcel v fates.Drop is below =
    let e = Passed caller parcel v in
    Totals-ext _ _ _ _ _ _
    (sym (count_by-push (passes_by is_any_fate) h e))
    (sym (count_by-push (passes_by is_drop) h e ∙ ap (λ f. count_by (passes_by is_drop) h + cond (is_drop f) 1 0) is))
    (queue_totals-drop h caller parcel v is)

-- a frame raises the totals of its fate
pub totals_of-passed : (h : List Entry) (caller : Caller) (parcel : Parcel) (v : Verdict) → IsBelow 16 v.fate → counted (totals_of h) v.fate ≡ totals_of (h ++ Passed caller parcel v ∷ [])
totals_of-passed h caller parcel v below = totals_of-fate h caller parcel v v.fate refl below

-- totals of a history that isn't too long can rise
pub totals_of-room : (h : List Entry) → length h ≤ 2 ^ 32 → HasRoom (totals_of h)
totals_of-room h short = record {
  received = omega (arith, count_by-le-length (passes_by is_any_fate) h);
  dropped = omega (arith, count_by-le-length (passes_by is_drop) h);
  queues = λ q below. omega (arith, get_or-queue_totals h q below, count_by-le-length (passes_by (is_queue q)) h);
}

-- nothing has passed in an empty history
pub totals_of-nil : totals_of [] ≡ record { received = 0; dropped = 0; queues = replicate 16 0 }
unfolding queue_totals
totals_of-nil = refl
