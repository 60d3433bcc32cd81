-- Where each caller did what it has to do, the entries are a middle of the phase.
use Rattle.std.proofs.Common.{◌≡◌, ◌⊎◌, ℕ, ◌+◌, ◌≤◌, ◌==◌, if◌then◌else◌, Bool, true, false, cond, Option, None, Some, List, [], ◌∷◌, map, filter, get_or, All, sym, refl, ap, ◌∙◌, subst, inl, inr, ⊎_elim, eq-eqb, ne_eqb, arith}
use Rattle.std.specs.List.{cons_option, filter_map}
use Rattle.std.specs.List.Sorted.{IsPermutation, IsStrictlyIncreasing}
use Rattle.std.proofs.lemmas.Bool.Decides.{leb_tells}
use Rattle.std.proofs.lemmas.List.Elements.{All-nil, All-cons, All-map}
use Rattle.std.proofs.lemmas.List.Kept.{IsStrictlyIncreasing-filter}
use Rattle.std.proofs.lemmas.List.Sorted.{IsPermutation-trans, IsPermutation-sym, IsPermutation-map}
use Rattle.flow_actions.specs.declared.verdict.Verdict.{Verdict}
use Rattle.flow_calls.specs.declared.call.Call.{Call}
use Rattle.flow_calls.specs.declared.caller.Caller.{Caller}
use Rattle.flow_calls.specs.declared.entry.Entry.{Entry}
use Rattle.flow_calls.specs.declared.entry.Entry.TheVariants.{Asked, Passed}
use Rattle.flow_calls.specs.declared.parcel.Parcel.{Parcel}
use Rattle.flow_calls.specs.declared.reply.Reply.{Reply}
use Rattle.flow_calls.specs.Entries.{entries_by, call_by, calls_by, number_by, numbers_by, parcels_of, passers_of}
use Rattle.flow_grammar.specs.declared.part.Part.TheVariants as parts
use Rattle.whole_history.specs.Whole.{IsMiddle}
use Rattle.running_phase.specs.Roster.{IsTaker}
use Rattle.running_phase.specs.Shares.{Did, share_of, taker_of}
use Rattle.running_phase.proofs.Pieces.{IsPermutation-pieces, map-pieces, piece, pieces, pieces_agree}

-- ---- what a history tells of a caller, the caller's entries tell

asked_own : (who : ℕ) (caller : Caller) (call : Call) (reply : Reply) (es : List Entry) (b : Bool) → caller.0 == who ≡ b
    → calls_by who (cond b (Asked caller call reply ∷ es) es) ≡ cons_option (call_by who (Asked caller call reply)) (calls_by who es)
asked_own who caller call reply es true e = refl
asked_own who caller call reply es false e = ap (λ b. cons_option (if b then Some call else None) (calls_by who es)) (sym e)

passed_left : (who : ℕ) (caller : Caller) (p : Parcel) (v : Verdict) (es : List Entry) (b : Bool) → calls_by who (cond b (Passed caller p v ∷ es) es) ≡ calls_by who es
passed_left who caller p v es true = refl
passed_left who caller p v es false = refl

calls_by-own : (who : ℕ) (es : List Entry) → calls_by who (entries_by who es) ≡ calls_by who es
calls_by-own who [] = refl
calls_by-own who (Asked caller call reply ∷ es) =
    asked_own who caller call reply (entries_by who es) (caller.0 == who) refl ∙ ap (cons_option (call_by who (Asked caller call reply))) (calls_by-own who es)
calls_by-own who (Passed caller p v ∷ es) = passed_left who caller p v (entries_by who es) (caller.0 == who) ∙ calls_by-own who es

-- ---- frames with those who let them pass

abbrev Passing : Type 0
Passing = ℕ × Parcel

abbrev passing_in : Entry → Option Passing
passing_in (Asked caller call reply) = None
passing_in (Passed caller p v) = Some (caller.0, p)

abbrev passings : List Entry → List Passing
passings es = filter_map passing_in es

abbrev number_of : Parcel → ℕ
number_of p = p.number

parcels_of-passings : (es : List Entry) → map (λ (q : Passing). q.1) (passings es) ≡ parcels_of es
parcels_of-passings [] = refl
parcels_of-passings (Asked caller call reply ∷ es) = parcels_of-passings es
parcels_of-passings (Passed caller p v ∷ es) = ap (λ l. p ∷ l) (parcels_of-passings es)

passers_of-passings : (es : List Entry) → map (λ (q : Passing). q.0) (passings es) ≡ passers_of es
passers_of-passings [] = refl
passers_of-passings (Asked caller call reply ∷ es) = passers_of-passings es
passers_of-passings (Passed caller p v ∷ es) = ap (λ l. caller.0 ∷ l) (passers_of-passings es)

asked_passes_none : (caller : Caller) (call : Call) (reply : Reply) (es : List Entry) (b : Bool) → parcels_of (cond b (Asked caller call reply ∷ es) es) ≡ parcels_of es
asked_passes_none caller call reply es true = refl
asked_passes_none caller call reply es false = refl

passed_passes : (caller : Caller) (p : Parcel) (v : Verdict) (es : List Entry) (qs : List Passing) (b : Bool) → map (λ (q : Passing). q.1) qs ≡ parcels_of es
    → map (λ (q : Passing). q.1) (cond b ((caller.0, p) ∷ qs) qs) ≡ parcels_of (cond b (Passed caller p v ∷ es) es)
passed_passes caller p v es qs true e = ap (λ l. p ∷ l) e
passed_passes caller p v es qs false e = e

-- a caller's frames are those of its passings
parcels_of-own : (who : ℕ) (es : List Entry) → map (λ (q : Passing). q.1) (piece (λ (q : Passing). q.0) (passings es) who) ≡ parcels_of (entries_by who es)
parcels_of-own who [] = refl
parcels_of-own who (Asked caller call reply ∷ es) = parcels_of-own who es ∙ sym (asked_passes_none caller call reply (entries_by who es) (caller.0 == who))
parcels_of-own who (Passed caller p v ∷ es) =
    passed_passes caller p v (entries_by who es) (piece (λ (q : Passing). q.0) (passings es) who) (caller.0 == who) (parcels_of-own who es)

passed_numbers : (who : ℕ) (caller : Caller) (p : Parcel) (v : Verdict) (es : List Entry) (b : Bool) → caller.0 == who ≡ b
    → map number_of (parcels_of (cond b (Passed caller p v ∷ es) es)) ≡ cons_option (number_by who (Passed caller p v)) (map number_of (parcels_of es))
passed_numbers who caller p v es true e = ap (λ b. cons_option (if b then Some p.number else None) (map number_of (parcels_of es))) (sym e)
passed_numbers who caller p v es false e = ap (λ b. cons_option (if b then Some p.number else None) (map number_of (parcels_of es))) (sym e)

numbers_by-parcels : (who : ℕ) (es : List Entry) → map number_of (parcels_of (entries_by who es)) ≡ numbers_by who es
numbers_by-parcels who [] = refl
numbers_by-parcels who (Asked caller call reply ∷ es) =
    ap (map number_of) (asked_passes_none caller call reply (entries_by who es) (caller.0 == who)) ∙ numbers_by-parcels who es
numbers_by-parcels who (Passed caller p v ∷ es) =
    passed_numbers who caller p v (entries_by who es) (caller.0 == who) refl ∙ ap (cons_option (number_by who (Passed caller p v))) (numbers_by-parcels who es)

-- ---- shares

pub taker_known : (workers number : ℕ) → 1 ≤ workers → IsTaker workers (taker_of workers number)
taker_known workers number one = (omega arith, omega arith)

-- a caller that is none of the workers takes no frame
pub no_share : (workers who : ℕ) → 1 ≤ workers → (IsTaker workers who → ⊥) → (ps : List Parcel) → share_of workers who ps ≡ []
no_share workers who one out [] = refl
no_share workers who one out (p ∷ ps) =
    ap (λ b. cond b (p ∷ share_of workers who ps) (share_of workers who ps))
    (ne_eqb (taker_of workers p.number) who (λ e. out (subst (IsTaker workers) e (taker_known workers p.number one))))
    ∙ no_share workers who one out ps

numbers_of : (p : Parcel) (b : Bool) (ns : List ℕ) (ps : List Parcel) → ns ≡ map number_of ps → cond b (p.number ∷ ns) ns ≡ map number_of (cond b (p ∷ ps) ps)
numbers_of p true ns ps e = ap (λ l. p.number ∷ l) e
numbers_of p false ns ps e = e

share_numbers : (workers who : ℕ) (ps : List Parcel) → filter (λ n. taker_of workers n == who) (map number_of ps) ≡ map number_of (share_of workers who ps)
share_numbers workers who [] = refl
share_numbers workers who (p ∷ ps) = numbers_of p (taker_of workers p.number == who) (filter (λ n. taker_of workers n == who) (map number_of ps)) (share_of workers who ps) (share_numbers workers who ps)

taker_or : (workers who : ℕ) → IsTaker workers who ⊎ (IsTaker workers who → ⊥)
taker_or workers who = ⊎_elim
    (λ least. ⊎_elim
    (λ above. inr (λ t. let high = t.1 in let past = above.1 in absurd (omega arith)))
    (λ within. inl (least.1, within.1))
    (leb_tells (9 + workers) who))
    (λ under. inr (λ t. let low = t.0 in let short = under.1 in absurd (omega arith)))
    (leb_tells 9 who)

map-none : {X Y : Type 0} (f : X → Y) (xs : List X) → map f xs ≡ [] → xs ≡ []
map-none f [] e = refl
map-none f (x ∷ xs) e = absurd (cc)

rest-none : {X : Type 0} (b : Bool) (x : X) (xs : List X) → cond b (x ∷ xs) xs ≡ [] → xs ≡ []
rest-none true x xs e = absurd (cc)
rest-none false x xs e = e

-- who lets a frame pass is a worker, where the others let none pass
takers_only : (workers : ℕ) (qs : List Passing) → ((who : ℕ) → (IsTaker workers who → ⊥) → piece (λ (q : Passing). q.0) qs who ≡ []) → All (λ (q : Passing). IsTaker workers q.0) qs
takers_only workers [] none = All-nil (λ (q : Passing). IsTaker workers q.0)
takers_only workers (q ∷ qs) none =
    All-cons (λ (q : Passing). IsTaker workers q.0) q qs
    (⊎_elim
    (λ taker. taker)
    (λ out.
    let by = piece (λ (q : Passing). q.0) qs q.0 in
    let e : q ∷ by ≡ [] = ap (λ b. cond b (q ∷ by) by) (sym (eq-eqb q.0 q.0 refl)) ∙ none q.0 out in
    absurd (cc))
    (taker_or workers q.0))
    (takers_only workers qs (λ who out. rest-none (q.0 == who) q (piece (λ (q : Passing). q.0) qs who) (none who out)))

-- ---- the middle

module _ (workers : ℕ) (shell : List Call) (agents : List (List Call)) (taken : List Parcel) (m : List Entry) (one : 1 ≤ workers)
    (rising : IsStrictlyIncreasing (map number_of taken)) (did : (who : ℕ) → Did workers shell agents taken who (entries_by who m)) where
  abbrev by : ℕ → List Passing
  by = piece (λ (q : Passing). q.0) (passings m)

  own_share : (who : ℕ) → map (λ (q : Passing). q.1) (by who) ≡ share_of workers who taken
  own_share who = parcels_of-own who m ∙ (did who).frames

  by_takers : All (λ (q : Passing). IsTaker workers q.0) (passings m)
  by_takers = takers_only workers (passings m) (λ who out. map-none (λ (q : Passing). q.1) (by who) (own_share who ∙ no_share workers who one out taken))

  -- each frame passes once
  pub all_pass : IsPermutation taken (parcels_of m)
  all_pass =
      let n = 9 + workers in
      let dealt = pieces by 0 n in
      let shares : IsPermutation taken (pieces (λ k. share_of workers k taken) 0 n)
      = IsPermutation-pieces (λ (p : Parcel). taker_of workers p.number) 0 n taken (λ k d lt. let t = taker_known workers (get_or taken k d).number one in let high = t.1 in (omega arith, omega arith)) in
      let same : pieces (λ k. share_of workers k taken) 0 n ≡ map (λ (q : Passing). q.1) dealt
      = pieces_agree (λ k. share_of workers k taken) (λ k. map (λ (q : Passing). q.1) (by k)) 0 n (λ k low. sym (own_share k)) ∙ sym (map-pieces (λ (q : Passing). q.1) by 0 n) in
      let passed : IsPermutation (passings m) dealt
      = IsPermutation-pieces (λ (q : Passing). q.0) 0 n (passings m) (λ k d lt. let t = by_takers k d lt in let high = t.1 in (omega arith, omega arith)) in
      subst (IsPermutation taken) (parcels_of-passings m)
      (IsPermutation-trans taken (map (λ (q : Passing). q.1) dealt) (map (λ (q : Passing). q.1) (passings m))
      (subst (IsPermutation taken) same shares)
      (IsPermutation-map (λ (q : Passing). q.1) dealt (passings m) (IsPermutation-sym (passings m) dealt passed)))

  -- who lets a frame pass is one of the workers
  pub takers_pass : All (IsTaker workers) (passers_of m)
  takers_pass = subst (All (IsTaker workers)) (passers_of-passings m) (All-map (IsTaker workers) (λ (q : Passing). q.0) (passings m) by_takers)

  pub IsMiddle-did : (opening closing : Call) (count : Option ℕ) → IsMiddle workers (parts.Phase opening count shell agents closing) taken m
  IsMiddle-did opening closing count = record {
    calls = λ who. sym (calls_by-own who m) ∙ (did who).calls;
    frames = all_pass;
    passers = takers_pass;
    rising = λ who. subst IsStrictlyIncreasing
        (share_numbers workers who taken ∙ ap (map number_of) (sym ((did who).frames)) ∙ numbers_by-parcels who m)
        (IsStrictlyIncreasing-filter (λ n. taker_of workers n == who) (map number_of taken) rising);
  }
