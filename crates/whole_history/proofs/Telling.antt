-- What calls and frames that come in turn tell of their callers.
use Rattle.std.proofs.Common.{◌≡◌, ℕ, zero, suc, ◌+◌, ◌<◌, ◌≤◌, Bool, true, false, cond, List, [], ◌∷◌, ◌++◌, length, get_or, refl, sym, ap, ◌∙◌, append-nil, add-zero, subst, eqb, arith, None, Some}
use Rattle.std.specs.List.{All, cons_option, range_with_len}
use Rattle.std.proofs.lemmas.List.Elements.{All-cons, All-nil}
use Rattle.std.proofs.lemmas.Bool.Decides.{nat_tests}
use Rattle.flow_rules.specs.declared.limits.Limits.{Limits}
use Rattle.capture_files.specs.Record.{Frame}
use Rattle.flow_calls.specs.declared.call.Call.{Call}
use Rattle.flow_calls.specs.declared.entry.Entry.{Entry}
use Rattle.adapter.specs.History.{asked_by, passed_by}
use Rattle.flow_calls.proofs.Entries.{calls_by-append, parcels_of-append, numbers_by-append, passers_of-append}
use Rattle.flow_calls.specs.Entries.{calls_by, parcels_of, numbers_by, passers_of}
use Rattle.whole_history.specs.Reach.{parcel_of, parcels_from}
use Rattle.whole_history.specs.Whole.{AreAsks}
use Rattle.whole_history.specs.Serial.{caller_at, asks_of, all_asks_of, passes_of}

pub AreAsks-asks : (limits : Limits) (who : ℕ) (calls : List Call) (h : List Entry) → AreAsks who calls (asks_of limits who calls h)
AreAsks-asks limits who [] h = tt
AreAsks-asks limits who (call ∷ calls) h = (refl, refl, AreAsks-asks limits who calls (h ++ asked_by limits h (caller_at who) call ∷ []))

-- ---- entries of which none is a frame

pub record NoFrame (es : List Entry) : Type 0 where
  pub parcels : parcels_of es ≡ []
  pub passers : passers_of es ≡ []
  pub numbers : (who : ℕ) → numbers_by who es ≡ []

both-nil : {X : Type 0} (f : List Entry → List X) (xs ys : List Entry) → f (xs ++ ys) ≡ f xs ++ f ys → f xs ≡ [] → f ys ≡ [] → f (xs ++ ys) ≡ []
both-nil f xs ys append p q = append ∙ ap (λ l. l ++ f ys) p ∙ q

NoFrame-append : (xs ys : List Entry) → NoFrame xs → NoFrame ys → NoFrame (xs ++ ys)
NoFrame-append xs ys p q = record {
  parcels = both-nil parcels_of xs ys (parcels_of-append xs ys) p.parcels q.parcels;
  passers = both-nil passers_of xs ys (passers_of-append xs ys) p.passers q.passers;
  numbers = λ who. both-nil (numbers_by who) xs ys (numbers_by-append who xs ys) (p.numbers who) (q.numbers who);
}

NoFrame-nil : NoFrame []
NoFrame-nil = record { parcels = refl; passers = refl; numbers = λ who. refl }

pub NoFrame-asks : (limits : Limits) (who : ℕ) (calls : List Call) (h : List Entry) → NoFrame (asks_of limits who calls h)
NoFrame-asks limits who [] h = NoFrame-nil
NoFrame-asks limits who (call ∷ calls) h =
    let more = NoFrame-asks limits who calls (h ++ asked_by limits h (caller_at who) call ∷ []) in
    record { parcels = more.parcels; passers = more.passers; numbers = more.numbers }

NoFrame-all_asks : (limits : Limits) (who : ℕ) (lists : List (List Call)) (h : List Entry) → NoFrame (all_asks_of limits who lists h)
NoFrame-all_asks limits who [] h = NoFrame-nil
NoFrame-all_asks limits who (calls ∷ others) h =
    let asked = asks_of limits who calls h in
    NoFrame-append asked (all_asks_of limits (who + 1) others (h ++ asked)) (NoFrame-asks limits who calls h) (NoFrame-all_asks limits (who + 1) others (h ++ asked))

pub NoFrame-asked : (limits : Limits) (who first : ℕ) (calls : List Call) (lists : List (List Call)) (h h' : List Entry)
    → NoFrame (asks_of limits who calls h ++ all_asks_of limits first lists h')
NoFrame-asked limits who first calls lists h h' =
    NoFrame-append (asks_of limits who calls h) (all_asks_of limits first lists h') (NoFrame-asks limits who calls h) (NoFrame-all_asks limits first lists h')

-- ---- whose calls they are

cond-cons : {X : Type 0} (b : Bool) (x : X) (xs ys : List X) → ys ≡ cond b xs [] → cons_option (cond b (Some x) None) ys ≡ cond b (x ∷ xs) []
cond-cons true x xs ys e = ap (λ l. x ∷ l) e
cond-cons false x xs ys e = e

cond-nil : {X : Type 0} (b : Bool) (xs : List X) → xs ≡ [] → [] ≡ cond b xs []
cond-nil true xs e = sym e
cond-nil false xs e = refl

calls_by-asks : (limits : Limits) (who asker : ℕ) (calls : List Call) (h : List Entry) → calls_by who (asks_of limits asker calls h) ≡ cond (eqb asker who) calls []
calls_by-asks limits who asker [] h = cond-nil (eqb asker who) [] refl
calls_by-asks limits who asker (call ∷ calls) h =
    let rest = h ++ asked_by limits h (caller_at asker) call ∷ [] in
    cond-cons (eqb asker who) call calls (calls_by who (asks_of limits asker calls rest)) (calls_by-asks limits who asker calls rest)

cond-true : {X : Type 0} (b : Bool) (x y : X) → b ≡ true → cond b x y ≡ x
cond-true b x y e = ap (λ c. cond c x y) e

pub cond-false : {X : Type 0} (b : Bool) (x y : X) → b ≡ false → cond b x y ≡ y
cond-false b x y e = ap (λ c. cond c x y) e

eqb-same : (n : ℕ) → eqb n n ≡ true
eqb-same n = grind (arith, nat_tests)

pub eqb-apart : (m n : ℕ) → m < n → eqb n m ≡ false
eqb-apart m n h = grind (arith, nat_tests)

eqb-above : (m n : ℕ) → m < n → eqb m n ≡ false
eqb-above m n h = grind (arith, nat_tests)

pub calls_by-own : (limits : Limits) (who : ℕ) (calls : List Call) (h : List Entry) → calls_by who (asks_of limits who calls h) ≡ calls
calls_by-own limits who calls h = calls_by-asks limits who who calls h ∙ cond-true (eqb who who) calls [] (eqb-same who)

-- callers from a number on ask nothing in the name of one below it
pub calls_by-below : (limits : Limits) (who first : ℕ) (lists : List (List Call)) (h : List Entry) → who < first → calls_by who (all_asks_of limits first lists h) ≡ []
calls_by-below limits who first [] h below = refl
calls_by-below limits who first (calls ∷ others) h below =
    let asked = asks_of limits first calls h in
    both-nil (calls_by who) asked (all_asks_of limits (first + 1) others (h ++ asked)) (calls_by-append who asked (all_asks_of limits (first + 1) others (h ++ asked)))
    (calls_by-asks limits who first calls h ∙ cond-false (eqb first who) calls [] (eqb-apart who first below))
    (calls_by-below limits who (first + 1) others (h ++ asked) (omega arith))

-- each asks its list
pub calls_by-list : (limits : Limits) (first k : ℕ) (lists : List (List Call)) (h : List Entry) → calls_by (first + k) (all_asks_of limits first lists h) ≡ get_or lists k []
calls_by-list limits first k [] h = refl
calls_by-list limits first zero (calls ∷ others) h =
    let asked = asks_of limits first calls h in
    let rest = all_asks_of limits (first + 1) others (h ++ asked) in
    subst (λ n. calls_by n (asked ++ rest) ≡ calls) (sym (add-zero first))
    (calls_by-append first asked rest
    ∙ ap (λ l. calls_by first asked ++ l) (calls_by-below limits first (first + 1) others (h ++ asked) (omega arith))
    ∙ append-nil (calls_by first asked)
    ∙ calls_by-own limits first calls h)
calls_by-list limits first (suc k) (calls ∷ others) h =
    let who = first + suc k in
    let asked = asks_of limits first calls h in
    let rest = all_asks_of limits (first + 1) others (h ++ asked) in
    let same : (first + 1) + k ≡ who = omega arith in
    let none : calls_by who asked ≡ [] =
    calls_by-asks limits who first calls h ∙ cond-false (eqb first who) calls [] (eqb-above first who (omega arith)) in
    calls_by-append who asked rest
    ∙ ap (λ l. l ++ calls_by who rest) none
    ∙ subst (λ n. calls_by n rest ≡ get_or others k []) same (calls_by-list limits (first + 1) k others (h ++ asked))

-- another caller than the asker asks nothing
pub calls_by-other : (limits : Limits) (who asker : ℕ) (calls : List Call) (h : List Entry) → asker < who → calls_by who (asks_of limits asker calls h) ≡ []
calls_by-other limits who asker calls h above = calls_by-asks limits who asker calls h ∙ cond-false (eqb asker who) calls [] (eqb-above asker who above)

-- ---- what frames by worker 0 tell

pub calls_by-passes : (limits : Limits) (who number : ℕ) (frames : List Frame) (h : List Entry) → calls_by who (passes_of limits number frames h) ≡ []
calls_by-passes limits who number [] h = refl
calls_by-passes limits who number (frame ∷ frames) h = calls_by-passes limits who (number + 1) frames (h ++ passed_by limits h (caller_at 9) (parcel_of number frame) ∷ [])

pub parcels_of-passes : (limits : Limits) (number : ℕ) (frames : List Frame) (h : List Entry) → parcels_of (passes_of limits number frames h) ≡ parcels_from number frames
parcels_of-passes limits number [] h = refl
parcels_of-passes limits number (frame ∷ frames) h =
    ap (λ l. parcel_of number frame ∷ l) (parcels_of-passes limits (number + 1) frames (h ++ passed_by limits h (caller_at 9) (parcel_of number frame) ∷ []))

abbrev pub IsWorker0 : ℕ → Type 0
IsWorker0 who = (9 ≤ who) × (who < 9 + 1)

pub All-passers : (limits : Limits) (number : ℕ) (frames : List Frame) (h : List Entry) → All IsWorker0 (passers_of (passes_of limits number frames h))
All-passers limits number [] h = All-nil IsWorker0
All-passers limits number (frame ∷ frames) h =
    let rest = h ++ passed_by limits h (caller_at 9) (parcel_of number frame) ∷ [] in
    All-cons IsWorker0 9 (passers_of (passes_of limits (number + 1) frames rest)) (omega arith, omega arith) (All-passers limits (number + 1) frames rest)

pub numbers_by-passes : (limits : Limits) (who number : ℕ) (frames : List Frame) (h : List Entry)
    → numbers_by who (passes_of limits number frames h) ≡ cond (eqb 9 who) (range_with_len number (length frames)) []
numbers_by-passes limits who number [] h = cond-nil (eqb 9 who) [] refl
numbers_by-passes limits who number (frame ∷ frames) h =
    let rest = h ++ passed_by limits h (caller_at 9) (parcel_of number frame) ∷ [] in
    cond-cons (eqb 9 who) number (range_with_len (number + 1) (length frames)) (numbers_by who (passes_of limits (number + 1) frames rest)) (numbers_by-passes limits who (number + 1) frames rest)
