-- The callers of a phase: they differ, and all who have something to do are among them.
use Rattle.std.proofs.Common.{◌≡◌, ◌≢◌, ℕ, zero, suc, ◌+◌, ◌-◌, ◌<◌, ◌≤◌, cond, List, [], ◌∷◌, ◌++◌, map, length, get_or, All, Contains, take, add-zero, add-one, append_assoc, append-nil, sym, refl, ap, ◌∙◌, subst, ⊎_elim, ne_eqb, arith}
use Rattle.std.proofs.lemmas.Bool.Decides.{eqb_tells}
use Rattle.std.proofs.lemmas.List.{length-take-le, map-append, take_more}
use Rattle.std.proofs.lemmas.List.Elements.{All-append, All-cons, All-nil, All-weaker, Contains-append_left, Contains-append_right}
use Rattle.std.proofs.lemmas.List.Kept.{AllPairs-cons}
use Rattle.flow_calls.specs.declared.call.Call.{Call}
use Rattle.flow_calls.specs.declared.caller.Caller.{Caller}
use Rattle.flow_port.specs.Ports.{AreDifferent}
use Rattle.running_phase.specs.Roster.{IsTaker, agents_from, caller_at, roster, with_calls, workers_from}
use Rattle.running_phase.specs.Shares.{calls_in}

abbrev number_of : Caller → ℕ
number_of c = c.0

-- the callers have numbers from a up to b
abbrev LieIn : ℕ → ℕ → List Caller → Type 0
LieIn a b cs = All (λ (c : Caller). (a ≤ c.0) × (c.0 < b)) cs

lie_wider : (a b low high : ℕ) (cs : List Caller) → low ≤ a → b ≤ high → LieIn a b cs → LieIn low high cs
lie_wider a b low high cs least most all = All-weaker (λ (c : Caller). (a ≤ c.0) × (c.0 < b)) (λ (c : Caller). (low ≤ c.0) × (c.0 < high))
    (λ c w. let from = w.0 in let to = w.1 in (omega arith, omega arith)) cs all

-- ---- one more of a list

pub workers_from-more : (a n : ℕ) → workers_from a (n + 1) ≡ workers_from a n ++ caller_at (a + n) ∷ []
workers_from-more a n = ap (workers_from a) (add-one n) ∙ one_more a n
  where
    one_more : (a n : ℕ) → workers_from a (suc n) ≡ workers_from a n ++ caller_at (a + n) ∷ []
    one_more a zero = ap (λ k. caller_at k ∷ []) (sym (add-zero a))
    one_more a (suc n) =
        let same : (a + 1) + n ≡ a + suc n = omega arith in
        ap (λ l. caller_at a ∷ l) (one_more (a + 1) n ∙ ap (λ k. workers_from (a + 1) n ++ caller_at k ∷ []) same)

pub agents_from-append : (a : ℕ) (xs ys : List (List Call)) → agents_from a (xs ++ ys) ≡ agents_from a xs ++ agents_from (a + length xs) ys
agents_from-append a [] ys = ap (λ k. agents_from k ys) (sym (add-zero a))
agents_from-append a (calls ∷ xs) ys =
    let same : (a + 1) + length xs ≡ a + length (calls ∷ xs) = omega arith in
    ap (λ l. with_calls a calls ++ l) (agents_from-append (a + 1) xs ys ∙ ap (λ k. agents_from (a + 1) xs ++ agents_from k ys) same)
    ∙ sym (append_assoc (with_calls a calls) (agents_from (a + 1) xs) (agents_from (a + length (calls ∷ xs)) ys))

pub agents_from-more : (a i : ℕ) (agents : List (List Call)) (calls : List Call) → i < length agents → calls ≡ get_or agents i calls
    → agents_from a (take (i + 1) agents) ≡ agents_from a (take i agents) ++ with_calls (a + i) calls
agents_from-more a i agents calls lt is =
    let short : length (take i agents) ≡ i = length-take-le i agents (omega arith) in
    ap (agents_from a) (take_more agents i calls lt ∙ ap (λ c. take i agents ++ c ∷ []) (sym is))
    ∙ agents_from-append a (take i agents) (calls ∷ [])
    ∙ ap (λ k. agents_from a (take i agents) ++ (with_calls (a + k) calls ++ [])) short
    ∙ ap (λ l. agents_from a (take i agents) ++ l) (append-nil (with_calls (a + i) calls))

pub with_no_calls : (number : ℕ) (calls : List Call) → length calls ≡ 0 → with_calls number calls ≡ []
with_no_calls number [] e = refl
with_no_calls number (call ∷ calls) e = absurd (omega arith)

pub with_some_calls : (number : ℕ) (calls : List Call) → (length calls ≡ 0 → ⊥) → with_calls number calls ≡ caller_at number ∷ []
with_some_calls number [] ne = absurd (ne refl)
with_some_calls number (call ∷ calls) ne = refl

pub length-workers_from : (a n : ℕ) → length (workers_from a n) ≡ n
length-workers_from a zero = refl
length-workers_from a (suc n) = ap suc (length-workers_from (a + 1) n)

-- ---- where their numbers lie

with_calls-lie : (a : ℕ) (calls : List Call) → LieIn a (a + 1) (with_calls a calls)
with_calls-lie a [] = All-nil (λ (c : Caller). (a ≤ c.0) × (c.0 < a + 1))
with_calls-lie a (call ∷ calls) = All-cons (λ (c : Caller). (a ≤ c.0) × (c.0 < a + 1)) (caller_at a) [] (omega arith, omega arith) (All-nil (λ (c : Caller). (a ≤ c.0) × (c.0 < a + 1)))

agents-lie : (a : ℕ) (agents : List (List Call)) → LieIn a (a + length agents) (agents_from a agents)
agents-lie a [] = All-nil (λ (c : Caller). (a ≤ c.0) × (c.0 < a + 0))
agents-lie a (calls ∷ agents) =
    All-append (λ (c : Caller). (a ≤ c.0) × (c.0 < a + length (calls ∷ agents))) (with_calls a calls) (agents_from (a + 1) agents)
    (lie_wider a (a + 1) a (a + length (calls ∷ agents)) (with_calls a calls) (omega arith) (omega arith) (with_calls-lie a calls))
    (lie_wider (a + 1) ((a + 1) + length agents) a (a + length (calls ∷ agents)) (agents_from (a + 1) agents) (omega arith) (omega arith) (agents-lie (a + 1) agents))

workers-lie : (a n : ℕ) → LieIn a (a + n) (workers_from a n)
workers-lie a zero = All-nil (λ (c : Caller). (a ≤ c.0) × (c.0 < a + 0))
workers-lie a (suc n) = All-cons (λ (c : Caller). (a ≤ c.0) × (c.0 < a + suc n)) (caller_at a) (workers_from (a + 1) n) (omega arith, omega arith)
    (lie_wider (a + 1) ((a + 1) + n) a (a + suc n) (workers_from (a + 1) n) (omega arith) (omega arith) (workers-lie (a + 1) n))

-- the shell and the agents are below the workers
pub askers-lie : (agents : List (List Call)) → length agents ≡ 8 → All (λ (c : Caller). c.0 ≤ 8) (caller_at 0 ∷ agents_from 1 agents)
askers-lie agents eight = All-cons (λ (c : Caller). c.0 ≤ 8) (caller_at 0) (agents_from 1 agents) (omega arith)
    (All-weaker (λ (c : Caller). (1 ≤ c.0) × (c.0 < 1 + length agents)) (λ (c : Caller). c.0 ≤ 8) (λ c w. let high = w.1 in omega arith) (agents_from 1 agents) (agents-lie 1 agents))

pub roster-known : (agents : List (List Call)) (workers : ℕ) → length agents ≡ 8 → workers ≤ 16 → All (λ (c : Caller). c.0 ≤ 24) (roster agents workers)
roster-known agents workers eight few =
    All-append (λ (c : Caller). c.0 ≤ 24) (caller_at 0 ∷ agents_from 1 agents) (workers_from 9 workers)
    (All-weaker (λ (c : Caller). c.0 ≤ 8) (λ (c : Caller). c.0 ≤ 24) (λ c low. omega arith) (caller_at 0 ∷ agents_from 1 agents) (askers-lie agents eight))
    (All-weaker (λ (c : Caller). (9 ≤ c.0) × (c.0 < 9 + workers)) (λ (c : Caller). c.0 ≤ 24) (λ c w. let high = w.1 in omega arith) (workers_from 9 workers) (workers-lie 9 workers))

-- ---- they differ

differ-cons : (a b : ℕ) (cs : List Caller) → LieIn (a + 1) b cs → AreDifferent cs → AreDifferent (caller_at a ∷ cs)
differ-cons a b cs above differ = AllPairs-cons (λ (c d : Caller). c.0 ≢ d.0) (caller_at a) cs
    (All-weaker (λ (c : Caller). (a + 1 ≤ c.0) × (c.0 < b)) (λ (c : Caller). a ≢ c.0) (λ c w e. let low = w.0 in absurd (omega arith)) cs above) differ

workers-differ : (a n : ℕ) → AreDifferent (workers_from a n)
workers-differ a zero = λ i j d lt below. absurd (omega arith)
workers-differ a (suc n) = differ-cons a ((a + 1) + n) (workers_from (a + 1) n) (workers-lie (a + 1) n) (workers-differ (a + 1) n)

callers-differ : (a : ℕ) (agents : List (List Call)) (b n : ℕ) → a + length agents ≤ b → AreDifferent (agents_from a agents ++ workers_from b n)
callers-differ a [] b n le = workers-differ b n
callers-differ a (calls ∷ agents) b n le = by calls (callers-differ (a + 1) agents b n (omega arith))
  where
    rest : List Caller
    rest = agents_from (a + 1) agents ++ workers_from b n

    above : LieIn (a + 1) (b + n) rest
    above = All-append (λ (c : Caller). (a + 1 ≤ c.0) × (c.0 < b + n)) (agents_from (a + 1) agents) (workers_from b n)
        (lie_wider (a + 1) ((a + 1) + length agents) (a + 1) (b + n) (agents_from (a + 1) agents) (omega arith) (omega arith) (agents-lie (a + 1) agents))
        (lie_wider b (b + n) (a + 1) (b + n) (workers_from b n) (omega arith) (omega arith) (workers-lie b n))

    by : (calls : List Call) → AreDifferent rest → AreDifferent ((with_calls a calls ++ agents_from (a + 1) agents) ++ workers_from b n)
    by [] differ = differ
    by (call ∷ calls) differ = differ-cons a (b + n) rest above differ

pub roster-differ : (agents : List (List Call)) (workers : ℕ) → length agents ≡ 8 → AreDifferent (roster agents workers)
roster-differ agents workers eight =
    differ-cons 0 (9 + workers) (agents_from 1 agents ++ workers_from 9 workers)
    (All-append (λ (c : Caller). (0 + 1 ≤ c.0) × (c.0 < 9 + workers)) (agents_from 1 agents) (workers_from 9 workers)
    (lie_wider 1 (1 + length agents) (0 + 1) (9 + workers) (agents_from 1 agents) (omega arith) (omega arith) (agents-lie 1 agents))
    (lie_wider 9 (9 + workers) (0 + 1) (9 + workers) (workers_from 9 workers) (omega arith) (omega arith) (workers-lie 9 workers)))
    (callers-differ 1 agents 9 workers (omega arith))

-- ---- who is not among them has nothing to do

abbrev Holds : List Caller → ℕ → Type 0
Holds cs who = Contains (map number_of cs) who

holds_left : (cs ds : List Caller) (who : ℕ) → Holds cs who → Holds (cs ++ ds) who
holds_left cs ds who h = subst (λ l. Contains l who) (sym (map-append number_of cs ds)) (Contains-append_left (map number_of cs) (map number_of ds) who h)

holds_right : (cs ds : List Caller) (who : ℕ) → Holds ds who → Holds (cs ++ ds) who
holds_right cs ds who h = subst (λ l. Contains l who) (sym (map-append number_of cs ds)) (Contains-append_right (map number_of cs) (map number_of ds) who h)

workers-hold : (a n who : ℕ) → a ≤ who → who < a + n → Holds (workers_from a n) who
workers-hold a zero who low high = absurd (omega arith)
workers-hold a (suc n) who low high = ⊎_elim
    (λ here. (0, omega arith, here.1))
    (λ there. let ne = there.1 in let r = workers-hold (a + 1) n who (omega arith) (omega arith) in let lt = r.1 in (suc r.0, omega arith, r.2))
    (eqb_tells a who)

idle : (a k : ℕ) (agents : List (List Call)) → (Holds (agents_from a agents) (a + k) → ⊥) → get_or agents k [] ≡ []
idle a k [] out = refl
idle a zero (calls ∷ agents) out = by calls (λ h. out (holds_left (with_calls a calls) (agents_from (a + 1) agents) (a + 0) h))
  where
    by : (calls : List Call) → (Holds (with_calls a calls) (a + 0) → ⊥) → calls ≡ []
    by [] none = refl
    by (call ∷ calls) none = absurd (none (0, omega arith, sym (add-zero a)))
idle a (suc k) (calls ∷ agents) out =
    let same : (a + 1) + k ≡ a + suc k = omega arith in
    idle (a + 1) k agents (λ h. out (subst (Holds (agents_from a (calls ∷ agents))) same (holds_right (with_calls a calls) (agents_from (a + 1) agents) ((a + 1) + k) h)))

pub no_calls_outside : (shell : List Call) (agents : List (List Call)) (workers who : ℕ) → (Contains (map (λ (c : Caller). c.0) (roster agents workers)) who → ⊥) → calls_in shell agents who ≡ []
no_calls_outside shell agents workers who out = ⊎_elim
    (λ shells. absurd (out (0, omega arith, sym shells.1)))
    (λ else.
    let ne = else.1 in
    let same : 1 + (who - 1) ≡ who = omega arith in
    ap (λ b. cond b shell (get_or agents (who - 1) [])) (ne_eqb who 0 ne)
    ∙ idle 1 (who - 1) agents (λ h. out (holds_right (caller_at 0 ∷ []) (agents_from 1 agents ++ workers_from 9 workers) who
    (holds_left (agents_from 1 agents) (workers_from 9 workers) who (subst (Holds (agents_from 1 agents)) same h)))))
    (eqb_tells who 0)

pub roster-has_takers : (agents : List (List Call)) (workers who : ℕ) → IsTaker workers who → Contains (map (λ (c : Caller). c.0) (roster agents workers)) who
roster-has_takers agents workers who taker = holds_right (caller_at 0 ∷ agents_from 1 agents) (workers_from 9 workers) who (workers-hold 9 workers who taker.0 taker.1)
