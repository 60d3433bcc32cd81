-- Seats of a phase are taken from the end: first the workers', then those of the agents and the shell.
use Rattle.std.proofs.Common.{◌≡◌, ℕ, suc, ◌+◌, true, cond, List, [], ◌∷◌, ◌++◌, map, length, get_or, take, drop, All, append_assoc, append-nil, sym, refl, ap, ◌∙◌, subst, arith}
use Rattle.std.specs.List.{count_by, sum_by}
use Rattle.std.proofs.lemmas.List.{drop_all, get_or-map, length-append, length-map, map-append, take_all}
use Rattle.std.proofs.lemmas.List.Elements.{All-head, All-tail}
use Rattle.std.proofs.lemmas.List.Sums.{sum_by-append, sum_by-cons}
use Rattle.flow_calls.specs.declared.caller.Caller.{Caller}
use Rattle.flow_port.specs.declared.seat.PortSeat.{PortSeat}
use Rattle.flow_port.specs.Ports.{whose}
use Rattle.running_phase.specs.declared.actors.Actor.{Actor}
use Rattle.running_phase.specs.declared.actors.Role.{Role}
use Rattle.running_phase.specs.declared.actors.Role.TheVariants as roles
use Rattle.running_phase.specs.Actors.{AreOfKind, is_passer, is_worker, replica_of}
use Rattle.running_phase.specs.Roster.{caller_at, workers_from}
use Rattle.running_phase.proofs.Rosters.{workers_from-more}

last_same : {X : Type 0} (xs ys : List X) (x y : X) → xs ++ x ∷ [] ≡ ys ++ y ∷ [] → (xs ≡ ys) × (x ≡ y)
last_same [] [] x y e = (refl, ap (λ l. get_or l 0 x) e)
last_same [] (b ∷ ys) x y e = let n = ap length e in let m = length-append ys (y ∷ []) in absurd (omega arith)
last_same (a ∷ xs) [] x y e = let n = ap length e in let m = length-append xs (x ∷ []) in absurd (omega arith)
last_same (a ∷ xs) (b ∷ ys) x y e =
    let rest = last_same xs ys x y (ap (drop 1) e) in
    let first : a ≡ b = ap (λ l. get_or l 0 a) e in
    (ap (λ c. c ∷ xs) first ∙ ap (λ l. b ∷ l) rest.0, rest.1)

-- the last of the workers, and the callers before it
pub last_worker : (before after : List PortSeat) (s : PortSeat) (askers : List Caller) (n m : ℕ) → before ≡ after ++ s ∷ [] → m ≡ n + 1
    → map whose before ≡ askers ++ workers_from 9 m → (map whose after ≡ askers ++ workers_from 9 n) × (whose s ≡ caller_at (9 + n))
last_worker before after s askers n m popped more are =
    last_same (map whose after) (askers ++ workers_from 9 n) (whose s) (caller_at (9 + n))
    (sym (map-append whose after (s ∷ [])) ∙ ap (map whose) (sym popped) ∙ are ∙ ap (λ k. askers ++ workers_from 9 k) more
    ∙ ap (λ l. askers ++ l) (workers_from-more 9 n) ∙ sym (append_assoc askers (workers_from 9 n) (caller_at (9 + n) ∷ [])))

-- there is one
pub worker_left : (before : List PortSeat) (askers : List Caller) (n m : ℕ) → before ≡ [] → m ≡ n + 1 → map whose before ≡ askers ++ workers_from 9 m → ⊥
worker_left before askers n m none more are =
    let few : 0 ≡ length (askers ++ workers_from 9 m) = ap (λ l. length (map whose l)) (sym none) ∙ ap length are in
    let sum = length-append askers (workers_from 9 m) in
    let last : length (workers_from 9 m) ≡ length (workers_from 9 n ++ caller_at (9 + n) ∷ []) = ap (λ k. length (workers_from 9 k)) more ∙ ap length (workers_from-more 9 n) in
    let one = length-append (workers_from 9 n) (caller_at (9 + n) ∷ []) in
    absurd (omega arith)

-- what holds of the callers, holds of those whose seats they are
pub All-whose : (P : Caller → Type 0) (seats : List PortSeat) (callers : List Caller) → map whose seats ≡ callers → All P callers → All (λ s. P (whose s)) seats
All-whose P seats callers same all k d lt =
    subst P (get_or-map whose seats k d (whose d) lt) (subst (All P) (sym same) all k (whose d) (let e = length-map seats whose in omega arith))

-- ---- how many workers there are

workers-cons : (a : Actor) (actors : List Actor) → count_by is_worker (a ∷ actors) ≡ cond (is_worker a) 1 0 + count_by is_worker actors
workers-cons a actors = sum_by-cons (λ a. cond (is_worker a) 1 0) a actors

pub all_workers : (actors : List Actor) → All (λ a. is_worker a ≡ true) actors → count_by is_worker actors ≡ length actors
all_workers [] all = refl
all_workers (a ∷ actors) all =
    let here = All-head (λ a. is_worker a ≡ true) a actors all in
    let rest = all_workers actors (All-tail (λ a. is_worker a ≡ true) a actors all) in
    let one : ◌≡◌ {A = ℕ} (cond (is_worker a) 1 0) 1 = ap {B = ℕ} (λ b. cond b 1 0) here in
    omega (arith, workers-cons a actors, one, rest)

pub workers_pushed : (actors : List Actor) (a : Actor) → count_by is_worker (actors ++ a ∷ []) ≡ count_by is_worker actors + cond (is_worker a) 1 0
workers_pushed actors a =
    let last = workers-cons a [] in
    omega (arith, sum_by-append (λ a. cond (is_worker a) 1 0) actors (a ∷ []), last)

pub same_workers : (old new : List Actor) → map is_worker new ≡ map is_worker old → count_by is_worker new ≡ count_by is_worker old
same_workers old new e = sym (mapped new) ∙ ap (sum_by (λ b. cond b 1 0)) e ∙ mapped old
  where
    mapped : (actors : List Actor) → sum_by (λ b. cond b 1 0) (map is_worker actors) ≡ count_by is_worker actors
    mapped [] = refl
    mapped (a ∷ actors) = sum_by-cons (λ b. cond b 1 0) (is_worker a) (map is_worker actors) ∙ ap (λ n. cond (is_worker a) 1 0 + n) (mapped actors) ∙ sym (workers-cons a actors)

pub same_kinds : (old new : List Actor) → length new ≡ length old → AreOfKind old new → count_by is_worker new ≡ count_by is_worker old
same_kinds old new long same = same_workers old new (kinds old new long same)
  where
    kinds : (old new : List Actor) → length new ≡ length old → AreOfKind old new → map is_worker new ≡ map is_worker old
    kinds [] [] long same = refl
    kinds [] (b ∷ new) long same = absurd (omega arith)
    kinds (a ∷ old) [] long same = absurd (omega arith)
    kinds (a ∷ old) (b ∷ new) long same =
        ap (λ k. k ∷ map is_worker new) (same 0 a (omega arith)) ∙ ap (λ l. is_worker a ∷ l) (kinds old new (omega arith) (λ i d lt. same (suc i) d (omega arith)))

-- a worker has one replica
pub one_replica : (role : Role) → length (replica_of role) ≡ cond (is_passer role) 1 0
one_replica roles.Asker = refl
one_replica (roles.Passer w) = refl

-- a list that is lent as a slice comes back as it was left
pub written_back : {X : Type 0} (n : ℕ) (left old : List X) → length left ≡ length old → length left ≡ n → take n (left ++ drop (length left) old) ≡ left
written_back n left old same at = ap (take n) (ap (λ l. left ++ l) (drop_all (length left) old (omega arith)) ∙ append-nil left) ∙ take_all n left (omega arith)
