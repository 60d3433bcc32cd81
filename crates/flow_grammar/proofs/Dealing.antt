-- Calls dealt to their owners, one after another.
use Rattle.std.proofs.Common.{◌≡◌, ℕ, suc, zero, ◌+◌, ◌<◌, ◌≤◌, ◌==◌, Bool, true, false, cond, List, [], ◌∷◌, ◌++◌, length, get_or, sum_by, refl, sym, ◌∙◌, arith, append-nil, Option, Some, None, lit≤}
use Rattle.std.proofs.lemmas.List.FromFn.{fill_by_all}
use Rattle.std.proofs.lemmas.Bool.Decides.{nat_tests}
use Rattle.flow_calls.specs.declared.call.Call.{Call}
use Rattle.flow_grammar.specs.Owners.{queue_of, owner_by, owner_of, owned_by, agent_calls}

-- what was dealt, with what is each owner's of the calls that are left, is what is his of all calls
pub record Deals (shell : List Call) (agents : List (List Call)) (rest all : List Call) : Type 0 where
  pub eight : length agents ≡ 8
  pub shells : shell ++ owned_by 0 rest ≡ owned_by 0 all
  pub queues : (q : ℕ) → q < 8 → get_or agents q [] ++ owned_by (1 + q) rest ≡ owned_by (1 + q) all

-- all calls were dealt
pub Deals-agents : (shell : List Call) (agents : List (List Call)) (all : List Call) → Deals shell agents [] all → agents ≡ agent_calls all
unfolding agent_calls
Deals-agents shell agents all deals =
    fill_by_all (λ q. owned_by (1 + q) all) agents 8 [] deals.eight (λ q small. sym (append-nil (get_or agents q [])) ∙ deals.queues q small)

-- each call is dealt once
abbrev bit : Bool → ℕ
bit b = cond b 1 0

length-owned : (b : Bool) (call : Call) (rest : List Call) → length (cond b (call ∷ rest) rest) ≡ bit b + length rest
length-owned true call rest = omega arith
length-owned false call rest = omega arith

once : (n : ℕ) → n ≤ 8 → bit (n == 0) + bit (n == 1) + bit (n == 2) + bit (n == 3) + bit (n == 4) + bit (n == 5) + bit (n == 6) + bit (n == 7) + bit (n == 8) ≡ 1
once zero small = refl
once (suc zero) small = refl
once (suc (suc zero)) small = refl
once (suc (suc (suc zero))) small = refl
once (suc (suc (suc (suc zero)))) small = refl
once (suc (suc (suc (suc (suc zero))))) small = refl
once (suc (suc (suc (suc (suc (suc zero)))))) small = refl
once (suc (suc (suc (suc (suc (suc (suc zero))))))) small = refl
once (suc (suc (suc (suc (suc (suc (suc (suc zero)))))))) small = refl
once (suc (suc (suc (suc (suc (suc (suc (suc (suc n))))))))) small = absurd (omega (arith, small))

owner-within : (call : Call) → owner_of call.op ≤ 8
unfolding owner_of
owner-within call = by (queue_of call.op)
  where
    by : (queue : Option ℕ) → owner_by queue ≤ 8
    by None = lit≤ tt
    by (Some queue) = grind (arith, nat_tests)

abbrev owned : ℕ → List Call → ℕ
owned who calls = length (owned_by who calls)

owned-more : (who : ℕ) (call : Call) (calls : List Call) → owned who (call ∷ calls) ≡ bit (owner_of call.op == who) + owned who calls
owned-more who call calls = length-owned (owner_of call.op == who) call (owned_by who calls)

each-once : (calls : List Call) → owned 0 calls + owned 1 calls + owned 2 calls + owned 3 calls + owned 4 calls + owned 5 calls + owned 6 calls + owned 7 calls + owned 8 calls ≡ length calls
each-once [] = refl
each-once (call ∷ calls) =
    omega (
      arith,
      once (owner_of call.op) (owner-within call),
      each-once calls,
      owned-more 0 call calls,
      owned-more 1 call calls,
      owned-more 2 call calls,
      owned-more 3 call calls,
      owned-more 4 call calls,
      owned-more 5 call calls,
      owned-more 6 call calls,
      owned-more 7 call calls,
      owned-more 8 call calls,
    )

pub length-dealt : (calls : List Call) → length (owned_by 0 calls) + sum_by length (agent_calls calls) ≡ length calls
unfolding agent_calls
length-dealt calls = omega (arith, each-once calls)
