-- The queue that a hash chooses, among those listed or among all.
use Rattle.std.proofs.Common.{◌≡◌, ℕ, ◌%◌, ◌<◌, ◌==◌, true, false, List, [], ◌∷◌, length, slice_index, refl, ap, sym, ◌∙◌, zero-add, arith, ◌≤◌, subst, mod-lt}
use Rattle.std.specs.List.{range_with_len, All}
use Rattle.std.proofs.lemmas.List.FromFn.{get_or-range_with_len, length-range_with_len}
use Rattle.std.proofs.lemmas.Bool.{eqb-true}
use Rattle.flow_actions.specs.Spread.{queues_of, chosen}

pub chosen-listed : (queues : List ℕ) (rxq hash : ℕ) → false ≡ (length queues == 0)
    → slice_index queues (hash % length queues) ≡ chosen (queues_of queues rxq) hash
unfolding chosen
chosen-listed [] rxq hash some = cc
chosen-listed (queue ∷ queues) rxq hash some = refl

pub chosen-none : (queues : List ℕ) (rxq hash : ℕ) → true ≡ (length queues == 0) → rxq ≡ 0 → 0 ≡ chosen (queues_of queues rxq) hash
unfolding chosen
chosen-none [] rxq hash none zero = ap (λ n. slice_index (range_with_len 0 n) (hash % length (range_with_len 0 n))) (sym zero)
chosen-none (queue ∷ queues) rxq hash none zero = absurd (omega (arith, eqb-true (length (queue ∷ queues)) 0 (sym none)))

pub chosen-all : (queues : List ℕ) (rxq hash : ℕ) → true ≡ (length queues == 0) → hash % rxq < rxq → hash % rxq ≡ chosen (queues_of queues rxq) hash
unfolding chosen
chosen-all [] rxq hash none below =
    sym (get_or-range_with_len 0 rxq (hash % rxq) 0 below ∙ zero-add (hash % rxq))
    ∙ ap (λ n. slice_index (range_with_len 0 rxq) (hash % n)) (sym (length-range_with_len 0 rxq))
chosen-all (queue ∷ queues) rxq hash none below = absurd (omega (arith, eqb-true (length (queue ∷ queues)) 0 (sym none)))

-- the queue is one of the port's, where those listed are
pub chosen-below : (queues : List ℕ) (rxq hash : ℕ) → 1 ≤ rxq → All (λ queue. queue < rxq) queues → chosen (queues_of queues rxq) hash < rxq
unfolding chosen
chosen-below [] rxq hash one all =
    let at : hash % rxq < rxq = mod-lt hash one in
    subst (λ n. n < rxq) (sym (ap (λ n. slice_index (range_with_len 0 rxq) (hash % n)) (length-range_with_len 0 rxq)
    ∙ (get_or-range_with_len 0 rxq (hash % rxq) 0 at ∙ zero-add (hash % rxq)))) at
chosen-below (queue ∷ queues) rxq hash one all = all (hash % length (queue ∷ queues)) 0 (mod-lt hash (omega arith))
