-- The list that the words of an `Outcomes` stand for.
use Rattle.std.proofs.Common.{◌≡◌, ◌≢◌, ℕ, ◌+◌, ◌/◌, ◌%◌, ◌*◌, ◌^◌, ◌<◌, ◌-◌, ◌==◌, ◌∙◌, sym, ap, Bool, true, false, List, [], ◌∷◌, ◌++◌, length, get_or, slice_get, slice_set, Some, arith, bit_or, bit_and, w64, inl, inr, get_or-set_same, get_or-set_other}
use Rattle.std.specs.Int.{bit_at}
use Rattle.std.proofs.lemmas.Bool.{cases_eq}
use Rattle.std.proofs.lemmas.Option.{slice_get_read}
use Rattle.std.proofs.lemmas.List.FromFn.{length-map-range_with_len, get_or-map-range_with_len, map-range_with_len_more, fill_by_all}
use Rattle.std.proofs.lemmas.Nat.Bits.{bit_at_set_same, bit_at_set_other, bit_at_clear_same, bit_at_clear_other, shr_and_one}
use Rattle.op_queues.specs.Outcomes.{outcome_at, outcomes}

-- the test `words[i / 64] >> (i % 64) & 1 == 1`
pub outcome_at-shr : (words : List ℕ) (i : ℕ) → (bit_and (get_or words (i / 64) 0 / 2 ^ (i % 64)) 1 == 1) ≡ outcome_at words i
unfolding outcome_at
outcome_at-shr words i = ap (λ b. b == 1) (shr_and_one (get_or words (i / 64) 0) (i % 64))

outcome_at-set_same : (words : List ℕ) (i word : ℕ) → i / 64 < length words → outcome_at (slice_set words (i / 64) word) i ≡ (bit_at word (i % 64) == 1)
unfolding outcome_at
outcome_at-set_same words i word h = ap (λ w. bit_at w (i % 64) == 1) (get_or-set_same words (i / 64) word 0 h)

-- the new word has the old one's bits, but for that of i
outcome_at-set_other : (words : List ℕ) (i k word : ℕ) → i / 64 < length words
    → ((j : ℕ) → j < 64 → j ≢ i % 64 → bit_at word j ≡ bit_at (get_or words (i / 64) 0) j)
    → k ≢ i → outcome_at (slice_set words (i / 64) word) k ≡ outcome_at words k
unfolding outcome_at
outcome_at-set_other words i k word h same ne =
    elim (cases_eq (k / 64) (i / 64)) [
      | inl e ↦
          let below : k % 64 < 64 = omega arith in
          let apart : k % 64 ≢ i % 64 = omega arith in
          ap (λ n. bit_at (get_or (slice_set words (i / 64) word) n 0) (k % 64) == 1) e
          ∙ ap (λ w. bit_at w (k % 64) == 1) (get_or-set_same words (i / 64) word 0 h)
          ∙ ap (λ b. b == 1) (same (k % 64) below apart)
          ∙ ap (λ n. bit_at (get_or words n 0) (k % 64) == 1) (sym e)
      | inr other ↦ ap (λ w. bit_at w (k % 64) == 1) (get_or-set_other words (i / 64) (k / 64) word 0 other)
    ]

-- `words[i / 64] |= 1 << (i % 64)`
abbrev with_bit : List ℕ → ℕ → ℕ
with_bit words i = bit_or (get_or words (i / 64) 0) (1 * 2 ^ (i % 64) % 2 ^ 64)

-- `words[i / 64] &= !(1 << (i % 64))`
abbrev without_bit : List ℕ → ℕ → ℕ
without_bit words i = bit_and (get_or words (i / 64) 0) (2 ^ 64 - 1 - 1 * 2 ^ (i % 64) % 2 ^ 64)

pub outcome_at-with_bit_same : (words : List ℕ) (i : ℕ) → i / 64 < length words → outcome_at (slice_set words (i / 64) (with_bit words i)) i ≡ true
outcome_at-with_bit_same words i h =
    outcome_at-set_same words i (with_bit words i) h
    ∙ ap (λ b. b == 1) (bit_at_set_same w64 (get_or words (i / 64) 0) (i % 64) (omega arith))

pub outcome_at-with_bit_other : (words : List ℕ) (i : ℕ) → i / 64 < length words → (k : ℕ) → k ≢ i → outcome_at (slice_set words (i / 64) (with_bit words i)) k ≡ outcome_at words k
outcome_at-with_bit_other words i h k ne =
    outcome_at-set_other words i k (with_bit words i) h
    (λ j below apart. bit_at_set_other w64 (get_or words (i / 64) 0) (i % 64) (omega arith) j apart) ne

pub outcome_at-without_bit_same : (words : List ℕ) (i : ℕ) → i / 64 < length words → outcome_at (slice_set words (i / 64) (without_bit words i)) i ≡ false
outcome_at-without_bit_same words i h =
    outcome_at-set_same words i (without_bit words i) h
    ∙ ap (λ b. b == 1) (bit_at_clear_same w64 (get_or words (i / 64) 0) (i % 64) (omega arith))

pub outcome_at-without_bit_other : (words : List ℕ) (i : ℕ) → i / 64 < length words → (k : ℕ) → k ≢ i → outcome_at (slice_set words (i / 64) (without_bit words i)) k ≡ outcome_at words k
outcome_at-without_bit_other words i h k ne =
    outcome_at-set_other words i k (without_bit words i) h
    (λ j below apart. bit_at_clear_other w64 (get_or words (i / 64) 0) (i % 64) (omega arith) j below apart) ne

length-outcomes : (words : List ℕ) (len : ℕ) → length (outcomes words len) ≡ len
length-outcomes words len = length-map-range_with_len (outcome_at words) 0 len

get_or-outcomes : (words : List ℕ) (len i : ℕ) (d : Bool) → i < len → get_or (outcomes words len) i d ≡ outcome_at words i
get_or-outcomes words len i d h = get_or-map-range_with_len (outcome_at words) 0 len i i d h (omega arith)

-- the same, for a list that the words stand for
pub length-viewed : (words : List ℕ) (len : ℕ) (xs : List Bool) → outcomes words len ≡ xs → length xs ≡ len
length-viewed words len xs view = ap length (sym view) ∙ length-outcomes words len

pub slice_get-viewed : (words : List ℕ) (len : ℕ) (xs : List Bool) → outcomes words len ≡ xs → (i : ℕ) → i < len → slice_get xs i ≡ Some (outcome_at words i)
slice_get-viewed words len xs view i h =
    slice_get_read xs len i (outcome_at words i) (sym (length-viewed words len xs view)) h
    (sym (get_or-outcomes words len i (outcome_at words i) h) ∙ ap (λ ys. get_or ys i (outcome_at words i)) view)

outcomes-same : (old new : List ℕ) (len : ℕ) → ((k : ℕ) → k < len → outcome_at old k ≡ outcome_at new k) → outcomes old len ≡ outcomes new len
outcomes-same old new len h =
    fill_by_all (outcome_at new) (outcomes old len) len false (length-outcomes old len)
    (λ k below. get_or-outcomes old len k false below ∙ h k below)

-- to write the bit at the end is to append to the list
pub outcomes-more : (old new : List ℕ) (len : ℕ) (ok : Bool) → outcome_at new len ≡ ok → ((k : ℕ) → k ≢ len → outcome_at new k ≡ outcome_at old k)
    → outcomes new (len + 1) ≡ outcomes old len ++ ok ∷ []
outcomes-more old new len ok written others =
    map-range_with_len_more (outcome_at new) 0 len len (omega arith)
    ∙ ap (λ b. outcomes new len ++ b ∷ []) written
    ∙ ap (λ xs. xs ++ ok ∷ []) (outcomes-same new old len (λ k below. let ne : k ≢ len = omega arith in others k ne))
