-- A form is woven part by part.
use Rattle.std.proofs.Common.{◌≡◌, ◌≢◌, ℕ, zero, suc, ◌<◌, ◌+◌, ◌-◌, ◌==◌, true, false, cond, List, [], ◌∷◌, ◌++◌, map, length, get_or, take, drop, decimal, refl, sym, ap, ◌∙◌, arith, append_assoc, ne_eqb, eqb-true, add-one}
use Rattle.std.specs.List.{concat}
use Rattle.std.proofs.Math.Seq.{drop-nil}
use Rattle.std.proofs.lemmas.List.{take_rest}
use Rattle.history_text.specs.Forms.{Piece, Hole, Byte, piece_of, form, weave, filled, holes}

pub form-append : (a b : List ℕ) → form (a ++ b) ≡ form a ++ form b
form-append [] b = refl
form-append (c ∷ a) b = ap (λ ps. piece_of c ∷ ps) (form-append a b)

-- the numbers behind those of a form go to what stands behind it
pub weave-append : (ps qs : List Piece) (ns : List ℕ) → weave (ps ++ qs) ns ≡ weave ps ns ++ weave qs (drop (holes ps) ns)
weave-append [] qs ns = refl
weave-append (Byte b ∷ ps) qs ns = ap (λ t. b ∷ t) (weave-append ps qs ns)
weave-append (Hole ∷ ps) qs [] = ap (λ t. 48 ∷ t) (weave-append ps qs [] ∙ ap (λ ms. weave ps [] ++ weave qs ms) (drop-nil (holes ps)))
weave-append (Hole ∷ ps) qs (n ∷ ns) =
    ap (λ t. decimal n ++ t) (weave-append ps qs ns) ∙ sym (append_assoc (decimal n) (weave ps ns) (weave qs (drop (holes ps) ns)))

-- two parts of a text
pub filled-parts : (a b ns : List ℕ) → filled a ns ++ filled b (drop (holes (form a)) ns) ≡ filled (a ++ b) ns
filled-parts a b ns = sym (ap (λ ps. weave ps ns) (form-append a b) ∙ weave-append (form a) (form b) ns)

-- a text without holes stands as it is
pub filled-plain : (a ns : List ℕ) → holes (form a) ≡ 0 → a ≡ filled a ns
filled-plain [] ns none = refl
filled-plain (b ∷ a) ns none =
    elim (b == 48) as (λ t. holes (cond t Hole (Byte b) ∷ form a) ≡ 0 → b ∷ a ≡ weave (cond t Hole (Byte b) ∷ form a) ns) [
      | true ↦ λ e. absurd (omega (arith, e))
      | false ↦ λ e. ap (λ t. b ∷ t) (filled-plain a ns e)
    ] none

-- what stands in front of the first hole stands as it is
pub filled-front : (a ns : List ℕ) (i : ℕ) → i < length a → get_or a i 0 ≡ 48 → holes (form (take i a)) ≡ 0
    → take i a ++ weave (Hole ∷ form (drop (suc i) a)) ns ≡ filled a ns
filled-front [] ns i within is none = absurd (omega (arith, within))
filled-front (b ∷ a) ns zero within is none = ap (λ c. weave (piece_of c ∷ form a) ns) (sym is)
filled-front (b ∷ a) ns (suc i) within is none =
    elim (b == 48) as (λ t. holes (cond t Hole (Byte b) ∷ form (take i a)) ≡ 0
    → b ∷ (take i a ++ weave (Hole ∷ form (drop (suc i) a)) ns) ≡ weave (cond t Hole (Byte b) ∷ form a) ns) [
      | true ↦ λ e. absurd (omega (arith, e))
      | false ↦ λ e. ap (λ t. b ∷ t) (filled-front a ns i (omega (arith, within)) is e)
    ] none

-- and so many numbers are left behind it
pub holes-front : (a : List ℕ) (i : ℕ) → i < length a → get_or a i 0 ≡ 48 → holes (form (take i a)) ≡ 0
    → holes (form a) ≡ suc (holes (form (drop (suc i) a)))
holes-front [] i within is none = absurd (omega (arith, within))
holes-front (b ∷ a) zero within is none = ap (λ c. holes (piece_of c ∷ form a)) is
holes-front (b ∷ a) (suc i) within is none =
    elim (b == 48) as (λ t. holes (cond t Hole (Byte b) ∷ form (take i a)) ≡ 0
    → holes (cond t Hole (Byte b) ∷ form a) ≡ suc (holes (form (drop (suc i) a)))) [
      | true ↦ λ e. absurd (omega (arith, e))
      | false ↦ λ e. holes-front a i (omega (arith, within)) is e
    ] none

-- one more byte without a hole
pub holes-next : (a : List ℕ) (i d : ℕ) → i < length a → get_or a i d ≢ 48 → holes (form (take i a)) ≡ 0 → holes (form (take (suc i) a)) ≡ 0
holes-next [] i d within other none = absurd (omega (arith, within))
holes-next (b ∷ a) zero d within other none = ap (λ t. holes (cond t Hole (Byte b) ∷ [])) (ne_eqb b 48 other)
holes-next (b ∷ a) (suc i) d within other none =
    elim (b == 48) as (λ t. holes (cond t Hole (Byte b) ∷ form (take i a)) ≡ 0 → holes (cond t Hole (Byte b) ∷ form (take (suc i) a)) ≡ 0) [
      | true ↦ λ e. absurd (omega (arith, e))
      | false ↦ λ e. holes-next a i d (omega (arith, within)) other e
    ] none

no_number : (ns : List ℕ) → length ns ≡ 0 → ns ≡ []
no_number [] e = refl
no_number (n ∷ ns) e = absurd (omega (arith, e))

-- the rest of a slice, as the code names it
rest_is : (a : List ℕ) (i : ℕ) → take (length a - (i + 1)) (drop (i + 1) a) ≡ drop (suc i) a
rest_is a i = take_rest a (i + 1) ∙ ap (λ k. drop k a) (add-one i)

filled-nil : (a : List ℕ) → a ≡ filled a []
filled-nil [] = refl
filled-nil (b ∷ a) =
    elim (b == 48) as (λ t. (b == 48) ≡ t → b ∷ a ≡ weave (cond t Hole (Byte b) ∷ form a) []) [
      | true ↦ λ e. ap (λ x. x ∷ a) (eqb-true b 48 e) ∙ ap (λ t. 48 ∷ t) (filled-nil a)
      | false ↦ λ e. ap (λ t. b ∷ t) (filled-nil a)
    ] refl

-- where no number is left a text stands as it is
pub filled-none : (a ns : List ℕ) → length ns ≡ 0 → a ≡ filled a ns
filled-none a ns empty = filled-nil a ∙ ap (filled a) (sym (no_number ns empty))

pub left-none : (a ns : List ℕ) → length ns ≡ 0 → ns ≡ drop (holes (form a)) ns
left-none a ns empty = let none = no_number ns empty in none ∙ sym (drop-nil (holes (form a))) ∙ ap (drop (holes (form a))) (sym none)

pub left-plain : (a ns : List ℕ) → holes (form a) ≡ 0 → ns ≡ drop (holes (form a)) ns
left-plain a ns none = ap (λ k. drop k ns) (sym none)

-- the first hole takes the first number
pub filled-some : (a ns ms : List ℕ) (i n : ℕ) → i < length a → get_or a i 0 ≡ 48 → holes (form (take i a)) ≡ 0 → ns ≡ n ∷ ms
    → take i a ++ (decimal n ++ filled (take (length a - (i + 1)) (drop (i + 1) a)) ms) ≡ filled a ns
filled-some a ns ms i n within is none begins =
    ap (λ b. take i a ++ (decimal n ++ filled b ms)) (rest_is a i) ∙ filled-front a (n ∷ ms) i within is none ∙ ap (filled a) (sym begins)

pub left-some : (a ns ms : List ℕ) (i n : ℕ) → i < length a → get_or a i 0 ≡ 48 → holes (form (take i a)) ≡ 0 → ns ≡ n ∷ ms
    → drop (holes (form (take (length a - (i + 1)) (drop (i + 1) a)))) ms ≡ drop (holes (form a)) ns
left-some a ns ms i n within is none begins =
    ap (λ b. drop (holes (form b)) ms) (rest_is a i) ∙ ap (λ k. drop k (n ∷ ms)) (sym (holes-front a i within is none)) ∙ ap (drop (holes (form a))) (sym begins)

-- the first part, and then the others
pub filled-first : {X : Type 0} (text : X → List ℕ) (xs ys : List X) (x : X) (ns ms : List ℕ) → xs ≡ x ∷ ys → ms ≡ drop (holes (form (text x))) ns
    → filled (text x) ns ++ filled (concat (map text ys)) ms ≡ filled (concat (map text xs)) ns
filled-first text xs ys x ns ms is left =
    ap (λ l. filled (text x) ns ++ filled (concat (map text ys)) l) left ∙ filled-parts (text x) (concat (map text ys)) ns
    ∙ ap (λ l. filled (concat (map text l)) ns) (sym is)
