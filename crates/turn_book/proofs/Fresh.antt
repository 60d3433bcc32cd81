-- A seat that was just cut off.
use Rattle.std.proofs.Common.{◌≡◌, ℕ, ◌^◌, false, List, [], ◌∷◌, ◌++◌, Some, None, sym, refl, ap, ◌∙◌, append-nil, subst, map, zero, suc, ◌+◌, add-zero, zero-add, add-one, length, ◌≤◌, All, arith}
use Rattle.std.specs.List.{range_with_len}
use Rattle.std.proofs.lemmas.List.{map-append}
use Rattle.turn_book.specs.declared.seat.Seat.{Seat}
use Rattle.turn_book.specs.declared.seat.SeatList.{SeatList}
use Rattle.turn_book.specs.declared.book.Book.{Book}
use Rattle.turn_book.specs.Seats.{seats_in}
use Rattle.turn_book.specs.Views.{place, knows}
use Rattle.turn_book.specs.Books.{opened, seen, first_seen, IsAtTable, IsFresh, AreAllOf}

pub fresh_seat : {M E F : Type 0} (entries : M → List E) (fixed : M → F) (b : Book M E F) (s : Seat M E F) → IsAtTable b s → s.left ≡ 2 ^ 32
    → s.token.me ≡ (knows (place s.number (2 ^ 32) (entries (opened b)) ∷ []) None false (entries (opened b)) (Some (fixed (opened b))), []) → IsFresh entries fixed b s
fresh_seat entries fixed b s at full e =
    let start = entries (opened b) in
    let all : seen s ≡ start = ap (λ m. first_seen m.0.own) e in
    let P : ℕ → List _ → Type 0 = λ l h. s.token.me ≡ (knows (place s.number l h ∷ []) None false start (Some (fixed (opened b))), []) in (
      (at, subst (λ l. P l (seen s)) (sym full) (subst (P (2 ^ 32)) (sym all) e), ([], all ∙ sym (append-nil start))),
      full,
      all,
    )

range_more : (a n : ℕ) → range_with_len a (suc n) ≡ range_with_len a n ++ (a + n) ∷ []
range_more a zero = ap (λ k. k ∷ []) (sym (add-zero a))
range_more a (suc n) = ap (λ l. a ∷ l) (range_more (a + 1) n ∙ ap (λ k. range_with_len (a + 1) n ++ k ∷ []) (omega arith))

-- the numbers of the seats go on
pub numbers_more : {M E F : Type 0} (items more : List (Seat M E F)) (s : Seat M E F) (n m : ℕ) → more ≡ items ++ s ∷ [] → map (λ (x : Seat M E F). x.number) items ≡ range_with_len 0 n → s.number ≡ n → n + 1 ≡ m
    → map (λ (x : Seat M E F). x.number) more ≡ range_with_len 0 m
numbers_more items more s n m e was is next =
    let last : range_with_len 0 n ++ n ∷ [] ≡ range_with_len 0 m = ap (λ k. range_with_len 0 n ++ k ∷ []) (sym (zero-add n)) ∙ sym (range_more 0 n) ∙ ap (range_with_len 0) (sym (add-one n) ∙ next) in
    ap (map (λ x. x.number)) e ∙ map-append (λ x. x.number) items (s ∷ []) ∙ ap (λ l. l ++ s.number ∷ []) was ∙ ap (λ k. range_with_len 0 n ++ k ∷ []) is ∙ last

length_range : (a n : ℕ) → length (range_with_len a n) ≡ n
length_range a zero = refl
length_range a (suc n) = ap suc (length_range (a + 1) n)

length_numbers : {M E F : Type 0} (items : List (Seat M E F)) → length (map (λ (s : Seat M E F). s.number) items) ≡ length items
length_numbers [] = refl
length_numbers (s ∷ ss) = ap suc (length_numbers ss)

-- the seats that were made are all seats of the book
pub all_made : {M E F : Type 0} (entries : M → List E) (fixed : M → F) (b : Book M E F) (list : SeatList M E F) (seats : ℕ) → 1 ≤ seats → b.table.shared.key.1 ≡ seats
    → All (IsFresh entries fixed b) (seats_in list) → map (λ (s : Seat M E F). s.number) (seats_in list) ≡ range_with_len 0 seats → AreAllOf entries fixed b list
all_made entries fixed b list seats some_seat same fresh numbers =
    let long : length (seats_in list) ≡ seats = sym (length_numbers (seats_in list)) ∙ ap length numbers ∙ length_range 0 seats in
    (omega arith, long ∙ sym same, λ k d lt. (fresh k d lt).0)
