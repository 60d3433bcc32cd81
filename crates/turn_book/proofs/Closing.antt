-- From the table's end to what `close` says of the seats.
use Rattle.std.proofs.Common.{◌≡◌, ℕ, suc, ◌<◌, List, [], ◌∷◌, ◌++◌, map, length, drop, get_or, All, Contains, Option, Some, None, false, option_to_list, sym, refl, ap, ◌∙◌, subst, ⊎_elim, append_assoc, arith}
use Rattle.std.proofs.lemmas.List.Elements.{All-nil, All-cons, All-pop}
use Rattle.std.proofs.lemmas.List.{map-append}
use mathlib.Core.Option.{some, some-injective}
use lib.ListN.{get_elem?}
use Rattle.atomic_table.specs.Table.{Me, Final, Seen}
use Rattle.turn_book.specs.declared.view.Place.{Place}
use Rattle.turn_book.specs.declared.seat.Seat.{Seat}
use Rattle.turn_book.specs.declared.seat.SeatList.{SeatList}
use Rattle.turn_book.specs.declared.book.Book.{Book}
use Rattle.turn_book.specs.Views.{Each, SomeOf, BeginsWith, knows}
use Rattle.turn_book.specs.declared.view.Knows.{Knows}
use Rattle.turn_book.specs.Rule.{Saw, Kept}
use Rattle.turn_book.specs.Seats.{seats_in}
use Rattle.turn_book.specs.Books.{opened, seen, place_of, owner_in, AreAllOf, HasOwn, OwnedBySeats}
use Rattle.turn_book.proofs.Mine.{own_stays, drop_front}
use Rattle.turn_book.proofs.Ends.{Ends, ends}

-- the last seat of a list, and its place
pub of_last : {X : Type 0} (P : X → Type 0) (items rest : List X) (r : Option X) (s : X) → items ≡ rest ++ option_to_list r → r ≡ Some s → All P items → All P rest × P s
of_last P items rest r s e is all = All-pop P items rest (Some s) (e ∙ ap (λ o. rest ++ option_to_list o) is) all

pub places_of_last : {M E F : Type 0} (items rest : List (Seat M E F)) (r : Option (Seat M E F)) (s : Seat M E F) (own : List (Place E)) → items ≡ rest ++ option_to_list r → r ≡ Some s → map place_of rest ++ (place_of s ∷ own) ≡ map place_of items ++ own
places_of_last items rest r s own e is =
    let whole : map place_of items ≡ map place_of rest ++ place_of s ∷ [] = ap (map place_of) (e ∙ ap (λ o. rest ++ option_to_list o) is) ∙ map-append place_of rest (s ∷ []) in
    sym (append_assoc (map place_of rest) (place_of s ∷ []) own) ∙ ap (λ l. l ++ own) (sym whole)

all_from_each : {X : Type 0} (P : X → Type 0) (xs : List X) → Each P xs → All P xs
all_from_each P [] h = All-nil P
all_from_each P (x ∷ xs) h = All-cons P x xs h.0 (all_from_each P xs h.1)

each_unmapped : {X Y : Type 0} (P : Y → Type 0) (f : X → Y) (xs : List X) → Each P (map f xs) → Each (λ x. P (f x)) xs
each_unmapped P f [] h = tt
each_unmapped P f (x ∷ xs) h = (h.0, each_unmapped P f xs h.1)

each_contains : {M E F : Type 0} (items : List (Seat M E F)) (n : ℕ) → SomeOf (λ (p : Place E). p.number ≡ n) (map place_of items) → Contains (map (λ (s : Seat M E F). s.number) items) n
each_contains [] n h = absurd h
each_contains (s ∷ ss) n h = ⊎_elim (λ e. (0, omega arith, e)) (λ t. let c = each_contains ss n t in let lt = c.1 in (suc c.0, omega arith, c.2)) h

length_places : {M E F : Type 0} (items : List (Seat M E F)) → length (map place_of items) ≡ length items
length_places [] = refl
length_places (s ∷ ss) = ap suc (length_places ss)

-- the end of the book's table, for the seat that carries all places
pub ends_at : {M E F : Type 0} (entries : M → List E) (fixed : M → F) (owner : F → E → ℕ) (b : Book M E F) (list : SeatList M E F) (id : ℕ) (me : Me (Option M) (Knows E F)) (words : List ℕ) (slots : List (Option M))
    → me ≡ (knows (map place_of (seats_in list)) None false (entries (opened b)) (Some (fixed (opened b))), []) → AreAllOf entries fixed b list
    → Final (Seen (Kept entries fixed owner (opened b) b.table.shared.key.1) id me.0) words slots → Ends entries fixed owner (opened b) b.table.shared.key.1 (map place_of (seats_in list)) slots
ends_at {M} {E} {F} entries fixed owner b list id me words slots e all fin =
    ends entries fixed owner (opened b) b.table.shared.key.1 id (map place_of (seats_in list)) (entries (opened b)) (Some (fixed (opened b))) words slots (length_places (seats_in list) ∙ all.1)
    (subst (λ (v : Knows E F). Final (Seen (Kept entries fixed owner (opened b) b.table.shared.key.1) id v) words slots) (ap (λ (m : Me (Option M) (Knows E F)). m.0) e) fin)

-- the value that was taken out of the slot
pub ends_with : {M E F : Type 0} (entries : M → List E) (fixed : M → F) (owner : F → E → ℕ) (start : M) (seats : ℕ) (ps : List (Place E)) (slots : List (Option M)) (fin : Ends entries fixed owner start seats ps slots) (found : Option M)
    → get_elem? slots 0 ≡ some found → found ≡ Some fin.value
ends_with entries fixed owner start seats ps slots fin found e = some-injective found (Some fin.value) (sym e ∙ fin.here)

module _ {M E F : Type 0} (entries : M → List E) (fixed : M → F) (owner : F → E → ℕ) (b : Book M E F) (list : SeatList M E F) (slots : List (Option M)) (fin : Ends entries fixed owner (opened b) b.table.shared.key.1 (map place_of (seats_in list)) slots)
    (value : M) (same : fin.value ≡ value) where
  saws : All (λ s. Saw (owner (fixed (opened b))) (entries value) (place_of s)) (seats_in list)
  saws = all_from_each _ (seats_in list) (each_unmapped (Saw (owner (fixed (opened b))) (entries value)) place_of (seats_in list) (subst (λ v. Each (Saw (owner (fixed (opened b))) (entries v)) (map place_of (seats_in list))) same fin.seen))

  whole : entries value ≡ entries (opened b) ++ fin.since
  whole = ap entries (sym same) ∙ fin.whole

  pub closes_fixed : fixed value ≡ fixed (opened b)
  closes_fixed = ap fixed (sym same) ∙ fin.same

  pub closes_begins : BeginsWith (entries value) (entries (opened b))
  closes_begins = (fin.since, whole)

  pub closes_seen : All (λ s. BeginsWith (entries value) (seen s)) (seats_in list)
  closes_seen k d lt = let saw = saws k d lt in (saw.0, saw.1)

  pub closes_own : AreAllOf entries fixed b list → All (HasOwn entries fixed owner b (entries value)) (seats_in list)
  closes_own all k d lt =
      let s = get_or (seats_in list) k d in
      let saw = saws k d lt in
      own_stays (owner (fixed (opened b))) s.number (entries (opened b)) (seen s) saw.0 (entries value) (all.2 k d lt).2 saw.1 saw.2

  pub closes_all : (n : ℕ) → n < b.table.shared.key.1 → Contains (map (λ (s : Seat M E F). s.number) (seats_in list)) n
  closes_all n lt = each_contains (seats_in list) n (fin.numbers n lt)

  pub closes_owned : OwnedBySeats entries fixed owner b list (entries value)
  closes_owned =
      let rest : drop (length (entries (opened b))) (entries value) ≡ fin.since = ap (drop (length (entries (opened b)))) whole ∙ drop_front (entries (opened b)) fin.since in
      let P : E → Type 0 = λ e. Contains (map (λ (s : Seat M E F). s.number) (seats_in list)) (owner_in fixed owner b e) in
      subst (All P) (sym rest) (λ k d lt. each_contains (seats_in list) _ (all_from_each (λ e. SomeOf (λ (p : Place E). p.number ≡ owner (fixed (opened b)) e) (map place_of (seats_in list))) fin.since fin.owned k d lt))
