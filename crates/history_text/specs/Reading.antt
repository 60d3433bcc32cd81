-- Reading a form at the front of a text: the numbers in it, and the text behind.
use Rattle.std.specs.Prelude.{ℕ, ◌<◌, ◌≤◌, get_or, ◌^◌, ◌-◌, Bool, true, false, List, [], ◌∷◌, drop, slice_index, Option, None, Some, option_map, option_and_then, ◌==◌, nat_eq, nat_le, nat_lt, ◌&&◌, if◌then◌else◌}
use Rattle.std.specs.Char.{digit_value}
use Rattle.std.specs.Net.Reader.{read_number, read_byte}
use Rattle.history_text.specs.Forms.{Piece, Hole, Byte, form}

-- a number below 2^64 at the front, in its only spelling, and the text behind it
unfoldable pub read_one : List ℕ → Option (ℕ × List ℕ)
read_one text = option_and_then (λ n. if nat_lt 1 n.1 && (slice_index text 0 == 48) then None else Some (n.0, drop n.1 text))
    (read_number 10 (2 ^ 64 - 1) text)

-- the numbers of a form at the front of a text, and the text behind it
abbrev pub read_form : List Piece → List ℕ → Option (List ℕ × List ℕ)
read_form [] text = Some ([], text)
read_form (Byte b ∷ ps) text = option_and_then (λ rest. read_form ps rest) (read_byte b text)
read_form (Hole ∷ ps) text = option_and_then (λ p. option_map (λ q. (p.0 ∷ q.0, q.1)) (read_form ps p.1)) (read_one text)

-- no number and no digit stands first
abbrev pub begins_apart : List Piece → Bool
begins_apart [] = true
begins_apart (Hole ∷ ps) = false
begins_apart (Byte b ∷ ps) = nat_le 10 (digit_value b)

-- a form that is read in one way
abbrev pub is_form : List Piece → Bool
is_form [] = true
is_form (Byte b ∷ ps) = nat_le 10 (digit_value b) && is_form ps
is_form (Hole ∷ ps) = begins_apart ps && is_form ps

-- these numbers fill the form
abbrev pub Fills : List Piece → List ℕ → Type 0
Fills [] [] = Unit
Fills [] (n ∷ ns) = ⊥
Fills (Byte b ∷ ps) ns = Fills ps ns
Fills (Hole ∷ ps) [] = ⊥
Fills (Hole ∷ ps) (n ∷ ns) = (n < 2 ^ 64) × Fills ps ns

-- a row of a table of texts: a form, and what its numbers tell
pub record Row (A : Type 0) : Type 0 where
  pub text : List ℕ
  pub make : List ℕ → Option A

abbrev pub same_piece : Piece → Piece → Bool
same_piece Hole Hole = true
same_piece (Byte a) (Byte b) = nat_eq a b
same_piece p q = false

abbrev pub same_form : List Piece → List Piece → Bool
same_form [] [] = true
same_form (p ∷ ps) (q ∷ qs) = same_piece p q && same_form ps qs
same_form ps qs = false

abbrev pub are_forms : {A : Type 0} → List (Row A) → Bool
are_forms [] = true
are_forms (row ∷ rows) = is_form (form row.text) && are_forms rows

-- at the end of a form that ends in a number no digit follows
abbrev pub Ends : List Piece → List ℕ → Type 0
Ends [] rest = Unit
Ends (Byte b ∷ ps) rest = Ends ps rest
Ends (Hole ∷ []) rest = 10 ≤ digit_value (get_or rest 0 0)
Ends (Hole ∷ p ∷ ps) rest = Ends (p ∷ ps) rest

-- two forms differ before either ends
abbrev pub apart : List Piece → List Piece → Bool
apart [] ps = false
apart (p ∷ ps) [] = false
apart (Byte a ∷ ps) (Byte b ∷ qs) = if b == a then apart ps qs else true
apart (Byte a ∷ ps) (Hole ∷ qs) = true
apart (Hole ∷ ps) (Byte b ∷ qs) = true
apart (Hole ∷ ps) (Hole ∷ qs) = apart ps qs

abbrev pub front_or : {A : Type 0} → Row A → Option (List ℕ × List ℕ) → Option (A × List ℕ) → Option (A × List ℕ)
front_or row None other = other
front_or row (Some q) other = option_map (λ a. (a, q.1)) (row.make q.0)

-- what the first row tells whose form stands at the front, and the text behind it
abbrev pub front_by : {A : Type 0} → List (Row A) → List ℕ → Option (A × List ℕ)
front_by [] text = None
front_by (row ∷ rows) text = front_or row (read_form (form row.text) text) (front_by rows text)

-- what the first row tells that has this form, where those in front of it differ
abbrev pub made_front : {A : Type 0} → List (Row A) → List Piece → List ℕ → Option A
made_front [] ps ns = None
made_front (row ∷ rows) ps ns = if same_form (form row.text) ps then row.make ns
    else if apart (form row.text) ps then made_front rows ps ns else None
