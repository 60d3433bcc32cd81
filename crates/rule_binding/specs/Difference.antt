-- Where the kinds of a list first differ from those that are wanted. Kinds are numbers here, and `Void` is 0 among items and
-- among actions.
use Rattle.std.specs.Prelude.{ℕ, ◌+◌, Bool, false, nat_eq, drop, if◌then◌else◌, List, [], ◌∷◌, Option, None, Some}

-- the kind is the first of those wanted
abbrev pub is_first : ℕ → List ℕ → Bool
is_first kind [] = false
is_first kind (wanted ∷ _) = nat_eq wanted kind

-- a place, where more kinds are wanted
abbrev pub place_if_more : List ℕ → ℕ → Option ℕ
place_if_more [] place = None
place_if_more (wanted ∷ _) place = Some place

-- Places are those of the list as written, `Void` included; where it is too short, the place is its length.
abbrev pub difference : List ℕ → ℕ → List ℕ → Option ℕ
difference wanted place [] = place_if_more wanted place
difference wanted place (kind ∷ list) =
    if nat_eq kind 0 then difference wanted (place + 1) list
    else (if is_first kind wanted then difference (drop 1 wanted) (place + 1) list else Some place)
