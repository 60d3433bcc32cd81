-- What a step on a word owes, where the words are known.
use Rattle.std.proofs.Common.{◌≡◌, ℕ, List, get_or, sym, subst}
use Rattle.atomic_table.specs.Table.{State, Me, Act, Valid, stepped, carried_after}

abbrev pub Owes : {S V : Type 0} → (State S V → Type 0) → State S V → ℕ → Me S V → ℕ → (ℕ → ℕ) → (ℕ → Me S V → Type 0) → List ℕ → Type 0
Owes {S} {V} holds s id me i f then ws =
    (w : V) × (a : Act S) × Valid s.homes me.1 a × holds (stepped (record { words = ws; homes = s.homes; views = s.views }) i (f (get_or ws i 0)) id me.1 w a)
    × then (get_or ws i 0) (w, carried_after me.1 a)

pub at_words : {S V : Type 0} (holds : State S V → Type 0) (s : State S V) (id : ℕ) (me : Me S V) (i : ℕ) (f : ℕ → ℕ) (then : ℕ → Me S V → Type 0) (ws : List ℕ)
    → s.words ≡ ws → Owes holds s id me i f then ws → Owes holds s id me i f then s.words
at_words holds s id me i f then ws e h = subst (Owes holds s id me i f then) (sym e) h
