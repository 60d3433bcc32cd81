-- Frames in the order of their numbers.
use Rattle.std.specs.Prelude.{ℕ, ◌<◌, ◌≤◌, List, [], ◌∷◌}
use Rattle.frame_ring.specs.Frame.{Frame}

-- The numbers rise and are greater than n, and each length is at most a buffer's, 262144 bytes, the most that a record
-- of a capture may have
abbrev pub IsRow : ℕ → List Frame → Type 0
IsRow n [] = Unit {0}
IsRow n (f ∷ fs) = (n < f.number) × (f.len ≤ 262144) × IsRow f.number fs

-- the number of the last frame, or n where there is none
abbrev pub last_of : ℕ → List Frame → ℕ
last_of n [] = n
last_of n (f ∷ fs) = last_of f.number fs
