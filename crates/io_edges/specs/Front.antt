-- How much of a text a sink took: the first bytes of it, and how many.
use Rattle.std.specs.Prelude.{◌≡◌, ℕ, ◌-◌, ◌^◌, ◌≤◌, min, List, length, take, Option}
use Rattle.std.specs.Io.KnownBytes.{Appends}

-- the sink took just the first `count` bytes of the text; the number that is told of them ends at 2^64 - 1
pub record TakesFront (old new : Option (List ℕ)) (text : List ℕ) (sent : ℕ) : Type 0 where
  pub count : ℕ
  pub within : count ≤ length text
  pub front : Appends old new (take count text)
  pub counted : sent ≡ min count (2 ^ 64 - 1)
