-- Which pass stands where in a list.
use Rattle.std.specs.Prelude.{◌≡◌, List, length, map}
use Rattle.std.specs.List.{range_with_len}
use Rattle.frame_ring.specs.declared.pass.RingPass.{RingPass}
use Rattle.frame_ring.specs.Passes.{number_of}

-- the passes with the numbers from 0 on, each at its place
unfoldable pub AreNumbered : List RingPass → Type 0
AreNumbered passes = map number_of passes ≡ range_with_len 0 (length passes)
