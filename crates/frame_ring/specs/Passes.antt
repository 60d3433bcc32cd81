-- What contracts see of a pass and of a list of passes.
use Rattle.std.specs.Prelude.{ℕ, List, [], ◌∷◌, ◌++◌, length, map, drop, Option, Some, None, vec_capacity}
use Rattle.crossbeam_queue.specs.Passes.{view}
use Rattle.frame_ring.specs.Frame.{Frame}
use Rattle.frame_ring.specs.declared.view.PassFrames.{PassFrames}
use Rattle.frame_ring.specs.declared.view.PassCounts.{PassCounts}
use Rattle.frame_ring.specs.declared.pass.RingPass.{RingPass}
use Rattle.frame_ring.specs.declared.pass.Gathered.{Gathered}
use Rattle.frame_ring.specs.declared.pass.RingPasses.{RingPasses}
use Rattle.frame_ring.specs.Views.{pass_frames, pass_counts, all_offered, all_grabbed, all_taken, all_given}

-- which of the ring's passes it is
abbrev pub number_of : RingPass → ℕ
number_of p = p.number

abbrev pub first_offered : List PassFrames → List Frame
first_offered [] = []
first_offered (p ∷ ps) = p.offered

abbrev pub first_grabbed : List PassFrames → List Frame
first_grabbed [] = []
first_grabbed (p ∷ ps) = p.grabbed

abbrev pub first_taken : List PassCounts → ℕ
first_taken [] = 0
first_taken (p ∷ ps) = p.taken

abbrev pub first_given : List PassCounts → ℕ
first_given [] = 0
first_given (p ∷ ps) = p.given

-- the frames that this pass offered, the first one first
abbrev pub offered : RingPass → List Frame
offered p = first_offered (view p.ring).own

-- the frames that it grabbed
abbrev pub grabbed : RingPass → List Frame
grabbed p = first_grabbed (view p.ring).own

-- how many buffers it took free
abbrev pub taken : RingPass → ℕ
taken p = first_taken (view p.free).own

-- how many it gave back
abbrev pub given : RingPass → ℕ
given p = first_given (view p.free).own

-- the two lines of the account that are its own
abbrev pub frames_of : RingPass → PassFrames
frames_of p = pass_frames p.number (offered p) (grabbed p)

abbrev pub counts_of : RingPass → PassCounts
counts_of p = pass_counts p.number (taken p) (given p)

abbrev pub passes_in : RingPasses → List RingPass
passes_in list = list.items.items

-- how many passes a list may hold
abbrev pub limit_of : RingPasses → ℕ
limit_of list = vec_capacity list.items

-- all passes of a ring in one, once the list was handed to `drain`
abbrev pub gathered : RingPasses → Option Gathered
gathered list = list.gathered

-- the passes that a list keeps for `pop` when it is handed to `drain`: none, where they are joined now
abbrev pub kept_from : Option Gathered → List RingPass → List RingPass
kept_from None ps = []
kept_from (Some all) ps = ps

abbrev pub kept_in : RingPasses → List RingPass
kept_in list = kept_from list.gathered list.items.items

abbrev pub frames_told : Option Gathered → List RingPass → List PassFrames
frames_told None ps = map frames_of ps
frames_told (Some all) ps = (view all.ring).own

abbrev pub counts_told : Option Gathered → List RingPass → List PassCounts
counts_told None ps = map counts_of ps
counts_told (Some all) ps = (view all.free).own

abbrev pub drained_told : Option Gathered → List Frame
drained_told None = []
drained_told (Some all) = (view all.ring).drained

-- The account of the list's passes: what each offered and grabbed
abbrev pub frames_in : RingPasses → List PassFrames
frames_in list = frames_told list.gathered list.items.items

-- and how many buffers each took free and gave back
abbrev pub counts_in : RingPasses → List PassCounts
counts_in list = counts_told list.gathered list.items.items

-- the frames that `drain` gave
abbrev pub drained_in : RingPasses → List Frame
drained_in list = drained_told list.gathered

-- the frames that the passes offered
abbrev pub offered_in : RingPasses → List Frame
offered_in list = all_offered (frames_in list)

-- the frames that they grabbed, pass by pass
abbrev pub grabbed_in : RingPasses → List Frame
grabbed_in list = all_grabbed (frames_in list)

abbrev pub taken_in : RingPasses → ℕ
taken_in list = all_taken (counts_in list)

abbrev pub given_in : RingPasses → ℕ
given_in list = all_given (counts_in list)

-- For who has all passes: the frames that are left in the ring, the oldest first. They are the last ones offered
abbrev pub left_in : RingPasses → List Frame
left_in list = drop (length (grabbed_in list ++ drained_in list)) (offered_in list)

-- The same for the one pass of a ring
abbrev pub left_by : RingPass → List Frame
left_by p = drop (length (grabbed p)) (offered p)
