-- What the parts of a program do, one after the other, whatever frames stand behind those that they take.
use Rattle.std.specs.Prelude.{◌≡◌, ℕ, ◌+◌, Bool, true, false, ◌||◌, List, [], ◌++◌, length, Option, None, Some, is_some, ⊤}
use Rattle.capture_files.specs.Record.{Frame}
use Rattle.io_edges.specs.ShelfState.{ShelfState}
use Rattle.adapter.specs.Seen.{Seen, Grows}
use Rattle.flow_calls.specs.declared.entry.Entry.{Entry}
use Rattle.flow_grammar.specs.declared.part.Part.{Part}
use Rattle.whole_history.specs.Reach.{first, behind_first, asks_stop, taken_by, left_by, part_asks_stop, program_asks_stop}
use Rattle.history_text.specs.declared.ending.Ending.{Ending}
use Rattle.history_text.specs.declared.ending.Ending.TheVariants as endings
use Rattle.testpmd_shell.specs.declared.feed.Feed.{Feed}
use Rattle.testpmd_shell.specs.Feed.{IsReady, HasRead}
use Rattle.testpmd_shell.specs.Sending.{AreKept}
use Rattle.testpmd_shell.specs.Ways.{Way, AreRun}

-- A session without a capture is at its end from the start.
abbrev pub ended_in : Option Feed → Bool
ended_in None = true
ended_in (Some feed) = feed.reader.ended

abbrev pub ending_in : Option Feed → Ending
ending_in None = endings.Whole
ending_in (Some feed) = feed.ending

abbrev pub taken_in : Option Feed → ℕ
taken_in None = 0
taken_in (Some feed) = feed.taken

-- the capture is opened, and can be read on
abbrev pub IsOpen : Option Feed → ShelfState → Type 0
IsOpen None state = ⊤
IsOpen (Some feed) state = IsReady feed × (state.capture.opened ≡ true)

-- just these frames were read of the capture
abbrev pub WasRead : Option Feed → ShelfState → List ℕ → List Frame → Type 0
WasRead None state content frames = frames ≡ []
WasRead (Some feed) state content frames = HasRead feed state.capture content frames

-- frames that may remain: none where the capture has ended
abbrev pub MayRemain : Bool → List Frame → Type 0
MayRemain ended rest = ended ≡ true → rest ≡ []

-- A phase with that count took some frames, whatever stands behind them, and something is done with them.
pub record TakesIn (Dealt : List Frame → Type 0) (count : Option ℕ) (feed feed' : Option Feed) (state' : ShelfState) (content : List ℕ) (frames : List Frame) : Type 0 where
  pub more : List Frame
  pub kept : is_some feed' ≡ is_some feed
  pub read : WasRead feed' state' content (frames ++ more)
  pub counted : taken_in feed' ≡ taken_in feed + length more
  pub dealt : Dealt more
  pub taken : (rest : List Frame) → MayRemain (ended_in feed') rest → first count (more ++ rest) ≡ more
  pub left : (rest : List Frame) → MayRemain (ended_in feed') rest → behind_first count (more ++ rest) ≡ rest
  pub asked : (rest : List Frame) → MayRemain (ended_in feed') rest → (ended_in feed || asks_stop count (more ++ rest)) ≡ ended_in feed'
  pub none : ended_in feed ≡ true → (more ≡ []) × (ended_in feed' ≡ true)

-- The history grew by entries that a part may add.
pub record Adds (way : Way) (number : ℕ) (frames : List Frame) (part : Part) (before after : Seen) : Type 0 where
  pub entries : List Entry
  pub grows : Grows before after entries
  pub may : way before.limits number frames part before.history entries

-- A part took some frames.
pub record RunsPart (way : Way) (part : Part) (feed feed' : Option Feed) (state' : ShelfState) (content : List ℕ) (frames : List Frame) (before after : Seen) (sent sent' : Option (List ℕ)) : Type 0 where
  pub more : List Frame
  pub kept : is_some feed' ≡ is_some feed
  pub read : WasRead feed' state' content (frames ++ more)
  pub keeps : AreKept sent (taken_in feed) frames before → AreKept sent' (taken_in feed') (frames ++ more) after
  pub counted : taken_in feed' ≡ taken_in feed + length more
  pub adds : (rest : List Frame) → MayRemain (ended_in feed') rest → Adds way (taken_in feed + 1) (more ++ rest) part before after
  pub taken : (rest : List Frame) → MayRemain (ended_in feed') rest → taken_by part (more ++ rest) ≡ more
  pub left : (rest : List Frame) → MayRemain (ended_in feed') rest → left_by part (more ++ rest) ≡ rest
  pub asked : (rest : List Frame) → MayRemain (ended_in feed') rest → (ended_in feed || part_asks_stop part (more ++ rest)) ≡ ended_in feed'
  pub none : ended_in feed ≡ true → (more ≡ []) × (ended_in feed' ≡ true)

-- Whatever the parts that are left add behind what was added, all parts may add.
abbrev pub GoOn : Way → ℕ → ℕ → List Frame → List Frame → List Part → List Part → Seen → Seen → Type 0
GoOn way number number' frames rest parts parts' before after = (es : List Entry) → AreRun way before.limits number' rest parts' after.history es
    → (all : List Entry) × (before.history ++ all ≡ after.history ++ es) × AreRun way before.limits number frames parts before.history all

-- Some parts were run, and others are left.
pub record PartsToGo (way : Way) (parts parts' : List Part) (feed feed' : Option Feed) (state' : ShelfState) (content : List ℕ) (frames : List Frame) (before after : Seen) (sent sent' : Option (List ℕ)) : Type 0 where
  pub more : List Frame
  pub kept : is_some feed' ≡ is_some feed
  pub read : WasRead feed' state' content (frames ++ more)
  pub keeps : AreKept sent (taken_in feed) frames before → AreKept sent' (taken_in feed') (frames ++ more) after
  pub go : (rest : List Frame) → MayRemain (ended_in feed') rest → GoOn way (taken_in feed + 1) (taken_in feed' + 1) (more ++ rest) rest parts parts' before after
  pub asked : (rest : List Frame) → MayRemain (ended_in feed') rest
      → (ended_in feed || program_asks_stop parts (more ++ rest)) ≡ (ended_in feed' || program_asks_stop parts' rest)

-- All parts were run.
pub record RunsParts (way : Way) (parts : List Part) (feed feed' : Option Feed) (state' : ShelfState) (content : List ℕ) (frames : List Frame) (before after : Seen) (sent sent' : Option (List ℕ)) : Type 0 where
  pub more : List Frame
  pub kept : is_some feed' ≡ is_some feed
  pub read : WasRead feed' state' content (frames ++ more)
  pub keeps : AreKept sent (taken_in feed) frames before → AreKept sent' (taken_in feed') (frames ++ more) after
  pub history : (rest : List Frame) → MayRemain (ended_in feed') rest
      → (all : List Entry) × (after.history ≡ before.history ++ all) × AreRun way before.limits (taken_in feed + 1) (more ++ rest) parts before.history all
  pub asked : (rest : List Frame) → MayRemain (ended_in feed') rest → (ended_in feed || program_asks_stop parts (more ++ rest)) ≡ ended_in feed'

-- The capture that is named was just opened: nothing was taken, and all of its bytes are to come. Without a name there is
-- none.
abbrev pub StartsOver : Option (List ℕ) → Option Feed → ShelfState → ShelfState → Type 0
StartsOver None None s t = ⊤
StartsOver None (Some feed) s t = ⊥
StartsOver (Some name) None s t = ⊥
StartsOver (Some name) (Some feed) s t = (feed.taken ≡ 0) × (feed.ending ≡ endings.Whole) × (feed.reader.ended ≡ false)
    × ((content : List ℕ) → s.contents name ≡ Some content → HasRead feed t.capture content [])
