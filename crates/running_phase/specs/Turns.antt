-- The frames that a worker takes for one turn, and what goes out of them.
use Rattle.std.specs.Prelude.{◌≡◌, ℕ, ◌==◌, List, [], ◌∷◌, ◌++◌, map, filter, if◌then◌else◌}
use Rattle.packet_headers.specs.Layers.{layers}
use Rattle.flow_rules.specs.Walk.{Flows, verdict_of}
use Rattle.flow_calls.specs.Totals.{is_drop}
use Rattle.flow_port.specs.Bursts.{verdicts_by}
use Rattle.history_text.specs.Transmit.{record_behind}
use Rattle.running_phase.specs.declared.copies.FrameCopy.{FrameCopy}
use Rattle.running_phase.specs.declared.worker.bursts.Burst.{Burst}
use Rattle.running_phase.specs.Copies.{frame_of, parcels}
use Rattle.running_phase.specs.Shares.{taker_of}

-- of these frames, those of one caller
abbrev pub taken_by : ℕ → ℕ → List FrameCopy → List FrameCopy
taken_by workers who copies = filter (λ c. taker_of workers c.number == who) copies

-- the frames of a burst
abbrev pub lent : Burst → List FrameCopy
lent burst = map (λ f. f.now) burst.frames.items

-- The burst has just these frames, with their parcels and verdicts
pub record Has (flows : Flows) (copies : List FrameCopy) (burst : Burst) : Type 0 where
  pub same : lent burst ≡ copies
  pub packed : burst.parcels.items ≡ parcels copies
  pub judged : burst.verdicts.items ≡ verdicts_by flows (parcels copies)

-- The burst has a worker's frames out of the first of these, and the others are left
pub record Took (workers who : ℕ) (flows : Flows) (copies left : List FrameCopy) (burst : Burst) : Type 0 where
  pub front : List FrameCopy
  pub parts : copies ≡ front ++ left
  pub has : Has flows (taken_by workers who front) burst

-- what goes out of a frame: its record, where it goes to a queue
abbrev pub goes_out : Flows → FrameCopy → List (List ℕ)
goes_out flows copy =
    if is_drop (verdict_of flows (layers copy.bytes.items)).fate then [] else record_behind flows (layers copy.bytes.items) (frame_of copy) ∷ []
