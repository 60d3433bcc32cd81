-- The frames that are kept for the transmit file, and what they are of the history.
use Rattle.std.specs.Prelude.{◌≡◌, ℕ, ◌++◌, List, [], length, Option, Some, IfSome, Vec}
use Rattle.std.specs.Global.{Global}
use Rattle.std.specs.Option.{option_map}
use Rattle.std.specs.List.{flat_map}
use Rattle.packet_headers.specs.Layers.{layers}
use Rattle.capture_files.specs.Record.{Frame}
use Rattle.flow_rules.specs.Walk.{Flows, verdict_of}
use Rattle.adapter.specs.Seen.{Seen}
use Rattle.port_state.specs.State.{flows_of, state_of}
use Rattle.history_text.specs.Transmit.{delivered, records_of_entries}
use Rattle.testpmd_shell.specs.declared.feed.Arrived.{Arrived}
use Rattle.running_phase.specs.declared.copies.FrameCopy.{FrameCopy}
use Rattle.running_phase.specs.Copies.{record_of}
use Rattle.testpmd_shell.specs.declared.lead.Lead.{Lead}
use Rattle.testpmd_shell.specs.Feed.{frame_in}

abbrev pub records_of : List FrameCopy → List ℕ
records_of kept = flat_map record_of kept

-- the records of what is kept, where frames are kept
abbrev pub records_kept : Option (Vec FrameCopy Global) → Option (List ℕ)
records_kept kept = option_map (λ list. records_of list.items) kept

abbrev pub kept_in : Lead → Option (List ℕ)
kept_in lead = records_kept lead.kept

-- what packets see behind a history
abbrev pub flows_now : Seen → Flows
flows_now adapter = flows_of (state_of adapter.limits adapter.history)

-- what a frame that arrived in those bytes adds where packets see these flows
unfoldable pub sent_by : Flows → Arrived → List ℕ → List ℕ
sent_by flows arrived bytes = delivered (verdict_of flows (layers bytes)).fate flows (layers bytes) (Some (frame_in arrived bytes))

-- What is kept of the frames that were taken is what the history sends of them, whatever frames stand behind them.
pub record AreKept (kept : Option (List ℕ)) (taken : ℕ) (frames : List Frame) (adapter : Seen) : Type 0 where
  pub counted : taken ≡ length frames
  pub records : IfSome kept (λ bytes. (rest : List Frame) → bytes ≡ records_of_entries adapter.limits (frames ++ rest) [] adapter.history)
