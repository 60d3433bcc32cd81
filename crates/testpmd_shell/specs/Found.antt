-- What a run finds in its files: the script, and the capture's frames with how it ends.
use Rattle.std.specs.Prelude.{ℕ, nat_lt, Bool, true, false, ◌||◌, List, [], length, Option, None, Some, option_and_then, if◌then◌else◌}
use Rattle.std.specs.Option.{option_map}
use Rattle.capture_files.specs.declared.stop.Stop.{Stop}
use Rattle.capture_files.specs.declared.stop.Stop.TheVariants as stops
use Rattle.capture_files.specs.Capture.{capture}
use Rattle.capture_files.specs.Record.{Frame}
use Rattle.io_edges.specs.ShelfState.{ShelfState}
use Rattle.flow_rules.specs.declared.limits.Limits.{Limits}
use Rattle.flow_grammar.specs.Program.{program_of}
use Rattle.flow_grammar.specs.Limits.{is_too_large}
use Rattle.whole_history.specs.Reach.{program_asks_stop}
use Rattle.history_text.specs.declared.ending.Ending.{Ending}
use Rattle.history_text.specs.declared.ending.Ending.TheVariants as endings
use Rattle.testpmd_shell.specs.declared.status.Status.{Status}
use Rattle.testpmd_shell.specs.declared.status.Status.TheVariants as status
use Rattle.testpmd_shell.specs.Options.{Given}

-- how a capture ends for phases that ask for more frames than it has
abbrev pub ending_at : Stop → Ending
ending_at stops.End = endings.Whole
ending_at (stops.Bad place kind) = endings.Bad place kind
ending_at (stops.Large place) = endings.Large place

-- a capture's frames, and how it ends for phases that ask for more
pub record Supply : Type 0 where
  pub frames : List Frame
  pub ending : Ending

-- a session without a capture has no frames, and no stop but the end
abbrev pub no_supply : Supply
no_supply = record { frames = []; ending = endings.Whole }

abbrev pub supply_of : List ℕ → Supply
supply_of bytes = record { frames = (capture bytes).frames; ending = ending_at (capture bytes).stop }

-- where a read failed: the frames of the bytes that the slot gave out
abbrev pub supply_until_fault : List ℕ → Supply
supply_until_fault given = record { frames = (capture given).frames; ending = endings.ReadFault }

abbrev pub supply_by : Bool → List ℕ → Option (List ℕ) → Option Supply
supply_by false bytes given = Some (supply_of bytes)
supply_by true bytes given = option_map supply_until_fault given

-- what phases find of the capture that is named, by the shelf before the run and behind it, where its bytes are told
abbrev pub supply_in : Option (List ℕ) → ShelfState → ShelfState → Option Supply
supply_in None s t = Some no_supply
supply_in (Some name) s t = option_and_then (λ bytes. supply_by (nat_lt s.capture.faults t.capture.faults) bytes t.capture.given) (s.contents name)

-- the script's bytes, and what phases find of the capture
pub record Found : Type 0 where
  pub script : List ℕ
  pub capture : Supply

abbrev pub found_by : Option (List ℕ) → Option Supply → Option Found
found_by None supply = None
found_by (Some script) None = None
found_by (Some script) (Some supply) = Some (record { script = script; capture = supply })

-- what a run finds in the files that the options name, where their bytes are told
abbrev pub found_in : Given → ShelfState → ShelfState → Option Found
found_in given s t = found_by (s.contents given.script) (supply_in given.capture s t)

abbrev pub limits_of : Given → Limits
limits_of given = record { rxq = given.rxq; flow_max = given.flow_max }

-- The script has more than 1,048,576 bytes, so that it is read whole into memory, or too many lines or calls.
unfoldable pub is_over : List ℕ → Bool
is_over script = nat_lt 1048576 (length script) || is_too_large script

-- whether a phase asks for a frame behind the capture's last one
abbrev pub asks_for_more : Found → Bool
asks_for_more found = program_asks_stop (program_of found.script) found.capture.frames

-- how the capture ended in the run: it is whole unless a phase asks for more
abbrev pub ending_of : Found → Ending
ending_of found = if asks_for_more found then found.capture.ending else endings.Whole

-- the status of a run with that ending where no write fails
abbrev pub status_at : Ending → Status
status_at endings.Whole = status.Done
status_at (endings.Bad place kind) = status.BadCapture
status_at (endings.Large place) = status.TooLarge
status_at endings.ReadFault = status.ReadFault

-- the status that the files owe where no write fails and memory is there
abbrev pub due_status : Found → Status
due_status found = if is_over found.script then status.TooLarge else status_at (ending_of found)
