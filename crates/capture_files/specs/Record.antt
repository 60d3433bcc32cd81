-- The records of a capture file (pcap 2.4).
use Rattle.std.specs.Prelude.{ℕ, ◌+◌, ◌*◌, ◌≤◌, ◌==◌, ◌||◌, nat_lt, if◌then◌else◌, Bool, List, length, take, drop, Option, Some, None, Result, Ok, Err}
use Rattle.capture_files.specs.declared.header.Format.{Format}
use Rattle.capture_files.specs.declared.record.RecordHeader.{RecordHeader}
use Rattle.capture_files.specs.declared.record.Progress.{Progress}
use Rattle.capture_files.specs.declared.stop.Stop.{Stop}
use Rattle.capture_files.specs.declared.stop.Stop.TheVariants.{End, Bad, Large}
use Rattle.capture_files.specs.declared.stop.CaptureKind.TheVariants.{RecordCut, RecordLength}
use Rattle.capture_files.specs.Header.{number_of, is_nano}

-- one frame of a capture: its captured bytes, its stamp, and its length on the wire
pub record Frame : Type 0 where
  pub bytes : List ℕ
  pub seconds : ℕ
  pub part : ℕ
  pub nano : Bool
  pub wire_len : ℕ

-- a record's header, its first 16 bytes
abbrev pub record_header : Format → List ℕ → RecordHeader
record_header format bytes = record {
  stamp = record { seconds = number_of format 4 bytes; part = number_of format 4 (drop 4 bytes); nano = is_nano format };
  captured_len = number_of format 4 (drop 8 bytes);
  wire_len = number_of format 4 (drop 12 bytes);
}

-- the frame of a record with that header and those captured bytes
abbrev pub frame_of : RecordHeader → List ℕ → Frame
frame_of header captured = record {
  bytes = captured;
  seconds = header.stamp.seconds;
  part = header.stamp.part;
  nano = header.stamp.nano;
  wire_len = header.wire_len;
}

-- A record of more than 262,144 captured bytes is bad. One behind 1,048,576 frames, or with which the captured bytes pass
-- 1,073,741,824 together, makes the capture too large.
abbrev pub refusal_of : Progress → ℕ → Option Stop
refusal_of progress captured_len =
    if nat_lt 262144 captured_len then Some (Bad progress.place RecordLength)
    else if progress.frames == 1048576 || nat_lt 1073741824 (progress.captured + captured_len) then Some (Large progress.place)
    else None

-- the frame of a record with that header and the bytes behind it, where it isn't refused or cut
abbrev pub frame_behind : Option Stop → RecordHeader → Progress → List ℕ → Result Frame Stop
frame_behind (Some stop) header progress bytes = Err stop
frame_behind None header progress bytes =
    if nat_lt (length bytes) header.captured_len then Err (Bad progress.place RecordCut)
    else Ok (frame_of header (take header.captured_len bytes))

-- the frame of the record at the front of the bytes, or why there is none
abbrev pub record_at : Format → Progress → List ℕ → Result Frame Stop
record_at format progress bytes =
    if length bytes == 0 then Err End
    else if nat_lt (length bytes) 16 then Err (Bad progress.place RecordCut)
    else (let header = record_header format bytes in
    frame_behind (refusal_of progress header.captured_len) header progress (drop 16 bytes))

-- behind a record of that captured length
abbrev pub behind : Progress → ℕ → Progress
behind progress captured_len = record {
  place = progress.place + 16 + captured_len;
  frames = progress.frames + 1;
  captured = progress.captured + captured_len;
}

-- what a reader has come to while it stays within the limits
pub record IsWithinLimits (progress : Progress) : Type 0 where
  pub few_frames : progress.frames ≤ 1048576
  pub few_bytes : progress.captured ≤ 1073741824
  pub near : progress.place ≤ 24 + 16 * progress.frames + progress.captured
