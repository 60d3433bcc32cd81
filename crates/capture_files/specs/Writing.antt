-- The bytes of a written capture: pcap 2.4, little-endian, with microseconds.
use Rattle.std.specs.Prelude.{ℕ, ◌/◌, ◌^◌, ◌<◌, ◌≤◌, false, if◌then◌else◌, List, ◌++◌, length, flat_map, sum_by, All}
use Rattle.byteorder.specs.Endian.{little_bytes}
use Rattle.capture_files.specs.declared.record.Stamp.{Stamp}
use Rattle.capture_files.specs.Record.{Frame}

-- magic, major and minor version, two fields that are 0, snap length, and link type Ethernet
unfoldable pub header_bytes : List ℕ
header_bytes =
    little_bytes 4 0xa1b2c3d4 ++ (little_bytes 2 2 ++ (little_bytes 2 4
    ++ (little_bytes 4 0 ++ (little_bytes 4 0 ++ (little_bytes 4 262144 ++ little_bytes 4 1)))))

-- the part of a stamp in whole microseconds
abbrev pub micros_of : Stamp → ℕ
micros_of stamp = if stamp.nano then stamp.part / 1000 else stamp.part

-- a record's header: seconds, microseconds, captured length and wire length
unfoldable pub record_head : Stamp → ℕ → ℕ → List ℕ
record_head stamp captured_len wire_len =
    little_bytes 4 stamp.seconds ++ (little_bytes 4 (micros_of stamp) ++ (little_bytes 4 captured_len ++ little_bytes 4 wire_len))

-- a record: its header, and the captured bytes
unfoldable pub record_bytes : Stamp → ℕ → List ℕ → List ℕ
record_bytes stamp wire_len bytes = record_head stamp (length bytes) wire_len ++ bytes

abbrev pub stamp_of : Frame → Stamp
stamp_of frame = record { seconds = frame.seconds; part = frame.part; nano = frame.nano }

-- the file of these frames
abbrev pub capture_bytes : List Frame → List ℕ
capture_bytes frames = header_bytes ++ flat_map (λ frame. record_bytes (stamp_of frame) frame.wire_len frame.bytes) frames

-- a frame whose numbers have four bytes each, and which is no longer than a record may be
pub record FitsRecord (frame : Frame) : Type 0 where
  pub seconds : frame.seconds < 2 ^ 32
  pub part : frame.part < 2 ^ 32
  pub wire_len : frame.wire_len < 2 ^ 32
  pub short : length frame.bytes ≤ 262144

-- frames that a capture may have
pub record FitCapture (frames : List Frame) : Type 0 where
  pub each : All FitsRecord frames
  pub few : length frames ≤ 1048576
  pub few_bytes : sum_by (λ frame. length frame.bytes) frames ≤ 1073741824

-- the frame with its stamp in whole microseconds
abbrev pub in_micros : Frame → Frame
in_micros frame = record {
  bytes = frame.bytes;
  seconds = frame.seconds;
  part = micros_of (stamp_of frame);
  nano = false;
  wire_len = frame.wire_len;
}
