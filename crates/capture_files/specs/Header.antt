-- The header of a capture file (pcap 2.4).
use Rattle.std.specs.Prelude.{ℕ, ◌%◌, Bool, true, false, not, ◌&&◌, ◌==◌, nat_lt, if◌then◌else◌, List, length, drop, Option, Some, None, Result, Ok, Err}
use Rattle.byteorder.specs.Endian.{little_number, big_number}
use Rattle.capture_files.specs.declared.header.Format.{Format}
use Rattle.capture_files.specs.declared.header.Format.TheVariants.{LittleMicros, LittleNanos, BigMicros, BigNanos}
use Rattle.capture_files.specs.declared.stop.Stop.{Stop}
use Rattle.capture_files.specs.declared.stop.Stop.TheVariants.{Bad}
use Rattle.capture_files.specs.declared.stop.CaptureKind.TheVariants.{HeaderCut, Magic, Version, LinkType}

-- the number in the first n bytes
unfoldable pub number_of : Format → ℕ → List ℕ → ℕ
number_of LittleMicros n bytes = little_number n bytes
number_of LittleNanos n bytes = little_number n bytes
number_of BigMicros n bytes = big_number n bytes
number_of BigNanos n bytes = big_number n bytes

-- whether a stamp's part counts nanoseconds
abbrev pub is_nano : Format → Bool
is_nano LittleMicros = false
is_nano LittleNanos = true
is_nano BigMicros = false
is_nano BigNanos = true

-- the form that the magic tells, which is the number in the first four bytes, the lowest first or the highest first
abbrev pub format_with : ℕ → ℕ → Option Format
format_with little big =
    if little == 0xa1b2c3d4 then Some LittleMicros
    else if little == 0xa1b23c4d then Some LittleNanos
    else if big == 0xa1b2c3d4 then Some BigMicros
    else if big == 0xa1b23c4d then Some BigNanos
    else None

abbrev pub format_of : List ℕ → Option Format
format_of bytes = format_with (number_of LittleMicros 4 bytes) (number_of BigMicros 4 bytes)

-- major version 2 in the two bytes from 4, minor version 4 in those from 6
abbrev pub is_version_2_4 : Format → List ℕ → Bool
is_version_2_4 format bytes = number_of format 2 (drop 4 bytes) == 2 && number_of format 2 (drop 6 bytes) == 4

-- link type 1 in the low 16 bits of the four bytes from 20
abbrev pub is_ethernet : Format → List ℕ → Bool
is_ethernet format bytes = number_of format 4 (drop 20 bytes) % 65536 == 1

-- what the header of a file with that magic tells
abbrev pub header_behind : Option Format → List ℕ → Result Format Stop
header_behind None bytes = Err (Bad 0 Magic)
header_behind (Some format) bytes =
    if not (is_version_2_4 format bytes) then Err (Bad 4 Version)
    else if not (is_ethernet format bytes) then Err (Bad 20 LinkType)
    else Ok format

-- the form that a file's header tells, or the first thing that is wrong with it
abbrev pub header_of : List ℕ → Result Format Stop
header_of bytes = if nat_lt (length bytes) 24 then Err (Bad 0 HeaderCut) else header_behind (format_of bytes) bytes
