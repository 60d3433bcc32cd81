-- What was written is read.
use Rattle.std.proofs.Common.{◌≡◌, ℕ, suc, ◌+◌, ◌^◌, ◌≤◌, ◌<◌, List, [], ◌∷◌, ◌++◌, length, map, false, None, Ok, refl, sym, ap, ◌∙◌, rules, arith, append_assoc, All}
use Rattle.std.specs.List.{flat_map, sum_by}
use Rattle.std.proofs.lemmas.List.Sums.{sum_by-cons}
use Rattle.byteorder.specs.Endian.{little_bytes}
use Rattle.byteorder.specs.Numbers.{little_number-reads_back}
use Rattle.capture_files.specs.declared.header.Format.TheVariants.{LittleMicros}
use Rattle.capture_files.specs.declared.record.RecordHeader.{RecordHeader}
use Rattle.capture_files.specs.declared.record.Progress.{Progress}
use Rattle.capture_files.specs.declared.record.Stamp.{Stamp}
use Rattle.capture_files.specs.declared.stop.Stop.TheVariants.{End}
use Rattle.capture_files.specs.Header.{number_of, header_of}
use Rattle.capture_files.specs.Record.{Frame, record_header, refusal_of, behind}
use Rattle.capture_files.specs.Capture.{records_of, with_frame, start, capture}
use Rattle.capture_files.specs.Writing.{header_bytes, micros_of, record_head, record_bytes, stamp_of, capture_bytes, FitsRecord, FitCapture, in_micros}
use Rattle.capture_files.proofs.Headers.{capture_from-records}
use Rattle.capture_files.proofs.Records.{records_of-none, records_of-frame}

-- a number of four bytes is read back, whatever comes behind
read_back : (n : ℕ) (rest : List ℕ) → n < 2 ^ 32 → number_of LittleMicros 4 (little_bytes 4 n ++ rest) ≡ n
unfolding number_of
read_back n rest fits = little_number-reads_back 4 n rest fits

-- what a written record's header says
abbrev header_with : ℕ → ℕ → ℕ → ℕ → RecordHeader
header_with seconds part captured_len wire_len = record {
  stamp = record { seconds = seconds; part = part; nano = false };
  captured_len = captured_len;
  wire_len = wire_len;
}

header_with-same : {s s' p p' c c' w w' : ℕ} → s ≡ s' → p ≡ p' → c ≡ c' → w ≡ w' → header_with s p c w ≡ header_with s' p' c' w'
header_with-same a b c d = cc

record_head-read : (stamp : Stamp) (captured_len wire_len : ℕ) → stamp.seconds < 2 ^ 32 → micros_of stamp < 2 ^ 32 → captured_len < 2 ^ 32 → wire_len < 2 ^ 32
    → record_header LittleMicros (record_head stamp captured_len wire_len) ≡ header_with stamp.seconds (micros_of stamp) captured_len wire_len
unfolding record_head
record_head-read stamp captured_len wire_len a b c d =
    header_with-same (read_back stamp.seconds _ a) (read_back (micros_of stamp) _ b) (read_back captured_len _ c) (read_back wire_len [] d)

record_head-len : (stamp : Stamp) (captured_len wire_len : ℕ) → length (record_head stamp captured_len wire_len) ≡ 16
unfolding record_head
record_head-len stamp captured_len wire_len = refl

-- whole microseconds are no more than nanoseconds
micros_of-fits : (stamp : Stamp) → stamp.part < 2 ^ 32 → micros_of stamp < 2 ^ 32
micros_of-fits stamp fits = search rules

-- a record within the limits isn't refused
refusal_of-within : (progress : Progress) (len : ℕ) → len ≤ 262144 → progress.frames < 1048576 → progress.captured + len ≤ 1073741824
    → refusal_of progress len ≡ None
refusal_of-within progress len short few small = search rules

abbrev frame_bytes : Frame → List ℕ
frame_bytes frame = record_bytes (stamp_of frame) frame.wire_len frame.bytes

records-written : (frames : List Frame) (progress : Progress) → All FitsRecord frames → progress.frames + length frames ≤ 1048576
    → progress.captured + sum_by (λ frame. length frame.bytes) frames ≤ 1073741824
    → records_of LittleMicros progress (flat_map frame_bytes frames) ≡ record { frames = map in_micros frames; stop = End }
unfolding record_bytes
records-written [] progress each few small = records_of-none LittleMicros progress [] refl
records-written (frame ∷ frames) progress each few small =
    let fits : FitsRecord frame = each 0 frame (omega arith) in
    let short = fits.short in
    let len = length frame.bytes in
    let head = record_head (stamp_of frame) len frame.wire_len in
    let split = sum_by-cons (λ (frame : Frame). length frame.bytes) frame frames in
    let header = header_with frame.seconds (micros_of (stamp_of frame)) len frame.wire_len in
    let is : header ≡ record_header LittleMicros head =
    sym (record_head-read (stamp_of frame) len frame.wire_len fits.seconds (micros_of-fits (stamp_of frame) fits.part) (omega arith) fits.wire_len) in
    ap (records_of LittleMicros progress) (append_assoc head frame.bytes (flat_map frame_bytes frames))
    ∙ records_of-frame LittleMicros progress header head (record_head-len (stamp_of frame) len frame.wire_len) is
    frame.bytes (flat_map frame_bytes frames) (refusal_of-within progress len short (omega arith) (omega arith)) refl
    ∙ ap (with_frame (in_micros frame)) (records-written frames (behind progress len) (λ k d within. each (suc k) d (omega arith)) (omega arith) (omega arith))

header-read : header_of header_bytes ≡ Ok LittleMicros
unfolding header_bytes number_of
header-read = refl

header_bytes-len : length header_bytes ≡ 24
unfolding header_bytes
header_bytes-len = refl

pub capture-written : (frames : List Frame) → FitCapture frames → capture (capture_bytes frames) ≡ record { frames = map in_micros frames; stop = End }
capture-written frames fit =
    let few = fit.few in
    let few_bytes = fit.few_bytes in
    capture_from-records start LittleMicros header_bytes (flat_map frame_bytes frames) header_bytes-len header-read
    ∙ records-written frames start fit.each (omega arith) (omega arith)
