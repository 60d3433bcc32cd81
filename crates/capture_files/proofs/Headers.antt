-- The headers of a file and of a record are told by their own bytes, whatever comes behind.
use Rattle.std.proofs.Common.{◌≡◌, ℕ, ◌+◌, ◌≤◌, ◌<◌, List, ◌++◌, length, drop, Option, None, Some, Ok, Err, refl, sym, ap, ◌∙◌, arith, length-append, length-drop}
use Rattle.std.proofs.lemmas.Bool.{cond-true, cond-false, le-ltb, lt-ltb}
use lib.Seq.{drop-append-le, drop_at}
use Rattle.byteorder.specs.Numbers.{little_from-append, big_from-append}
use Rattle.capture_files.specs.declared.header.Format.{Format}
use Rattle.capture_files.specs.declared.header.Format.TheVariants.{LittleMicros, LittleNanos, BigMicros, BigNanos}
use Rattle.capture_files.specs.declared.record.Progress.{Progress}
use Rattle.capture_files.specs.declared.stop.Stop.{Stop}
use Rattle.capture_files.specs.declared.stop.Stop.TheVariants.{Bad}
use Rattle.capture_files.specs.declared.stop.CaptureKind.TheVariants.{HeaderCut}
use Rattle.capture_files.specs.Header.{number_of, format_of, header_behind, header_of}
use Rattle.capture_files.specs.Record.{record_header}
use Rattle.capture_files.specs.Capture.{capture_from, records_of, stopped, then_or_stop}

number_of-front : (format : Format) (n : ℕ) (xs ys : List ℕ) → n ≤ length xs → number_of format n (xs ++ ys) ≡ number_of format n xs
unfolding number_of
number_of-front LittleMicros n xs ys h = little_from-append n xs ys h
number_of-front LittleNanos n xs ys h = little_from-append n xs ys h
number_of-front BigMicros n xs ys h = big_from-append n xs ys h
number_of-front BigNanos n xs ys h = big_from-append n xs ys h

number_of-drop : (format : Format) (n k : ℕ) (xs ys : List ℕ) → k + n ≤ length xs → number_of format n (drop k (xs ++ ys)) ≡ number_of format n (drop k xs)
number_of-drop format n k xs ys h =
    ap (number_of format n) (drop-append-le k xs ys (omega arith)) ∙ number_of-front format n (drop k xs) ys (omega (arith, length-drop k xs))

pub record_header-front : (format : Format) (xs ys : List ℕ) → length xs ≡ 16 → record_header format (xs ++ ys) ≡ record_header format xs
record_header-front format xs ys h =
    let a = number_of-front format 4 xs ys (omega arith) in
    let b = number_of-drop format 4 4 xs ys (omega arith) in
    let c = number_of-drop format 4 8 xs ys (omega arith) in
    let d = number_of-drop format 4 12 xs ys (omega arith) in
    cc

header_behind-front : (o : Option Format) (xs ys : List ℕ) → length xs ≡ 24 → header_behind o (xs ++ ys) ≡ header_behind o xs
header_behind-front None xs ys h = refl
header_behind-front (Some format) xs ys h =
    let a = number_of-drop format 2 4 xs ys (omega arith) in
    let b = number_of-drop format 2 6 xs ys (omega arith) in
    let c = number_of-drop format 4 20 xs ys (omega arith) in
    cc

header_of-front : (xs ys : List ℕ) → length xs ≡ 24 → header_of (xs ++ ys) ≡ header_of xs
header_of-front xs ys h =
    let little = number_of-front LittleMicros 4 xs ys (omega arith) in
    let big = number_of-front BigMicros 4 xs ys (omega arith) in
    let same : format_of (xs ++ ys) ≡ format_of xs = cc in
    cond-false _ _ _ (le-ltb (length (xs ++ ys)) 24 (omega (arith, length-append xs ys)))
    ∙ ap (λ o. header_behind o (xs ++ ys)) same
    ∙ header_behind-front (format_of xs) xs ys h
    ∙ sym (cond-false _ _ _ (le-ltb (length xs) 24 (omega arith)))

-- a file with a good header has its records behind it
pub capture_from-records : (progress : Progress) (format : Format) (xs ys : List ℕ) → length xs ≡ 24 → header_of xs ≡ Ok format
    → capture_from progress (xs ++ ys) ≡ records_of format progress ys
unfolding capture_from
capture_from-records progress format xs ys h good =
    ap (λ r. then_or_stop r (λ f. records_of f progress (drop 24 (xs ++ ys)))) (header_of-front xs ys h ∙ good)
    ∙ ap (records_of format progress) (drop_at xs ys 24 h)

-- a file with a bad header has that stop
pub capture_from-stop : (progress : Progress) (stop : Stop) (xs ys : List ℕ) → length xs ≡ 24 → header_of xs ≡ Err stop
    → capture_from progress (xs ++ ys) ≡ stopped stop
unfolding capture_from
capture_from-stop progress stop xs ys h bad =
    ap (λ r. then_or_stop r (λ f. records_of f progress (drop 24 (xs ++ ys)))) (header_of-front xs ys h ∙ bad)

-- a file of fewer bytes than a header is cut
pub capture_from-cut : (progress : Progress) (xs : List ℕ) → length xs < 24 → capture_from progress xs ≡ stopped (Bad 0 HeaderCut)
unfolding capture_from
capture_from-cut progress xs h =
    ap (λ r. then_or_stop r (λ f. records_of f progress (drop 24 xs))) (cond-true _ _ _ (lt-ltb (length xs) 24 h))
