-- The records of a file, one after the other.
use Rattle.std.proofs.Common.{◌≡◌, ℕ, zero, suc, ◌+◌, ◌≤◌, ◌<◌, List, [], ◌∷◌, ◌++◌, length, take, drop, None, Some, Result, Ok, Err, refl, sym, ap, ◌∙◌, subst, rules, arith, length-append, length-drop, le_refl, inl, inr}
use Rattle.std.proofs.lemmas.Bool.{cond-true, cond-false, le-ltb, lt-ltb, eq-eqb, ne_eqb, cases_eq}
use lib.Seq.{drop_at, take-append_seam, drop-append-add, drop-append_seam}
use Rattle.capture_files.specs.declared.header.Format.{Format}
use Rattle.capture_files.specs.declared.record.RecordHeader.{RecordHeader}
use Rattle.capture_files.specs.declared.record.Progress.{Progress}
use Rattle.capture_files.specs.declared.stop.Stop.{Stop}
use Rattle.capture_files.specs.declared.stop.Stop.TheVariants.{End, Bad}
use Rattle.capture_files.specs.declared.stop.CaptureKind.TheVariants.{RecordCut}
use Rattle.capture_files.specs.Record.{Frame, record_header, frame_of, refusal_of, frame_behind, record_at, behind}
use Rattle.capture_files.specs.Capture.{Capture, records_within, records_of, stopped, with_frame, then_or_stop}
use Rattle.capture_files.specs.Parts.{IsOpenStop, IsUnfinished}
use Rattle.capture_files.proofs.Headers.{record_header-front}

-- bytes that stop where more may come
pub unfinished : (capture : Capture) (stop : Stop) → capture ≡ stopped stop → IsOpenStop stop → IsUnfinished capture
unfinished capture stop is open_stop = subst IsUnfinished (sym is) (record { no_frame = refl; open_stop = open_stop })

-- ---- the record at the front

record_at-none : (format : Format) (progress : Progress) (bytes : List ℕ) → length bytes ≡ 0 → record_at format progress bytes ≡ Err End
record_at-none format progress bytes h = cond-true _ _ _ (eq-eqb (length bytes) 0 h)

record_at-short : (format : Format) (progress : Progress) (bytes : List ℕ) → 0 < length bytes → length bytes < 16
    → record_at format progress bytes ≡ Err (Bad progress.place RecordCut)
record_at-short format progress bytes some few =
    cond-false _ _ _ (ne_eqb (length bytes) 0 (λ e. omega arith)) ∙ cond-true _ _ _ (lt-ltb (length bytes) 16 few)

record_at-header : (format : Format) (progress : Progress) (header : RecordHeader) (xs ys : List ℕ) → length xs ≡ 16 → header ≡ record_header format xs
    → record_at format progress (xs ++ ys) ≡ frame_behind (refusal_of progress header.captured_len) header progress ys
record_at-header format progress header xs ys h is =
    let longer = length-append xs ys in
    cond-false _ _ _ (ne_eqb (length (xs ++ ys)) 0 (λ e. omega arith))
    ∙ cond-false _ _ _ (le-ltb (length (xs ++ ys)) 16 (omega arith))
    ∙ ap (λ r. frame_behind (refusal_of progress r.captured_len) r progress (drop 16 (xs ++ ys))) (record_header-front format xs ys h ∙ sym is)
    ∙ ap (frame_behind (refusal_of progress header.captured_len) header progress) (drop_at xs ys 16 h)

-- a record that isn't refused is short
pub refusal_of-none : (progress : Progress) (captured_len : ℕ) → refusal_of progress captured_len ≡ None → captured_len ≤ 262144
refusal_of-none progress captured_len allowed = search rules

-- ---- the records behind it

then_or_stop-same : {X : Type 0} (r : Result X Stop) (f g : X → Capture) → ((x : X) → f x ≡ g x) → then_or_stop r f ≡ then_or_stop r g
then_or_stop-same (Ok x) f g same = same x
then_or_stop-same (Err stop) f g same = refl

-- a frame in front of the records behind it
abbrev frame_within : ℕ → Format → Progress → List ℕ → Frame → Capture
frame_within fuel format progress bytes frame =
    with_frame frame (records_within fuel format (behind progress (length frame.bytes)) (drop (16 + length frame.bytes) bytes))

abbrev frame_then : Format → Progress → List ℕ → Frame → Capture
frame_then format progress bytes frame =
    with_frame frame (records_of format (behind progress (length frame.bytes)) (drop (16 + length frame.bytes) bytes))

-- where no byte is left the records end, whatever the fuel
records_within-none : (n : ℕ) (format : Format) (progress : Progress) (bytes : List ℕ) → length bytes ≤ 0 → records_within n format progress bytes ≡ stopped End
records_within-none zero format progress bytes h = refl
records_within-none (suc n) format progress bytes h =
    ap (λ r. then_or_stop r (frame_within n format progress bytes)) (record_at-none format progress bytes (omega arith))

-- any two amounts of fuel that reach as far as the bytes give the same records
records_within-enough : (n m : ℕ) (format : Format) (progress : Progress) (bytes : List ℕ) → length bytes ≤ n → length bytes ≤ m
    → records_within n format progress bytes ≡ records_within m format progress bytes
records_within-enough zero m format progress bytes h k = sym (records_within-none m format progress bytes h)
records_within-enough (suc n) zero format progress bytes h k = records_within-none (suc n) format progress bytes k
records_within-enough (suc n) (suc m) format progress bytes h k =
    then_or_stop-same (record_at format progress bytes) (frame_within n format progress bytes) (frame_within m format progress bytes) (λ frame.
    let less = length-drop (16 + length frame.bytes) bytes in
    ap (with_frame frame) (records_within-enough n m format (behind progress (length frame.bytes)) (drop (16 + length frame.bytes) bytes) (omega arith) (omega arith)))

-- The records of some bytes are the first, and then the records of the rest.
pub records_of-step : (format : Format) (progress : Progress) (bytes : List ℕ)
    → records_of format progress bytes ≡ then_or_stop (record_at format progress bytes) (frame_then format progress bytes)
unfolding records_of
records_of-step format progress [] = refl
records_of-step format progress (x ∷ xs) =
    then_or_stop-same (record_at format progress (x ∷ xs)) (frame_within (length xs) format progress (x ∷ xs)) (frame_then format progress (x ∷ xs)) (λ frame.
    let less = length-drop (16 + length frame.bytes) (x ∷ xs) in
    ap (with_frame frame) (records_within-enough (length xs) _ format (behind progress (length frame.bytes)) (drop (16 + length frame.bytes) (x ∷ xs)) (omega arith) (le_refl _)))

records_of-stop : (format : Format) (progress : Progress) (stop : Stop) (bytes : List ℕ) → record_at format progress bytes ≡ Err stop
    → records_of format progress bytes ≡ stopped stop
records_of-stop format progress stop bytes e =
    records_of-step format progress bytes ∙ ap (λ r. then_or_stop r (frame_then format progress bytes)) e

-- no byte is left
pub records_of-none : (format : Format) (progress : Progress) (bytes : List ℕ) → length bytes ≡ 0 → records_of format progress bytes ≡ stopped End
records_of-none format progress bytes h = records_of-stop format progress End bytes (record_at-none format progress bytes h)

-- some bytes are left, and fewer than a record's header has
pub records_of-short : (format : Format) (progress : Progress) (bytes : List ℕ) → 0 < length bytes → length bytes < 16
    → records_of format progress bytes ≡ stopped (Bad progress.place RecordCut)
records_of-short format progress bytes some few = records_of-stop format progress _ bytes (record_at-short format progress bytes some few)

-- the bytes of a record's header so far
pub records_of-unfinished : (format : Format) (progress : Progress) (bytes : List ℕ) → length bytes < 16 → IsUnfinished (records_of format progress bytes)
records_of-unfinished format progress bytes few =
    elim (cases_eq (length bytes) 0) [
      | inl none ↦ unfinished _ End (records_of-none format progress bytes none) tt
      | inr some ↦ unfinished _ _ (records_of-short format progress bytes (omega arith) few) tt
    ]

module _ (format : Format) (progress : Progress) (header : RecordHeader) (xs : List ℕ) (h : length xs ≡ 16) (is : header ≡ record_header format xs) where
  -- the record is refused
  pub records_of-refused : (stop : Stop) (ys : List ℕ) → refusal_of progress header.captured_len ≡ Some stop
      → records_of format progress (xs ++ ys) ≡ stopped stop
  records_of-refused stop ys refused =
      records_of-stop format progress stop (xs ++ ys)
      (record_at-header format progress header xs ys h is ∙ ap (λ o. frame_behind o header progress ys) refused)

  -- the record's captured bytes are cut
  pub records_of-cut : (ys : List ℕ) → refusal_of progress header.captured_len ≡ None → length ys < header.captured_len
      → records_of format progress (xs ++ ys) ≡ stopped (Bad progress.place RecordCut)
  records_of-cut ys allowed few =
      records_of-stop format progress _ (xs ++ ys)
      (record_at-header format progress header xs ys h is ∙ ap (λ o. frame_behind o header progress ys) allowed
      ∙ cond-true _ _ _ (lt-ltb (length ys) header.captured_len few))

  -- the record is whole
  pub records_of-frame : (ys zs : List ℕ) → refusal_of progress header.captured_len ≡ None → length ys ≡ header.captured_len
      → records_of format progress (xs ++ (ys ++ zs)) ≡ with_frame (frame_of header ys) (records_of format (behind progress header.captured_len) zs)
  records_of-frame ys zs allowed whole =
      let front : take header.captured_len (ys ++ zs) ≡ ys = subst (λ n. take n (ys ++ zs) ≡ ys) whole (take-append_seam ys zs) in
      let found : record_at format progress (xs ++ (ys ++ zs)) ≡ Ok (frame_of header ys) =
      record_at-header format progress header xs (ys ++ zs) h is ∙ ap (λ o. frame_behind o header progress (ys ++ zs)) allowed
      ∙ cond-false _ _ _ (le-ltb (length (ys ++ zs)) header.captured_len (omega (arith, length-append ys zs)))
      ∙ ap (λ l. Ok (frame_of header l)) front in
      let behind_it : drop (16 + length ys) (xs ++ (ys ++ zs)) ≡ zs =
      ap (λ k. drop (k + length ys) (xs ++ (ys ++ zs))) (sym h) ∙ drop-append-add xs (ys ++ zs) (length ys) ∙ drop-append_seam ys zs in
      records_of-step format progress (xs ++ (ys ++ zs)) ∙ ap (λ r. then_or_stop r (frame_then format progress (xs ++ (ys ++ zs)))) found
      ∙ ap (λ l. with_frame (frame_of header ys) (records_of format (behind progress (length ys)) l)) behind_it
      ∙ ap (λ n. with_frame (frame_of header ys) (records_of format (behind progress n) zs)) whole
