-- The frames of a file's front are the first of the file's frames.
use Rattle.std.proofs.Common.{◌≡◌, ℕ, zero, suc, ◌≤◌, ◌<◌, List, ◌∷◌, ◌++◌, length, take, drop, Option, None, Some, Result, Ok, Err, refl, sym, ap, ◌∙◌, subst, arith, length-drop, append_assoc, inl, inr, le_refl, nat_lt, Bool, true, false}
use Rattle.std.specs.Prelude.{◌⊎◌}
use Rattle.std.proofs.lemmas.Bool.{ltb-true, ltb-false}
use Rattle.std.proofs.lemmas.List.{take-append-drop, length-take-le}
use Rattle.capture_files.specs.declared.header.Format.{Format}
use Rattle.capture_files.specs.declared.record.RecordHeader.{RecordHeader}
use Rattle.capture_files.specs.declared.record.Progress.{Progress}
use Rattle.capture_files.specs.declared.stop.Stop.{Stop}
use Rattle.capture_files.specs.Header.{header_of}
use Rattle.capture_files.specs.Record.{Frame, record_header, frame_of, refusal_of, behind}
use Rattle.capture_files.specs.Capture.{Capture, ComeFirst, records_of, stopped, with_frame, start, capture}
use Rattle.capture_files.proofs.Headers.{capture_from-records, capture_from-stop, capture_from-cut}
use Rattle.capture_files.proofs.Records.{records_of-unfinished, records_of-refused, records_of-cut, records_of-frame}

-- a file without frames
first-stopped : (c d : Capture) (stop : Stop) → c ≡ stopped stop → ComeFirst c.frames d.frames
first-stopped c d stop is = (d.frames, ap (λ (e : Capture). e.frames ++ d.frames) (sym is))

-- one more frame in front
first-frame : (c d c' d' : Capture) (frame : Frame) → c ≡ with_frame frame c' → d ≡ with_frame frame d' → ComeFirst c'.frames d'.frames → ComeFirst c.frames d.frames
first-frame c d c' d' frame e f first =
    (first.0, ap (λ (x : Capture). x.frames) f ∙ ap (λ fs. frame ∷ fs) first.1 ∙ ap (λ (x : Capture). x.frames ++ first.0) (sym e))

split : (n m : ℕ) → (n < m) ⊎ (m ≤ n)
split n m = by (nat_lt n m) refl where
  by : (b : Bool) → nat_lt n m ≡ b → (n < m) ⊎ (m ≤ n)
  by true e = inl (ltb-true n m e)
  by false e = inr (ltb-false n m e)

-- what stands in front of a place and behind it
parted : (n : ℕ) (bytes : List ℕ) → bytes ≡ take n bytes ++ drop n bytes
parted n bytes = sym (take-append-drop n bytes)

-- the frames of a front of records come first, where the front has at most so many bytes
abbrev Firsts : List ℕ → ℕ → Type 0
Firsts more n = (format : Format) (progress : Progress) (bytes : List ℕ) → length bytes ≤ n
    → ComeFirst (records_of format progress bytes).frames (records_of format progress (bytes ++ more)).frames

-- a front that ends in a record's header
header-cut : (format : Format) (progress : Progress) (bytes more : List ℕ) → length bytes < 16
    → ComeFirst (records_of format progress bytes).frames (records_of format progress (bytes ++ more)).frames
header-cut format progress bytes more few =
    let all = (records_of format progress (bytes ++ more)).frames in
    (all, ap (λ fs. fs ++ all) (sym (records_of-unfinished format progress bytes few).no_frame))

-- a front that has a record's header
header-first : (more : List ℕ) (n : ℕ) → Firsts more n → (format : Format) (progress : Progress) (xs ys : List ℕ) → length xs ≡ 16 → length ys ≤ n
    → ComeFirst (records_of format progress (xs ++ ys)).frames (records_of format progress ((xs ++ ys) ++ more)).frames
header-first more n next format progress xs ys h short = by (refusal_of progress header.captured_len) refl where
  header : RecordHeader
  header = record_header format xs

  count : ℕ
  count = header.captured_len

  P : List ℕ → Type 0
  P y = ComeFirst (records_of format progress (xs ++ y)).frames (records_of format progress ((xs ++ y) ++ more)).frames

  whole : refusal_of progress count ≡ None → (cs zs : List ℕ) → length cs ≡ count → length zs ≤ n → P (cs ++ zs)
  whole allowed cs zs full few =
      let assoc : (xs ++ (cs ++ zs)) ++ more ≡ xs ++ (cs ++ (zs ++ more)) = append_assoc xs (cs ++ zs) more ∙ ap (λ l. xs ++ l) (append_assoc cs zs more) in
      first-frame (records_of format progress (xs ++ (cs ++ zs))) (records_of format progress ((xs ++ (cs ++ zs)) ++ more))
      (records_of format (behind progress count) zs) (records_of format (behind progress count) (zs ++ more)) (frame_of header cs)
      (records_of-frame format progress header xs h refl cs zs allowed full)
      (ap (records_of format progress) assoc ∙ records_of-frame format progress header xs h refl cs (zs ++ more) allowed full)
      (next format (behind progress count) zs few)

  by : (o : Option Stop) → refusal_of progress count ≡ o → P ys
  by (Some stop) e = first-stopped (records_of format progress (xs ++ ys)) (records_of format progress ((xs ++ ys) ++ more)) stop (records_of-refused format progress header xs h refl stop ys e)
  by None e = elim (split (length ys) count) [
    | inl few ↦ first-stopped (records_of format progress (xs ++ ys)) (records_of format progress ((xs ++ ys) ++ more)) _ (records_of-cut format progress header xs h refl ys e few)
    | inr enough ↦ subst P (sym (parted count ys)) (whole e (take count ys) (drop count ys) (length-take-le count ys enough) (omega (arith, length-drop count ys)))
  ]

records-first : (more : List ℕ) (n : ℕ) → Firsts more n
records-first more zero = λ format progress bytes short. header-cut format progress bytes more (omega arith)
records-first more (suc n) = λ format progress bytes short. elim (split (length bytes) 16) [
  | inl few ↦ header-cut format progress bytes more few
  | inr enough ↦
      let P : List ℕ → Type 0 = λ b. ComeFirst (records_of format progress b).frames (records_of format progress (b ++ more)).frames in
      subst P (sym (parted 16 bytes)) (header-first more n (records-first more n) format progress (take 16 bytes) (drop 16 bytes)
      (length-take-le 16 bytes enough) (omega (arith, length-drop 16 bytes)))
]

-- a file's header, and the records behind it
file-first : (more xs ys : List ℕ) → length xs ≡ 24 → ComeFirst (capture (xs ++ ys)).frames (capture ((xs ++ ys) ++ more)).frames
file-first more xs ys h = by (header_of xs) refl where
  by : (r : Result Format Stop) → header_of xs ≡ r → ComeFirst (capture (xs ++ ys)).frames (capture ((xs ++ ys) ++ more)).frames
  by (Err stop) e = first-stopped (capture (xs ++ ys)) (capture ((xs ++ ys) ++ more)) stop (capture_from-stop start stop xs ys h e)
  by (Ok format) e =
      let front : capture (xs ++ ys) ≡ records_of format start ys = capture_from-records start format xs ys h e in
      let all : capture ((xs ++ ys) ++ more) ≡ records_of format start (ys ++ more) =
      ap capture (append_assoc xs ys more) ∙ capture_from-records start format xs (ys ++ more) h e in
      let P : Capture → Type 0 = λ c. ComeFirst c.frames (capture ((xs ++ ys) ++ more)).frames in
      let Q : Capture → Type 0 = λ d. ComeFirst (records_of format start ys).frames d.frames in
      subst P (sym front) (subst Q (sym all) (records-first more (length ys) format start ys (le_refl (length ys))))

pub capture-first : (front rest : List ℕ) → ComeFirst (capture front).frames (capture (front ++ rest)).frames
capture-first front rest = elim (split (length front) 24) [
  | inl few ↦ first-stopped (capture front) (capture (front ++ rest)) _ (capture_from-cut start front few)
  | inr enough ↦
      let P : List ℕ → Type 0 = λ b. ComeFirst (capture b).frames (capture (b ++ rest)).frames in
      subst P (sym (parted 24 front)) (file-first rest (take 24 front) (drop 24 front) (length-take-le 24 front enough))
]
