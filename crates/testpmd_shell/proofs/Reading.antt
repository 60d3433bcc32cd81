-- What was read of a capture, behind one more answer of its reader.
use Rattle.std.proofs.Common.{◌≡◌, ℕ, true, false, List, [], ◌∷◌, ◌++◌, Option, None, Some, is_some, option_and_then, refl, sym, ap, ◌∙◌, subst, append_assoc, append-nil}
use Rattle.std.specs.Io.KnownBytes.{Consumes, prepend_known}
use Rattle.std.proofs.lemmas.List.{append_cancel_right}
use Rattle.capture_files.specs.declared.stop.Stop.{Stop}
use Rattle.capture_files.specs.Capture.{Capture, capture, stopped, with_frame}
use Rattle.capture_files.specs.Record.{Frame}
use Rattle.capture_files.specs.Parts.{Gave, IsUnfinished}
use Rattle.capture_files.specs.Reader.{ReaderState, opening, rest_of, told}
use Rattle.io_edges.specs.Lent.{all_bytes}
use Rattle.io_edges.specs.ShelfState.{SlotState}
use Rattle.testpmd_shell.specs.declared.feed.Feed.{Feed}
use Rattle.testpmd_shell.specs.Feed.{HasRead, HasEnded, in_front}

-- what was given out and what is left
record Splits (given left : Option (List ℕ)) : Type 0 where
  gone : List ℕ
  rest : List ℕ
  given_is : given ≡ Some gone
  left_is : left ≡ Some rest

some_of : (o : Option (List ℕ)) → is_some o ≡ true → (x : List ℕ) × (o ≡ Some x)
some_of None e = cc
some_of (Some x) e = (x, refl)

splits : (given left : Option (List ℕ)) → is_some given ≡ true → is_some left ≡ true → Splits given left
splits given left g l = let a = some_of given g in let b = some_of left l in record { gone = a.0; rest = b.0; given_is = a.1; left_is = b.1 }

joined : (given left : Option (List ℕ)) → Option (List ℕ)
joined given left = option_and_then (λ g. prepend_known g left) given

joined-splits : (given left : Option (List ℕ)) (a : Splits given left) → joined given left ≡ Some (a.gone ++ a.rest)
unfolding joined
joined-splits given left a = ap (λ o. option_and_then (λ g. prepend_known g left) o) a.given_is ∙ ap (prepend_known a.gone) a.left_is

same_some : (x y : List ℕ) (o : Option (List ℕ)) → o ≡ Some x → o ≡ Some y → x ≡ y
same_some x y o p q = cc

-- what was given out grew by what the source gave
grew : (given left given' left' : Option (List ℕ)) (more : List ℕ) (a : Splits given left) (b : Splits given' left')
    → joined given' left' ≡ joined given left → Consumes left left' more → b.gone ≡ a.gone ++ more
grew given left given' left' more a b same consumed =
    let known : a.rest ≡ more ++ b.rest =
    subst (λ x. Consumes (Some a.rest) x more) b.left_is (subst (λ x. Consumes x left' more) a.left_is consumed) in
    let all : b.gone ++ b.rest ≡ a.gone ++ a.rest =
    same_some (b.gone ++ b.rest) (a.gone ++ a.rest) (joined given' left') (joined-splits given' left' b) (same ∙ joined-splits given left a) in
    append_cancel_right b.gone (a.gone ++ more) b.rest (all ∙ ap (λ l. a.gone ++ l) known ∙ sym (append_assoc a.gone more b.rest))

-- what a loan of the slot tells of it
pub record Lends (slot slot' : SlotState) : Type 0 where
  pub given_told : is_some slot'.given ≡ is_some slot.given
  pub left_told : is_some slot'.left ≡ is_some slot.left
  pub bytes : all_bytes slot' ≡ all_bytes slot

told-given : (slot slot' : SlotState) (given : List ℕ) → Lends slot slot' → slot'.given ≡ Some given → is_some slot.left ≡ true
    → (gone : List ℕ) × (slot.given ≡ Some gone) × ((more : List ℕ) → Consumes slot.left slot'.left more → given ≡ gone ++ more)
unfolding joined
told-given slot slot' given lends is known =
    let was : is_some slot.given ≡ true = sym lends.given_told ∙ ap is_some is in
    let a = splits slot.given slot.left was known in
    let b = splits slot'.given slot'.left (ap is_some is) (lends.left_told ∙ known) in (
      a.gone,
      a.given_is,
      λ more consumed. same_some given b.gone slot'.given is b.given_is ∙ grew slot.given slot.left slot'.given slot'.left more a b lends.bytes consumed,
    )

one_more : (frames : List Frame) (frame : Frame) (others : Capture) → in_front frames (with_frame frame others) ≡ in_front (frames ++ frame ∷ []) others
one_more frames frame others = ap (λ l. record { frames = l; stop = others.stop }) (sym (append_assoc frames (frame ∷ []) others.frames))

-- a frame was read
pub HasRead-frame : (feed feed' : Feed) (slot slot' : SlotState) (content : List ℕ) (frames : List Frame) (frame : Frame)
    → HasRead feed slot content frames → feed.reader.ended ≡ false → feed'.reader.ended ≡ false → Lends slot slot'
    → rest_of feed.reader (told slot.left) ≡ with_frame frame (rest_of feed'.reader (told slot'.left))
    → Gave slot.left slot'.left (λ given. (rest : List ℕ) → rest_of feed.reader (given ++ rest) ≡ with_frame frame (rest_of feed'.reader rest))
    → HasRead feed' slot' content (frames ++ frame ∷ [])
HasRead-frame feed feed' slot slot' content frames frame has running running' lends tells gave = record {
  known = lends.left_told ∙ has.known;
  running = λ going. has.running running ∙ ap (in_front frames) tells ∙ one_more frames frame (rest_of feed'.reader (told slot'.left));
  given = λ going given is rest.
      let was = told-given slot slot' given lends is has.known in
      ap (λ g. capture (g ++ rest)) (was.2 gave.given gave.consumed) ∙ ap capture (append_assoc was.0 gave.given rest)
      ∙ has.given running was.0 was.1 (gave.given ++ rest)
      ∙ ap (in_front frames) (gave.holds rest)
      ∙ one_more frames frame (rest_of feed'.reader rest);
  ended = λ ended. cc;
}

-- the reader stopped
pub capture-stopped : (feed : Feed) (slot : SlotState) (content : List ℕ) (frames : List Frame) (stop : Stop)
    → HasRead feed slot content frames → feed.reader.ended ≡ false → rest_of feed.reader (told slot.left) ≡ stopped stop
    → capture content ≡ record { frames = frames; stop = stop }
capture-stopped feed slot content frames stop has running tells =
    has.running running ∙ ap (in_front frames) tells ∙ ap (λ l. record { frames = l; stop = stop }) (append-nil frames)

-- the source failed
pub capture-failed : (feed : Feed) (slot slot' : SlotState) (content : List ℕ) (frames : List Frame)
    → HasRead feed slot content frames → feed.reader.ended ≡ false → Lends slot slot'
    → Gave slot.left slot'.left (λ given. IsUnfinished (rest_of feed.reader given))
    → (given : List ℕ) → slot'.given ≡ Some given → (capture given).frames ≡ frames
capture-failed feed slot slot' content frames has running lends gave given is =
    let was = told-given slot slot' given lends is has.known in
    ap (λ g. (capture g).frames) (was.2 gave.given gave.consumed)
    ∙ ap (λ (c : Capture). c.frames) (has.given running was.0 was.1 gave.given)
    ∙ ap (λ l. frames ++ l) gave.holds.no_frame
    ∙ append-nil frames

-- the capture has ended
pub HasRead-ended : (feed feed' : Feed) (slot slot' : SlotState) (content : List ℕ) (frames : List Frame)
    → HasRead feed slot content frames → feed'.reader.ended ≡ true → Lends slot slot' → HasEnded feed'.ending slot' content frames
    → HasRead feed' slot' content frames
HasRead-ended feed feed' slot slot' content frames has ended lends now = record {
  known = lends.left_told ∙ has.known;
  running = λ going. cc;
  given = λ going. cc;
  ended = λ e. now;
}

-- nothing was read so far
pub HasRead-none : (feed : Feed) (slot : SlotState) (content : List ℕ) → feed.reader ≡ opening → ((gone : List ℕ) → slot.given ≡ Some gone → gone ≡ []) → slot.left ≡ Some content
    → HasRead feed slot content []
HasRead-none feed slot content fresh given left = record {
  known = ap is_some left;
  running = λ going. ap (λ r. in_front [] (rest_of r content)) (sym fresh) ∙ ap (λ o. in_front [] (rest_of feed.reader (told o))) (sym left);
  given = λ going gone is rest. ap (λ g. capture (g ++ rest)) (given gone is) ∙ ap (λ r. in_front [] (rest_of r rest)) (sym fresh);
  ended = λ ended. absurd (not_ended ended);
} where
  not_ended : feed.reader.ended ≡ true → ⊥
  not_ended ended = let was : feed.reader.ended ≡ false = ap (λ (r : ReaderState). r.ended) fresh in cc
