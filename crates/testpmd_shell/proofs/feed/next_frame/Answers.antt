use Rattle.std.proofs.Common.{◌≡◌, ℕ, List, [], ◌∷◌, ◌++◌, length, take, drop, refl, sym, subst, ap, ◌∙◌, arith}
use lib.Seq.{take-append_seam}
use Rattle.capture_files.specs.Reader.{shown_frame}
use Rattle.std.specs.Prelude.{Option, None, Some, is_some, IsSome, true}
use Rattle.io_edges.specs.declared.shelf.Slot.TheVariants.{Capture}
use Rattle.io_edges.specs.ShelfState.{ShelfState, SlotState}
use Rattle.io_edges.specs.Lent.{KeepsSlot}
use Rattle.capture_files.specs.declared.record.Stamp.{Stamp}
use Rattle.capture_files.specs.Record.{Frame}
use Rattle.testpmd_shell.specs.declared.feed.Feed.{Feed}
use Rattle.testpmd_shell.specs.Feed.{HasEnded, HasRead, frame_in}
use Rattle.testpmd_shell.proofs.Reading.{Lends, HasRead-frame, HasRead-ended, capture-failed, capture-stopped}
use Rattle.capture_files.specs.declared.stop.Stop.TheVariants as stops
use Rattle.testpmd_shell.proofs.feed.next_frame.Goals as goal

lends : {s t : ShelfState} → KeepsSlot Capture s t → Lends s.capture t.capture
lends keeps = record { given_told = keeps.given_told; left_told = keeps.left_told; bytes = keeps.bytes }

is_some-told : (o : Option (List ℕ)) → is_some o ≡ true → IsSome o
is_some-told None e = cc
is_some-told (Some x) e = refl

-- the front of a buffer that was lent whole
front-lent : (xs ys : List ℕ) (len n : ℕ) → n ≡ length xs → take len xs ≡ take len (take n (xs ++ drop (length xs) ys))
front-lent xs ys len n same = ap (take len) (sym (ap (λ m. take m (xs ++ drop (length xs) ys)) same ∙ take-append_seam xs (drop (length xs) ys)))

-- the frame that is shown is the one that arrived in those bytes
read-shown : (feed : Feed) (slot : SlotState) (content : List ℕ) (frames : List Frame) (len wire_len : ℕ) (stamp : Stamp) (buffer bytes : List ℕ)
    → take len buffer ≡ bytes → HasRead feed slot content (frames ++ shown_frame len wire_len stamp buffer ∷ [])
    → HasRead feed slot content (frames ++ frame_in (record { len = len; wire_len = wire_len; stamp = stamp }) bytes ∷ [])
read-shown feed slot content frames len wire_len stamp buffer bytes same has =
    subst (λ (bs : List ℕ). HasRead feed slot content (frames ++ frame_in (record { len = len; wire_len = wire_len; stamp = stamp }) bs ∷ [])) same has

pub returns-in-Frame-clause-reads : goal.returns-in-Frame-clause-reads
returns-in-Frame-clause-reads g c content frames has =
    read-shown _ (g.S.Shelf.state c.next_record.new.shelf).capture content frames c.in-Frame.len c.in-Frame.wire_len c.in-Frame.stamp c.next_record.new.buffer _
    (front-lent c.next_record.new.buffer c.args.feed.now.buffer.items c.in-Frame.len c.args.feed.now.buffer.len (omega (arith, c.deref_mut.ensures.len, c.next_record.auto.buffer)))
    (HasRead-frame c.args.feed.now _ (g.S.Shelf.state c.args.shelf.now).capture (g.S.Shelf.state c.next_record.new.shelf).capture content frames _ has c.requires.running c.in-Frame.ensures.ended
    (lends c.in-Frame.ensures.keeps) (c.in-Frame.ensures.rest (is_some-told _ has.known)) c.in-Frame.ensures.given)

pub returns-in-ReadFault-clause-reads : goal.returns-in-ReadFault-clause-reads
returns-in-ReadFault-clause-reads g c content frames has =
    HasRead-ended c.args.feed.now _ (g.S.Shelf.state c.args.shelf.now).capture (g.S.Shelf.state c.next_record.new.shelf).capture content frames has c.in-ReadFault.ensures.ended (lends c.in-ReadFault.ensures.keeps)
    (capture-failed c.args.feed.now (g.S.Shelf.state c.args.shelf.now).capture (g.S.Shelf.state c.next_record.new.shelf).capture content frames has c.requires.running (lends c.in-ReadFault.ensures.keeps) c.in-ReadFault.ensures.given)

pub returns-in-End-clause-reads : goal.returns-in-End-clause-reads
returns-in-End-clause-reads g c content frames has =
    HasRead-ended c.args.feed.now _ (g.S.Shelf.state c.args.shelf.now).capture (g.S.Shelf.state c.next_record.new.shelf).capture content frames has c.in-End.ensures.ended (lends c.in-End.ensures.keeps)
    (subst (λ ending. HasEnded ending (g.S.Shelf.state c.next_record.new.shelf).capture content frames) (sym (c.requires.ready.going_on c.requires.running))
    (capture-stopped c.args.feed.now (g.S.Shelf.state c.args.shelf.now).capture content frames stops.End has c.requires.running (c.in-End.ensures.rest (is_some-told _ has.known))))

pub returns-in-Bad-clause-reads : goal.returns-in-Bad-clause-reads
returns-in-Bad-clause-reads g c content frames has =
    HasRead-ended c.args.feed.now _ (g.S.Shelf.state c.args.shelf.now).capture (g.S.Shelf.state c.next_record.new.shelf).capture content frames has c.in-Bad.ensures.ended (lends c.in-Bad.ensures.keeps)
    (capture-stopped c.args.feed.now (g.S.Shelf.state c.args.shelf.now).capture content frames (stops.Bad c.in-Bad.place c.in-Bad.kind) has c.requires.running (c.in-Bad.ensures.rest (is_some-told _ has.known)))

pub returns-in-Large-clause-reads : goal.returns-in-Large-clause-reads
returns-in-Large-clause-reads g c content frames has =
    HasRead-ended c.args.feed.now _ (g.S.Shelf.state c.args.shelf.now).capture (g.S.Shelf.state c.next_record.new.shelf).capture content frames has c.in-Large.ensures.ended (lends c.in-Large.ensures.keeps)
    (capture-stopped c.args.feed.now (g.S.Shelf.state c.args.shelf.now).capture content frames (stops.Large c.in-Large.place) has c.requires.running (c.in-Large.ensures.rest (is_some-told _ has.known)))
