use Rattle.std.proofs.Common.{rules, ◌≡◌, ◌∙◌, ◌<◌, ◌+◌, ◌++◌, get_or, length, map, flat_map, take, sym, ap, append_assoc, arith}
use Rattle.std.proofs.lemmas.List.{length-map}
use Rattle.running_phase.specs.Copies.{record_of}
use Rattle.running_phase.specs.Turns.{goes_out, lent}
use Rattle.running_phase.proofs.Taking.{at_mapped, out_more, parcel_at}
use Rattle.running_phase.proofs.worker.keeping.keep_all.Goals as goal

pub keep-requires-clause-parcel : goal.keep-requires-clause-parcel
keep-requires-clause-parcel c =
    let burst = c.args.burst.now in
    let i = c.loop-place.place in
    let frame = c.index.result.now.now in
    let inside : i < length burst.frames.items = search rules in
    let lt : i < length (lent burst) = omega (arith, inside, length-map burst.frames.items (λ r. r.now)) in
    let here : frame ≡ get_or (lent burst) i frame = at_mapped burst.frames.items i c.index.result.now (λ r. r.now) inside c.index.ensures in
    parcel_at (lent burst) burst.parcels.items i frame c.index-in-loop-place.result.now c.requires.packed lt here c.index-in-loop-place.ensures

pub loop-place-preserved : goal.loop-place-preserved
loop-place-preserved c =
    let burst = c.args.burst.now in
    let i = c.loop-place.place in
    let frame = c.index.result.now.now in
    let out = goes_out c.args.replica.now.flows in
    let kept = map record_of c.args.kept.now.items in
    let inside : i < length burst.frames.items = search rules in
    let lt : i < length (lent burst) = omega (arith, inside, length-map burst.frames.items (λ r. r.now)) in
    let here : frame ≡ get_or (lent burst) i frame = at_mapped burst.frames.items i c.index.result.now (λ r. r.now) inside c.index.ensures in
    c.in_ok-keep.ensures ∙ ap (λ l. l ++ out frame) c.loop-place.invariant ∙ append_assoc kept (flat_map out (take i (lent burst))) (out frame)
    ∙ ap (λ l. kept ++ l) (let more : flat_map out (take (i + 1) (lent burst)) ≡ flat_map out (take i (lent burst)) ++ out frame = out_more out (lent burst) i frame lt here in sym more)
