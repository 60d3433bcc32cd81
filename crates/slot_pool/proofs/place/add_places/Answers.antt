use Rattle.std.proofs.Common.{◌≡◌, suc, ◌-◌, ◌+◌, length, vec_len, arith}
use Rattle.slot_pool.proofs.place.add_places.Goals as goal

pub loop-added-preserved : goal.loop-added-preserved
loop-added-preserved g c =
    let kept = c.loop-added.invariant in
    let step : c.args.more - c.loop-added._added ≡ suc (c.args.more - (c.loop-added._added + 1)) = omega arith in
    let len : c.len-index.result ≡ length c.loop-added.places.items = omega (arith, c.loop-added.places.ok) in
    let size : vec_len c.push_reserved.new.self ≡ vec_len c.loop-added.places + 1 = c.push_reserved.ensures.len in
    let same : c.len-index.result ≡ vec_len c.loop-added.places = omega arith in
    record {
      places = rw (c.push_reserved.ensures.items, len) (rw step at kept.places);
      first = rw (size, same) (rw step at kept.first);
      len = omega (arith, kept.len);
      capacity = omega (arith, kept.capacity);
    }
