use Rattle.std.proofs.Common.{◌≡◌, ◌-◌, ◌+◌, vec_len, vec_capacity}
use Rattle.slot_pool.specs.Place.{with_free, free_after}
use Rattle.slot_pool.proofs.place.add_places.Given as goal

abbrev pub invariant-loop-added : goal.invariant-loop-added
invariant-loop-added g l =
    record {
      places : with_free (l.more - l._added) l.places.items l.first ≡ with_free l.more l.initial.places.items l.initial.first;
      first : free_after (l.more - l._added) (vec_len l.places) l.first ≡ free_after l.more (vec_len l.initial.places) l.initial.first;
      len : vec_len l.places ≡ vec_len l.initial.places + l._added;
      capacity : vec_capacity l.places ≡ vec_capacity l.initial.places;
    }
