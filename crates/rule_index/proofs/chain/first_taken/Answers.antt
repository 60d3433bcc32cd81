use Rattle.std.proofs.Common.{ℕ, ◌<◌, length, get_or, Option, None, arith, ◌∙◌, sym, subst}
use Rattle.std.proofs.lemmas.Option.{slice_get-get_or}
use Rattle.std.specs.Option.{option_copied}
use Rattle.rule_index.specs.declared.chain.RulePlace.{RulePlace}
use Rattle.rule_index.proofs.Walks.{Ahead, Coming, ahead_start, ahead_next, misses, found, left, left_less, within}
use Rattle.rule_index.proofs.chain.first_taken.Goals as goal

abbrev no_place : RulePlace
no_place = record { home = record { digest = 0; table = 0 }; next = None }

pub loop-at-init : goal.loop-at-init
loop-at-init c = ahead_start (option_copied c.args.asked) c.args.kept.slots.now c.args.kept.places.now c.args.home c.args.from c.requires.from

pub bounds-kept-place : goal.bounds-kept-place
bounds-kept-place c =
    let h : Coming (option_copied c.args.asked) c.args.kept.slots.now c.args.kept.places.now c.args.home c.args.from c.in-Some.place = subst (Ahead (option_copied c.args.asked) c.args.kept.slots.now c.args.kept.places.now c.args.home c.args.from) c.in-Some.is c.loop-at.invariant in
    omega (arith, c.requires.long, within c.args.kept.places.now c.args.home c.in-Some.place h.of_home)

pub bounds-kept-place-in-Some : goal.bounds-kept-place-in-Some
bounds-kept-place-in-Some c =
    let h : Coming (option_copied c.args.asked) c.args.kept.slots.now c.args.kept.places.now c.args.home c.args.from c.in-Some.place = subst (Ahead (option_copied c.args.asked) c.args.kept.slots.now c.args.kept.places.now c.args.home c.args.from) c.in-Some.is c.loop-at.invariant in
    within c.args.kept.places.now c.args.home c.in-Some.place h.of_home

pub loop-at-smaller : goal.loop-at-smaller
loop-at-smaller c =
    let h : Coming (option_copied c.args.asked) c.args.kept.slots.now c.args.kept.places.now c.args.home c.args.from c.in-Some.place = subst (Ahead (option_copied c.args.asked) c.args.kept.slots.now c.args.kept.places.now c.args.home c.args.from) c.in-Some.is c.loop-at.invariant in
    let lt : c.in-Some.place < length c.args.kept.places.now = within c.args.kept.places.now c.args.home c.in-Some.place h.of_home in
    subst (λ (o : Option ℕ). left c.args.kept.places.now (get_or c.args.kept.places.now c.in-Some.place no_place).next < left c.args.kept.places.now o) (sym c.in-Some.is)
    (left_less c.args.kept.places.now c.in-Some.place _ c.requires.linked (slice_get-get_or c.args.kept.places.now c.in-Some.place no_place lt))

pub loop-at-preserved : goal.loop-at-preserved
loop-at-preserved c =
    let h : Coming (option_copied c.args.asked) c.args.kept.slots.now c.args.kept.places.now c.args.home c.args.from c.in-Some.place = subst (Ahead (option_copied c.args.asked) c.args.kept.slots.now c.args.kept.places.now c.args.home c.args.from) c.in-Some.is c.loop-at.invariant in
    let lt : c.in-Some.place < length c.args.kept.places.now = within c.args.kept.places.now c.args.home c.in-Some.place h.of_home in
    ahead_next (option_copied c.args.asked) c.args.kept.slots.now c.args.kept.places.now c.args.home c.args.from c.in-Some.place _ _ c.requires.linked
    (slice_get-get_or c.args.kept.places.now c.in-Some.place no_place lt)
    (slice_get-get_or c.args.kept.slots.now c.in-Some.place c.index-kept-place.result (omega (arith, c.requires.long, lt)))
    (misses (option_copied c.args.asked) _ (sym c.in_default-passing.is ∙ c.passing.ensures)) h

pub returns-in-Some-passing : goal.returns-in-Some-passing
returns-in-Some-passing c =
    let h : Coming (option_copied c.args.asked) c.args.kept.slots.now c.args.kept.places.now c.args.home c.args.from c.in-Some.place = subst (Ahead (option_copied c.args.asked) c.args.kept.slots.now c.args.kept.places.now c.args.home c.args.from) c.in-Some.is c.loop-at.invariant in
    let lt : c.in-Some.place < length c.args.kept.places.now = within c.args.kept.places.now c.args.home c.in-Some.place h.of_home in
    found (option_copied c.args.asked) c.args.kept.slots.now c.args.kept.places.now c.args.home c.args.from c.in-Some.place _ c.in-Some-passing.id
    (slice_get-get_or c.args.kept.slots.now c.in-Some.place c.index-kept-place.result (omega (arith, c.requires.long, lt)))
    (sym c.in-Some-passing.is ∙ c.passing.ensures) h
