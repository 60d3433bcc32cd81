use Rattle.std.proofs.Common.{◌≡◌, ℕ, ◌+◌, ◌-◌, ◌<◌, length, map, take, All, subst, sym, ap, ◌∙◌, arith}
use Rattle.std.specs.List.{Contains}
use Rattle.std.proofs.lemmas.List.Elements.{All-map}
use Rattle.std.proofs.lemmas.Simd.{map-map}
use Rattle.flow_calls.specs.Entries.{passers_of}
use Rattle.running_phase.specs.Copies.{record_of}
use Rattle.running_phase.specs.Orders.{Held, held, sender_of}
use Rattle.running_phase.specs.Sends.{all_sent, sent_by}
use Rattle.running_phase.proofs.Backward.{IsBack, back_end, back_next, entry_at, map-reverse, same_callers}
use Rattle.running_phase.proofs.order.in_order.Goals as goal

pub loop-place-preserved : goal.loop-place-preserved
loop-place-preserved c =
    let history = c.args.adapter.now.history in
    let place : ℕ = c.loop-place.place - 1 in
    let next : place + 1 ≡ c.loop-place.place = omega arith in
    let lt : place < length history = omega (arith, c.loop-place.invariant.within, next) in
    let there = entry_at history place lt in
    let hs = map held c.loop-place.lists.items in
    let lists = c.in_ok-take_back.ensures.lists there.0 there.1 in
    let sent = c.in_ok-take_back.ensures.sent there.0 there.1 in
    record {
      within = omega (arith, lt);
      callers = ap (map (λ (h : Held). h.0)) lists ∙ same_callers (sender_of there.0) hs ∙ c.loop-place.invariant.callers;
      back = λ look before middle is from passers parcels first.
          back_next c.args.adapter.now.limits look history before middle c.args.from place there.0 (map (λ (h : Held). h.0) (map held c.args.lists.items)) hs (map held c.take_back.new.lists.items)
          (map record_of c.loop-place.sent.items) (map record_of c.take_back.new.sent.items) (all_sent c.args.adapter.now.limits look before middle) is from
          (omega arith) lt there.1 passers parcels c.loop-place.invariant.callers lists sent
          (let P : ℕ → Type 0 = λ n. IsBack c.args.adapter.now.limits look before (take (n - c.args.from) middle) hs (map record_of c.loop-place.sent.items) (all_sent c.args.adapter.now.limits look before middle) in
          subst P (sym next) (c.loop-place.invariant.back look before middle is from passers parcels first));
    }

pub returns : goal.returns
returns c = λ look before middle is from passers parcels lists.
    let limits = c.args.adapter.now.limits in
    let first = c.args.lists.items in
    let Left : Held → Type 0 = λ h. h.1 ≡ sent_by h.0 limits look before middle in
    let back = c.loop-place.invariant.back look before middle is from
    (subst (λ cs. All (Contains cs) (passers_of middle)) (sym (map-map (λ (h : Held). h.0) held first)) passers) parcels (All-map Left held first lists) in
    ap (map record_of) c.reverse.ensures.items ∙ map-reverse record_of c.loop-place.sent.items
    ∙ back_end limits look before middle c.args.from c.loop-place.place (map held c.loop-place.lists.items) (map record_of c.loop-place.sent.items) (all_sent limits look before middle) (omega arith) back
