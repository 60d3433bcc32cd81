use Rattle.std.proofs.Common.{rules, ◌≡◌, ◌∙◌, ◌+◌, ◌++◌, [], ◌∷◌, length, get_or, sym, ap, length-append}
use Rattle.flow_calls.specs.declared.entry.Entry.TheVariants.{Passed}
use Rattle.flow_port.proofs.Passing.{passed_none, passed_next}
use Rattle.flow_port.proofs.frames.pack.Goals as goal

pub loop-place-init : goal.loop-place-init
loop-place-init c =
    record {
      packed = c.in_ok-packed.ensures.items ∙ sym (passed_none c.args.frames.now.caller c.args.frames.now.parcels.now);
      count = ap length c.in_ok-packed.ensures.items;
      room = c.in_ok-packed.ensures.exact;
    }

pub loop-place-preserved : goal.loop-place-preserved
loop-place-preserved c =
    let caller = c.args.frames.now.caller in
    let ps = c.args.frames.now.parcels.now in
    let vs = c.args.verdicts.now in
    let i = c.loop-place.place in
    let p = get_or ps i c.index-frames-place.result in
    let frame = Passed caller p c.index-verdicts-place.result in
    let added : c.push_reserved.new.self.items ≡ c.loop-place.packed.items ++ frame ∷ [] = c.push_reserved.ensures.items ∙ ap (λ x. c.loop-place.packed.items ++ x ∷ []) c.in_ok-frame.ensures in
    record {
      packed = added ∙ ap (λ l. l ++ frame ∷ []) c.loop-place.invariant.packed
          ∙ sym (passed_next caller ps vs i p c.index-verdicts-place.result (search rules) (search rules) (ap (λ d. get_or ps i d) c.index-frames-place.is) c.index-verdicts-place.is);
      count = ap length c.push_reserved.ensures.items ∙ length-append c.loop-place.packed.items _ ∙ ap (λ n. n + 1) c.loop-place.invariant.count;
      room = c.push_reserved.ensures.capacity ∙ c.loop-place.invariant.room;
    }
