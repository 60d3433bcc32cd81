use Rattle.std.proofs.Common.{◌≡◌, ◌+◌, [], ◌∷◌, ◌++◌, take, ap, ◌∙◌, sym}
use Rattle.std.proofs.lemmas.List.{take_more}
use Rattle.flow_calls.specs.declared.caller.Caller.{Caller}
use Rattle.flow_calls.specs.declared.entry.Entry.TheVariants.{Asked}
use Rattle.flow_calls.specs.Entries.{calls_by, numbers_by}
use Rattle.flow_calls.proofs.Entries.{calls_by-append, numbers_by-append}
use Rattle.adapter.specs.Seen.{Seen}
use Rattle.test_crews.proofs.opening.open_adapter.Goals as goal

pub loop-call-init : goal.loop-call-init
loop-call-init c = record {
  limits = ap (λ (a : Seen). a.limits) c.in_ok-adapter.ensures;
  calls = ap (λ (a : Seen). calls_by 0 a.history) c.in_ok-adapter.ensures;
  frames = λ who. ap (λ (a : Seen). numbers_by who a.history) c.in_ok-adapter.ensures;
}

pub loop-call-preserved : goal.loop-call-preserved
loop-call-preserved c =
    let old = c.loop-call.adapter.history in
    let grew = c.in_ok-step.ensures.entered in
    let shell : Caller = record { 0 = 0 } in
    let entry = Asked shell c.call-item.result c.in_ok-step.field-0 in
    let calls = c.args.calls.now in
    let more : take (c.loop-call.call-index + 1) calls ≡ take c.loop-call.call-index calls ++ c.call-item.result ∷ []
    = take_more calls c.loop-call.call-index c.call-item.result c.loop-call-test.true ∙ ap (λ x. take c.loop-call.call-index calls ++ x ∷ []) (sym c.call-item.is) in
    record {
      limits = grew.limits ∙ c.loop-call.invariant.limits;
      calls = ap (calls_by 0) grew.history ∙ calls_by-append 0 old (entry ∷ []) ∙ ap (λ l. l ++ c.call-item.result ∷ []) c.loop-call.invariant.calls ∙ sym more;
      frames = λ who. ap (numbers_by who) grew.history ∙ numbers_by-append who old (entry ∷ []) ∙ ap (λ l. l ++ []) (c.loop-call.invariant.frames who);
    }
