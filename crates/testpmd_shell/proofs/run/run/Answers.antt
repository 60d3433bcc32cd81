use Rattle.std.proofs.Common.{ap, ◌∙◌, subst, cond, Some, None, [], sym}
use Rattle.adapter.specs.Seen.{Seen}
use Rattle.history_text.specs.declared.ending.Ending.{Ending}
use Rattle.testpmd_shell.specs.Feed.{CarriesFault}
use Rattle.testpmd_shell.specs.Parts.{ending_in}
use Rattle.testpmd_shell.specs.Sending.{kept_in}
use Rattle.testpmd_shell.proofs.Keeping.{some-kept}
use Rattle.testpmd_shell.proofs.run.run.Goals as goal

pub returns-clause-finished : goal.returns-clause-finished
returns-clause-finished g c =
    let ran = c.in_ok-run_parts.ensures in
    let lead = c.in_ok-lead.ensures in
    let limits = ap (λ (a : Seen). a.limits) lead.adapter ∙ c.limits_of.ensures in
    let empty = lead.kept ∙ ap (λ b. cond b (Some []) None) c.is_named.ensures in
    record {
      feed = c.run_parts.new.feed;
      opened = c.in_ok-lead.lead.adapter;
      none_sent = kept_in c.in_ok-lead.lead;
      open_feed = ran.open;
      ends = c.ending_of.ensures;
      opening = (limits, ap (λ (a : Seen). a.history) lead.adapter);
      empty = empty;
      limits = ran.limits ∙ limits;
      keeps = ran.kept ∙ some-kept c.is_named.result (kept_in c.in_ok-lead.lead) lead.kept ∙ c.is_named.ensures;
      fault = subst (λ (e : Ending). CarriesFault (ending_in c.args.feed) e (g.S.Shelf.state c.args.shelf.now).capture.faults (g.S.Shelf.state c.run_parts.new.shelf).capture.faults) (sym c.ending_of.ensures) ran.fault;
      others = ran.keeps;
      runs = ran.runs;
    }
