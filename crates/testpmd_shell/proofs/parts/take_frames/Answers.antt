use Rattle.std.proofs.Common.{Some, Option, sym, subst}
use Rattle.std.proofs.lemmas.Result.{on_ok_weaker}
use Rattle.testpmd_shell.specs.declared.feed.Feed.{Feed}
use Rattle.testpmd_shell.specs.Sending.{kept_in}
use Rattle.testpmd_shell.specs.Phase.{AreEntered}
use Rattle.testpmd_shell.specs.Parts.{WasRead, TakesIn, taken_in}
use Rattle.testpmd_shell.proofs.Passing.{AreEntered-none}
use Rattle.testpmd_shell.proofs.PartsRun.{TakesIn-takes, TakesIn-none}
use Rattle.testpmd_shell.proofs.parts.take_frames.Goals as goal

pub returns-in_default-clause-takes : goal.returns-in_default-clause-takes
returns-in_default-clause-takes g c content frames was =
    let state = g.S.Shelf.state c.args.shelf.now in
    let adapter = c.args.lead.now.adapter in
    let sent = kept_in c.args.lead.now in
    subst (λ (f : Option Feed). WasRead f state content frames → TakesIn (AreEntered (taken_in f) frames adapter adapter sent sent) c.args.count f f state content frames) (sym c.in_default.is)
    (λ none. TakesIn-none (AreEntered 0 frames adapter adapter sent sent) c.args.count state content frames (AreEntered-none 0 frames adapter sent) none) was

pub returns-clause-takes : goal.returns-clause-takes
returns-clause-takes g c =
    let state = g.S.Shelf.state c.args.shelf.now in
    let state' = g.S.Shelf.state c.pass_frames.new.shelf in
    let old = c.args.lead.now in
    let new = c.pass_frames.new.lead in
    let feed' = c.pass_frames.new.feed in
    on_ok_weaker c.pass_frames.result
    (λ takes content frames was.
    subst (λ (f : Option Feed). WasRead f state content frames → TakesIn (AreEntered (taken_in f) frames old.adapter new.adapter (kept_in old) (kept_in new)) c.args.count f (Some feed') state' content frames) (sym c.in-Some.is)
    (λ has. TakesIn-takes (AreEntered c.in-Some.feed.taken frames old.adapter new.adapter (kept_in old) (kept_in new)) c.args.count state' content frames c.in-Some.feed feed' (takes content frames has)) was)
    c.pass_frames.ensures.takes
