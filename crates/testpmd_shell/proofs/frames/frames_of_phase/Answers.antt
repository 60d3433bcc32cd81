use Rattle.std.proofs.Common.{◌+◌, [], Option, sym, subst}
use Rattle.testpmd_shell.specs.declared.feed.Feed.{Feed}
use Rattle.testpmd_shell.specs.Parts.{TakesIn, WasRead, taken_in}
use Rattle.testpmd_shell.specs.Phase.{AreNumbered}
use Rattle.testpmd_shell.proofs.PartsRun.{TakesIn-none}
use Rattle.testpmd_shell.proofs.frames.frames_of_phase.Goals as goal

pub returns-in_default-clause-takes : goal.returns-in_default-clause-takes
returns-in_default-clause-takes g c content frames was =
    let state = g.S.Shelf.state c.args.shelf.now in
    let copies = c.new.result.items in
    subst (λ (f : Option Feed). WasRead f state content frames → TakesIn (λ more. AreNumbered (taken_in f + 1) more copies) c.args.count f f state content frames) (sym c.in_default.is)
    (λ none. TakesIn-none (λ more. AreNumbered 1 more copies) c.args.count state content frames (subst (AreNumbered 1 []) (sym c.new.ensures.items) tt) none) was
