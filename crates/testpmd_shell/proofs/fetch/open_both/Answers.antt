use Rattle.std.proofs.Common.{List, ℕ, Option, option_copied, Result, Ok, Err, IfOk, ap, ◌≡◌}
use Rattle.io_edges.specs.ShelfState.{ShelfState}
use Rattle.testpmd_shell.specs.declared.feed.Feed.{Feed}
use Rattle.testpmd_shell.specs.declared.fetch.Stopped.{Stopped}
use Rattle.testpmd_shell.specs.Parts.{StartsOver}
use Rattle.testpmd_shell.proofs.Opening.{StartsOver-same}
use Rattle.testpmd_shell.proofs.fetch.open_both.Goals as goal

all-start : (name : Option (List ℕ)) (s o t : ShelfState) (result : Result (Option Feed) Stopped) → o.contents ≡ s.contents
    → IfOk result (λ feed. StartsOver name feed o t) → IfOk result (λ feed. StartsOver name feed s t)
all-start name s o t (Ok feed) same starts = StartsOver-same name feed s o t same starts
all-start name s o t (Err why) same starts = tt

pub returns-in-Ok-clause-starts : goal.returns-in-Ok-clause-starts
returns-in-Ok-clause-starts g c =
    all-start (option_copied c.args.capture) (g.S.Shelf.state c.args.shelf.now) (g.S.Shelf.state c.open_transmit.new.shelf) (g.S.Shelf.state c.open_capture.new.shelf) c.open_capture.result
    (ap (λ (shelf : ShelfState). shelf.contents) c.open_transmit.ensures.others) c.open_capture.ensures.starts
