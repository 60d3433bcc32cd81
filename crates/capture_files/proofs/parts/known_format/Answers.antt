-- Where the form isn't known the file header tells it.
use Rattle.std.proofs.Common.{subst, sym}
use Rattle.capture_files.specs.Parts.{ReadsFormat}
use Rattle.capture_files.proofs.parts.known_format.Goals as goal

pub returns-in-None-clause-reads : goal.returns-in-None-clause-reads
returns-in-None-clause-reads g c =
    subst (λ known. ReadsFormat known (g.S.Source.left c.args.source.now) (g.S.Source.left c.next_header.new.source) c.next_header.result)
    (sym c.in-None.is) c.next_header.ensures.reads
