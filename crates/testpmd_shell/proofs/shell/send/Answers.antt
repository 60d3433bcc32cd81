use Rattle.std.proofs.Common.{List, Option, Vec, Some, OnOk, OnErr, sym, subst}
use Rattle.std.specs.Global.{Global}
use Rattle.running_phase.specs.declared.copies.FrameCopy.{FrameCopy}
use Rattle.testpmd_shell.specs.Sending.{records_of, records_kept}
use Rattle.testpmd_shell.specs.Fetch.{TakesAll, TakesSome}
use Rattle.testpmd_shell.proofs.Telling.{TakesAll-ends, TakesSome-ends}
use Rattle.testpmd_shell.proofs.shell.send.Goals as goal

pub returns-clause-all : goal.returns-clause-all
returns-clause-all g c =
    let old = g.S.Shelf.state c.args.shelf.now in
    let new = g.S.Shelf.state c.write_sent.new.shelf in
    subst (λ (kept : Option (Vec FrameCopy Global)). OnOk c.write_sent.result (TakesAll (records_kept kept) old.written new.written)) (sym c.in-Some.is)
    (subst (λ (list : List FrameCopy). OnOk c.write_sent.result (TakesAll (Some (records_of list)) old.written new.written)) c.as_slice.ensures.value
    (TakesAll-ends old new (records_of c.as_slice.result.now) c.write_sent.result c.write_sent.ensures.ends c.write_sent.ensures.keeps))

pub returns-clause-front : goal.returns-clause-front
returns-clause-front g c =
    let old = g.S.Shelf.state c.args.shelf.now in
    let new = g.S.Shelf.state c.write_sent.new.shelf in
    subst (λ (kept : Option (Vec FrameCopy Global)). OnErr c.write_sent.result (TakesSome (records_kept kept) old.written new.written)) (sym c.in-Some.is)
    (subst (λ (list : List FrameCopy). OnErr c.write_sent.result (TakesSome (Some (records_of list)) old.written new.written)) c.as_slice.ensures.value
    (TakesSome-ends old new (records_of c.as_slice.result.now) c.write_sent.result c.requires.writes c.write_sent.ensures.ends c.write_sent.ensures.keeps))
