-- What the header's bytes tell, they tell of the file.
use Rattle.std.proofs.Common.{◌<◌, length, take, arith, length-take-le, sym}
use Rattle.std.proofs.KnownBytes.{Consumes-whole}
use Rattle.capture_files.proofs.Headers.{capture_from-records, capture_from-stop, capture_from-cut}
use Rattle.capture_files.proofs.Records.{unfinished}
use Rattle.capture_files.proofs.Moves.{IfSome-Consumes}
use Rattle.capture_files.proofs.parts.next_header.Goals as goal

pub returns-in-Ok-clause-reads : goal.returns-in-Ok-clause-reads
returns-in-Ok-clause-reads g c = λ progress. record {
  given = c.fill.new.buf;
  consumed = c.in-Whole.ensures.fills.bytes;
  holds = λ rest. capture_from-records progress c.in-Ok.format c.fill.new.buf rest (omega arith) (sym c.in-Ok.ensures);
}

pub returns-in-Err-clause-reads : goal.returns-in-Err-clause-reads
returns-in-Err-clause-reads g c = λ progress.
    IfSome-Consumes _ _ c.fill.new.buf _ c.in-Whole.ensures.fills.bytes
    (λ rest. capture_from-stop progress c.in-Err.stop c.fill.new.buf rest (omega arith) (sym c.in-Err.ensures))

pub returns-in-Cut-clause-reads : goal.returns-in-Cut-clause-reads
returns-in-Cut-clause-reads g c = λ progress.
    let filled = c.in-Cut.ensures.fills.bytes in
    let few : length (take c.in-Cut.got c.fill.new.buf) < 24 = omega (arith, length-take-le c.in-Cut.got c.fill.new.buf (omega arith)) in
    Consumes-whole _ _ _ _ filled.1 filled.2 (capture_from-cut progress _ few)

pub returns-in-Fault-clause-reads : goal.returns-in-Fault-clause-reads
returns-in-Fault-clause-reads g c = λ progress.
    let filled = c.in-Fault.ensures.fills.bytes in
    let few : length (take filled.0 c.fill.new.buf) < 24 = omega (arith, length-take-le filled.0 c.fill.new.buf (omega arith)) in
    record { given = take filled.0 c.fill.new.buf; consumed = filled.2; holds = unfinished _ _ (capture_from-cut progress _ few) tt }
