-- Bytes that are too few for a record's header.
use Rattle.std.proofs.Common.{◌≡◌, ◌<◌, length, take, arith, length-take-le, sym, ap, ◌∙◌}
use Rattle.std.proofs.KnownBytes.{Consumes-whole}
use Rattle.capture_files.specs.Capture.{stopped}
use Rattle.capture_files.proofs.Records.{records_of-none, records_of-short, records_of-unfinished}
use Rattle.capture_files.proofs.parts.next_record_header.Goals as goal

pub returns-in-Cut-eq0-clause-reads : goal.returns-in-Cut-eq0-clause-reads
returns-in-Cut-eq0-clause-reads g c =
    let filled = c.in-Cut-eq0.ensures.fills.bytes in
    let none : length (take c.in-Cut-eq0.got c.fill.new.buf) ≡ 0 = omega (arith, length-take-le c.in-Cut-eq0.got c.fill.new.buf (omega arith)) in
    Consumes-whole _ _ _ _ filled.1 filled.2 (records_of-none c.args.format c.args.progress _ none)

pub returns-in-Cut-clause-reads : goal.returns-in-Cut-clause-reads
returns-in-Cut-clause-reads g c =
    let filled = c.in-Cut.ensures.fills.bytes in
    let long = length-take-le c.in-Cut.got c.fill.new.buf (omega arith) in
    Consumes-whole _ _ _ _ filled.1 filled.2
    (records_of-short c.args.format c.args.progress _ (omega arith) (omega arith) ∙ ap stopped (sym c.cut.ensures))

pub returns-in-Fault-clause-reads : goal.returns-in-Fault-clause-reads
returns-in-Fault-clause-reads g c =
    let filled = c.in-Fault.ensures.fills.bytes in
    let few : length (take filled.0 c.fill.new.buf) < 16 = omega (arith, length-take-le filled.0 c.fill.new.buf (omega arith)) in
    record { given = take filled.0 c.fill.new.buf; consumed = filled.2; holds = records_of-unfinished c.args.format c.args.progress _ few }
