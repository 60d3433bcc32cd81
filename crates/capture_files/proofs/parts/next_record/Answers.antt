-- A record's header, and what the bytes behind it make of the record.
use Rattle.std.proofs.Common.{◌≡◌, ◌<◌, ◌≤◌, ◌++◌, length, take, drop, arith, length-take-le, sym, ap, ◌∙◌, append_assoc}
use Rattle.std.proofs.KnownBytes.{Consumes-whole, Consumes-trans}
use lib.Seq.{take-append_seam}
use Rattle.capture_files.specs.Record.{frame_of, behind}
use Rattle.capture_files.specs.Capture.{stopped, with_frame, records_of}
use Rattle.capture_files.proofs.Records.{unfinished, refusal_of-none, records_of-refused, records_of-cut, records_of-frame}
use Rattle.capture_files.proofs.Moves.{IfSome-Consumes}
use Rattle.capture_files.proofs.parts.next_record.Goals as goal

pub returns-in-Some-clause-reads : goal.returns-in-Some-clause-reads
returns-in-Some-clause-reads g c =
    let front = c.in_ok-header.ensures.reads in
    IfSome-Consumes _ _ front.given _ front.consumed
    (λ rest. records_of-refused c.args.format c.args.progress c.in_ok-header.header front.given front.holds.0 front.holds.1 c.in-Some.stop rest (sym c.in-Some.ensures))

pub returns-in-Whole-clause-reads : goal.returns-in-Whole-clause-reads
returns-in-Whole-clause-reads g c =
    let front = c.in_ok-header.ensures.reads in
    let allowed = sym c.refusal.ensures ∙ c.in_default.is in
    let body = c.fill.new.buf in
    let short : c.in_ok-header.header.captured_len ≤ 262144 = refusal_of-none c.args.progress c.in_ok-header.header.captured_len allowed in
    let len : length body ≡ c.in_ok-header.header.captured_len = omega (arith, length-take-le c.in_ok-header.header.captured_len c.args.buf.now (omega arith)) in
    let shown : take c.in_ok-header.header.captured_len (body ++ drop c.in_ok-header.header.captured_len c.args.buf.now) ≡ body =
    ap (λ n. take n (body ++ drop c.in_ok-header.header.captured_len c.args.buf.now)) (sym len) ∙ take-append_seam body _ in
    record {
      given = front.given ++ body;
      consumed = Consumes-trans _ _ _ _ _ front.consumed c.in-Whole.ensures.fills.bytes;
      holds = λ rest. ap (records_of c.args.format c.args.progress) (append_assoc front.given body rest)
          ∙ records_of-frame c.args.format c.args.progress c.in_ok-header.header front.given front.holds.0 front.holds.1 body rest allowed len
          ∙ ap (λ l. with_frame (frame_of c.in_ok-header.header l) (records_of c.args.format (behind c.args.progress c.in_ok-header.header.captured_len) rest)) (sym shown);
    }

pub returns-in-Cut-clause-reads : goal.returns-in-Cut-clause-reads
returns-in-Cut-clause-reads g c =
    let front = c.in_ok-header.ensures.reads in
    let filled = c.in-Cut.ensures.fills.bytes in
    let allowed = sym c.refusal.ensures ∙ c.in_default.is in
    let short : c.in_ok-header.header.captured_len ≤ 262144 = refusal_of-none c.args.progress c.in_ok-header.header.captured_len allowed in
    let len : length c.fill.new.buf ≡ c.in_ok-header.header.captured_len = omega (arith, length-take-le c.in_ok-header.header.captured_len c.args.buf.now (omega arith)) in
    let body = take c.in-Cut.got c.fill.new.buf in
    let few : length body < c.in_ok-header.header.captured_len = omega (arith, length-take-le c.in-Cut.got c.fill.new.buf (omega arith)) in
    Consumes-whole _ _ _ _ (Consumes-trans _ _ _ _ _ front.consumed filled.1) filled.2
    (records_of-cut c.args.format c.args.progress c.in_ok-header.header front.given front.holds.0 front.holds.1 body allowed few ∙ ap stopped (sym c.cut.ensures))

pub returns-in-Fault-clause-reads : goal.returns-in-Fault-clause-reads
returns-in-Fault-clause-reads g c =
    let front = c.in_ok-header.ensures.reads in
    let filled = c.in-Fault.ensures.fills.bytes in
    let allowed = sym c.refusal.ensures ∙ c.in_default.is in
    let short : c.in_ok-header.header.captured_len ≤ 262144 = refusal_of-none c.args.progress c.in_ok-header.header.captured_len allowed in
    let len : length c.fill.new.buf ≡ c.in_ok-header.header.captured_len = omega (arith, length-take-le c.in_ok-header.header.captured_len c.args.buf.now (omega arith)) in
    let body = take filled.0 c.fill.new.buf in
    let few : length body < c.in_ok-header.header.captured_len = omega (arith, length-take-le filled.0 c.fill.new.buf (omega arith)) in
    record {
      given = front.given ++ body;
      consumed = Consumes-trans _ _ _ _ _ front.consumed filled.2;
      holds = unfinished _ _ (records_of-cut c.args.format c.args.progress c.in_ok-header.header front.given front.holds.0 front.holds.1 body allowed few) tt;
    }
