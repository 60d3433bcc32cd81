use Rattle.std.proofs.Common.{rules}
use Rattle.test_sessions.specs.Captures.{BeginsAsFile}
use Rattle.test_sessions.proofs.Files.{BeginsAsFile-longer}
use Rattle.test_sessions.proofs.captures.push_record.Goals as goal

pub returns : goal.returns
returns c begins =
    let header : BeginsAsFile c.extend_from_slice.new.self.items = BeginsAsFile-longer c.args.record.now.0 begins (search rules) in
    BeginsAsFile-longer c.in_ok-frame.frame.items header (search rules)
