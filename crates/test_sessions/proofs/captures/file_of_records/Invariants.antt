use Rattle.test_sessions.specs.Captures.{BeginsAsFile}
use Rattle.test_sessions.proofs.captures.file_of_records.Given as goal

abbrev pub invariant-loop-record : goal.invariant-loop-record
invariant-loop-record l = record {
  begins : BeginsAsFile l.bytes.items;
}
