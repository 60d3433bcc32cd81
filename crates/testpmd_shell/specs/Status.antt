-- The exit code and the text of a status.
use Rattle.std.specs.Prelude.{ℕ, List, codes, Option, None, Some}
use Rattle.testpmd_shell.specs.declared.status.Status.{Status}
use Rattle.testpmd_shell.specs.declared.status.Status.TheVariants as status

abbrev pub code_of : Status → ℕ
code_of status.Done = 0
code_of status.Usage = 2
code_of status.ReadFault = 3
code_of status.WriteFault = 4
code_of status.BadCapture = 5
code_of status.TooLarge = 6
code_of status.NoMemory = 7

abbrev pub text_of_status : Status → Option (List ℕ)
text_of_status status.Done = None
text_of_status status.Usage = Some (codes "flowpmd: bad options")
text_of_status status.ReadFault = Some (codes "flowpmd: read fault")
text_of_status status.WriteFault = Some (codes "flowpmd: write fault")
text_of_status status.BadCapture = Some (codes "flowpmd: bad capture")
text_of_status status.TooLarge = Some (codes "flowpmd: too large")
text_of_status status.NoMemory = Some (codes "flowpmd: no memory")
