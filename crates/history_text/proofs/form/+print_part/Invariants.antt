use Rattle.std.proofs.Common.{length}
use Rattle.history_text.proofs.form.+print_part.Given as goal

abbrev pub decreases-print_part : goal.decreases-print_part
decreases-print_part g l = length l.part.now
