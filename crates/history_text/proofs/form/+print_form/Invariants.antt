use Rattle.std.proofs.Common.{length}
use Rattle.history_text.proofs.form.+print_form.Given as goal

abbrev pub decreases-print_form : goal.decreases-print_form
decreases-print_form g l = length l.parts.now
