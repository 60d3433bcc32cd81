use Rattle.history_text.proofs.ending.print_ending.Goals as goal

pub returns-in-Large : goal.returns-in-Large
returns-in-Large g c = rw c.in-Large.is c.print_form-in-Large.ensures
