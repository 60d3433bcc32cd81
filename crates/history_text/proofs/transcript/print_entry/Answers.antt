use Rattle.adapter.specs.Seen.{entry_of}
use Rattle.history_text.proofs.transcript.print_entry.Goals as goal

pub returns : goal.returns
returns g c = c.print_line.ensures (entry_of c.args.entry) c.line_of.ensures
