use Rattle.header_edit.proofs.Agreement.{edits-agree}
use Rattle.header_edit.proofs.Parsed.{layers-show}
use Rattle.header_edit.proofs.OnPlaces.{edit_bytes-places}
use Rattle.header_edit.proofs.laws.edits_agree.Goals as goal

pub returns-clause-edits : goal.returns-clause-edits
returns-clause-edits c = edits-agree

pub returns-clause-parsed : goal.returns-clause-parsed
returns-clause-parsed c = layers-show

pub returns-clause-places : goal.returns-clause-places
returns-clause-places c = edit_bytes-places
