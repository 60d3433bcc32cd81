use Rattle.indirect_counters.specs.Entries.{created}
use Rattle.indirect_counters.proofs.Effects.{entry_at-changed_at, entry_at-pushed, entry_at-without, entry_at-activated}
use Rattle.indirect_counters.proofs.laws.each_call_changes_its_own_id.Goals as goal

pub returns-clause-added : goal.returns-clause-added
returns-clause-added c = λ id q value held entries free. entry_at-pushed id (created value held) q entries free

pub returns-clause-gone : goal.returns-clause-gone
returns-clause-gone c = λ id q entries sound. entry_at-without id q entries sound.ids

pub returns-clause-activated : goal.returns-clause-activated
returns-clause-activated c = λ id q entries entry sound found. entry_at-activated id entry q entries sound.ids found

pub returns-clause-changed : goal.returns-clause-changed
returns-clause-changed c = λ id q change entries. entry_at-changed_at id change q entries
