use Rattle.std.proofs.Common.{refl, ◌+◌, ◌-◌}
use Rattle.indirect_counters.specs.Counts.{counted}
use Rattle.indirect_counters.proofs.Creating.{IsSharedOn-created, IsSharedOn-updated}
use Rattle.indirect_counters.proofs.Effects.{AreSharedOn-seen}
use Rattle.indirect_counters.proofs.Lawful.{AreOn-added, AreOn-without, AreOn-activated, AreOn-updated, AreOn-changed_at}
use Rattle.indirect_counters.proofs.laws.values_are_on_the_port.Goals as goal

pub returns-clause-created : goal.returns-clause-created
returns-clause-created c = λ rxq id entries given attr value held none. AreOn-added rxq id value held entries (IsSharedOn-created rxq entries given attr value none)

pub returns-clause-activated : goal.returns-clause-activated
returns-clause-activated c = AreOn-activated

pub returns-clause-updated : goal.returns-clause-updated
returns-clause-updated c = λ rxq id entries value none. AreOn-updated rxq id value entries (IsSharedOn-updated rxq entries id value none)

pub returns-clause-gone : goal.returns-clause-gone
returns-clause-gone c = AreOn-without

pub returns-clause-adopted : goal.returns-clause-adopted
returns-clause-adopted c = λ rxq id entries. AreOn-changed_at rxq id (λ entry. record entry { users = entry.users + 1 }) (λ e. refl) entries

pub returns-clause-released : goal.returns-clause-released
returns-clause-released c = λ rxq id entries. AreOn-changed_at rxq id (λ entry. record entry { users = entry.users - 1 }) (λ e. refl) entries

pub returns-clause-raised : goal.returns-clause-raised
returns-clause-raised c = λ rxq id bytes entries. AreOn-changed_at rxq id (λ entry. record entry { count = counted entry.count bytes }) (λ e. refl) entries

pub returns-clause-seen : goal.returns-clause-seen
returns-clause-seen c = AreSharedOn-seen
