use Rattle.std.proofs.Common.{refl, ◌+◌, ◌-◌}
use Rattle.indirect_counters.specs.Counts.{counted}
use Rattle.indirect_counters.proofs.Effects.{seen-at, values-added, values-held, values-activated, seen-updated, values-without, values-changed_at}
use Rattle.indirect_counters.proofs.laws.rules_see_the_values_in_effect.Goals as goal

pub returns-clause-at : goal.returns-clause-at
returns-clause-at c = λ id entries sound. seen-at id entries sound.ids

pub returns-clause-created : goal.returns-clause-created
returns-clause-created c = values-added

pub returns-clause-held : goal.returns-clause-held
returns-clause-held c = values-held

pub returns-clause-activated : goal.returns-clause-activated
returns-clause-activated c = λ id entries entry sound. values-activated id entries entry sound.ids

pub returns-clause-updated : goal.returns-clause-updated
returns-clause-updated c = seen-updated

pub returns-clause-gone : goal.returns-clause-gone
returns-clause-gone c = values-without

pub returns-clause-adopted : goal.returns-clause-adopted
returns-clause-adopted c = λ id entries. values-changed_at id (λ entry. record entry { users = entry.users + 1 }) (λ e. refl) (λ e. refl) entries

pub returns-clause-released : goal.returns-clause-released
returns-clause-released c = λ id entries. values-changed_at id (λ entry. record entry { users = entry.users - 1 }) (λ e. refl) (λ e. refl) entries

pub returns-clause-raised : goal.returns-clause-raised
returns-clause-raised c = λ id bytes entries. values-changed_at id (λ entry. record entry { count = counted entry.count bytes }) (λ e. refl) (λ e. refl) entries
