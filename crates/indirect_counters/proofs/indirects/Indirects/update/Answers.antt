use Rattle.std.proofs.Common.{rules, sym, subst}
use Rattle.indirect_counters.specs.Sound.{Sound}
use Rattle.indirect_counters.proofs.Creating.{IsSharedOn-updated}
use Rattle.indirect_counters.proofs.Lawful.{changed_at-is, Sound-changed_at, Sound-same}
use Rattle.indirect_counters.proofs.indirects.Indirects.update.Goals as goal

pub invariant_of-self-2 : goal.invariant_of-self-2
invariant_of-self-2 c =
    let is = changed_at-is c.args.id (λ entry. record entry { value = c.args.action.now }) c.self.inside.map.entries c.in-Some-get_mut.entry.now (sym c.in-Some-get_mut.ensures.value) in
    let shared = IsSharedOn-updated c.args.limits.now.rxq c.args.self.now.entries c.args.id c.args.action.now (sym c.in_default.ensures) in
    let sound = Sound-changed_at c.args.id (λ entry. record entry { value = c.args.action.now }) (λ k e lawful. (lawful.0, shared.0, lawful.2)) c.self.inside.map.entries c.self.invariant in
    Sound-same (subst Sound is sound) (search rules)

pub returns-clause-updated : goal.returns-clause-updated
returns-clause-updated c =
    let is = changed_at-is c.args.id (λ entry. record entry { value = c.args.action.now }) c.self.inside.map.entries c.in-Some-get_mut.entry.now (sym c.in-Some-get_mut.ensures.value) in
    search (rules, is)
