use Rattle.std.proofs.Common.{rules, ◌-◌, sym, subst}
use Rattle.indirect_counters.specs.Sound.{Sound}
use Rattle.indirect_counters.proofs.Lawful.{changed_at-is, Sound-changed_at, Sound-same}
use Rattle.indirect_counters.proofs.indirects.Indirects.release.Goals as goal

pub invariant_of-self-2 : goal.invariant_of-self-2
invariant_of-self-2 c =
    let is = changed_at-is c.args.id (λ entry. record entry { users = entry.users - 1 }) c.self.inside.map.entries c.in-Some.entry.now (sym c.in-Some.ensures.value) in
    let sound = Sound-changed_at c.args.id (λ entry. record entry { users = entry.users - 1 }) (λ k e lawful. lawful) c.self.inside.map.entries c.self.invariant in
    Sound-same (subst Sound is sound) (search rules)

pub returns-clause-entries : goal.returns-clause-entries
returns-clause-entries c =
    let is = changed_at-is c.args.id (λ entry. record entry { users = entry.users - 1 }) c.self.inside.map.entries c.in-Some.entry.now (sym c.in-Some.ensures.value) in
    search (rules, is)
