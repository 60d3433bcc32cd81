use Rattle.std.proofs.Common.{rules, arith, ◌<◌, ◌^◌, sym, subst}
use Rattle.indirect_counters.specs.Counts.{counted}
use Rattle.indirect_counters.specs.Sound.{Sound, IsLawful}
use Rattle.indirect_counters.proofs.Counting.{counted-sum, sum-below}
use Rattle.indirect_counters.proofs.Lawful.{All-at, changed_at-is, Sound-changed_at, Sound-same}
use Rattle.indirect_counters.proofs.indirects.Indirects.raise.Goals as goal

pub invariant_of-self-2 : goal.invariant_of-self-2
invariant_of-self-2 c =
    let is = changed_at-is c.args.id (λ entry. record entry { count = counted entry.count c.args.bytes }) c.self.inside.map.entries c.in-Some.entry.now (sym c.in-Some.ensures.value) in
    let sound = Sound-changed_at c.args.id (λ entry. record entry { count = counted entry.count c.args.bytes }) (λ k e lawful. (lawful.0, lawful.1, counted-sum e.count c.args.bytes (omega (arith, c.ranges.bytes.fits)) lawful.2)) c.self.inside.map.entries c.self.invariant in
    Sound-same (subst Sound is sound) (search rules)

pub returns-clause-entries : goal.returns-clause-entries
returns-clause-entries c =
    let is = changed_at-is c.args.id (λ entry. record entry { count = counted entry.count c.args.bytes }) c.self.inside.map.entries c.in-Some.entry.now (sym c.in-Some.ensures.value) in
    search (rules, is)

pub overflow_add-entry-2 : goal.overflow_add-entry-2
overflow_add-entry-2 c =
    let lawful = All-at IsLawful c.args.id c.self.inside.map.entries c.self.invariant.lawful c.in-Some.entry.now (sym c.in-Some.ensures.value) in
    let few : c.in-Some.entry.now.count.hits < 2 ^ 64 = search rules in
    omega (arith, sum-below c.in-Some.entry.now.count few lawful.2, c.ranges.bytes.fits)
