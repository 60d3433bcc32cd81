use Rattle.std.proofs.Common.{arith, sym, subst, length, ap}
use Rattle.std.specs.List.{All}
use Rattle.indirect_counters.specs.Sound.{IsLawful}
use Rattle.indirect_counters.specs.Entries.{Entries}
use Rattle.indirect_counters.proofs.Lawful.{All-without, length-without}
use Rattle.indirect_counters.proofs.indirects.Indirects.remove.Goals as goal

pub invariant_of-self : goal.invariant_of-self
invariant_of-self c =
    let is = c.shift_remove-gone.ensures.entries in
    record {
      ids = c.shift_remove-gone.ensures.unique;
      few = omega (arith, ap (λ (es : Entries). length es) is, length-without c.args.id c.self.inside.map.entries, c.self.invariant.few);
      lawful = subst (λ (es : Entries). All IsLawful es) (sym is) (All-without IsLawful c.args.id c.self.inside.map.entries c.self.invariant.lawful);
    }
