use Rattle.std.proofs.Common.{rules, arith, ap, ◌∙◌, nat_eq, sym, subst}
use Rattle.std.specs.List.{IsDistinct}
use Rattle.std.specs.Map.{keys_of}
use Rattle.indirect_counters.specs.Entries.{Entries}
use Rattle.indirect_counters.specs.Effects.{activated}
use Rattle.indirect_counters.specs.Sound.{Sound, IsLawful}
use Rattle.indirect_counters.proofs.Lawful.{Sound-same, All-activated, length-activated}
use Rattle.indirect_counters.proofs.Moving.{activated-is}
use Rattle.indirect_counters.proofs.indirects.Indirects.activate.Goals as goal

pub invariant_of-self-2 : goal.invariant_of-self-2
invariant_of-self-2 c =
    let is = activated-is c.args.id c.self.inside.map.entries c.in-Some.entry.now c.move_index.ensures.entries c.in-Some-get_index_of.ensures.index c.len-last.ensures.len
    (sym c.in-Some.ensures.value) (search rules) in
    let few = length-activated c.args.id c.self.inside.map.entries in
    let sound : Sound (activated c.args.id c.self.inside.map.entries) = record {
      ids = subst (λ (es : Entries). IsDistinct nat_eq (keys_of es)) is c.move_index.ensures.unique;
      few = omega (arith, few, c.self.invariant.few);
      lawful = All-activated IsLawful c.args.id c.self.inside.map.entries (λ entry lawful. (lawful.0, lawful.1, omega arith)) c.self.invariant.lawful;
    } in
    Sound-same sound is

pub returns-clause-entries : goal.returns-clause-entries
returns-clause-entries c =
    activated-is c.args.id c.self.inside.map.entries c.in-Some.entry.now c.move_index.ensures.entries c.in-Some-get_index_of.ensures.index c.len-last.ensures.len
    (sym c.in-Some.ensures.value) (search rules)
    ∙ ap (λ (es : Entries). activated c.args.id es) (ap (λ v. v.entries) c.self.view_is)
