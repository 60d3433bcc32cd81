use Rattle.std.proofs.Common.{sym, ap, subst, arith}
use Rattle.std.specs.Option.{option_map}
use Rattle.flow_actions.specs.Kinds.{kind_of}
use Rattle.indirect_counters.specs.Sound.{Sound}
use Rattle.indirect_counters.proofs.Lawful.{in_effect-short}
use Rattle.indirect_counters.proofs.indirects.IndirectsKnown.kind_of.Goals as goal

pub returns-then-id : goal.returns-then-id
returns-then-id c =
    let sound = subst Sound (ap (λ v. v.entries) c.self.view_is) c.self.invariant in
    ap (λ o. option_map kind_of (option_map (λ entry. entry.value) o)) (sym (in_effect-short c.args.id c.args.self.now.entries sound.lawful (omega (arith, c.if-id.true))))
