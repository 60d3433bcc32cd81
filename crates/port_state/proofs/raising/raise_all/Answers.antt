use Rattle.std.proofs.Common.{◌<◌, ap, subst, length, map, flat_map, take, get_or, List, arith, length-append}
use Rattle.flow_rules.specs.declared.counter.Counter.{Counter}
use Rattle.flow_rules.specs.Naming.{rule_at, namings_of}
use Rattle.rules_in_effect.specs.Entries.{rule_in}
use Rattle.indirect_counters.specs.Entries.{values_in_effect}
use Rattle.port_state.specs.Raising.{Raises}
use Rattle.port_state.proofs.Rises.{Raises-then, path-more}
use Rattle.port_state.proofs.raising.raise_all.Goals as goal

pub loop-place-preserved : goal.loop-place-preserved
loop-place-preserved c =
    let r = c.args.rules.now.list in
    let s = c.args.shared.now.entries in
    let r1 = c.loop-place.rules.list in
    let s1 = c.loop-place.shared.entries in
    let r2 = c.raise_rule.new.rules.list in
    let s2 = c.raise_rule.new.shared.entries in
    let i = c.loop-place.place in
    let path = c.args.path.now in
    let bytes = c.args.bytes in
    let inv = c.loop-place.invariant in
    let names : List Counter = flat_map (λ id. namings_of (values_in_effect s) (rule_at id (map rule_in r))) (take i path) in
    let within : i < length path = omega (arith, inv.2, c.loop-place-test.true) in
    let here : List Counter = namings_of (values_in_effect s1) (rule_at (get_or path i 0) (map rule_in r1)) in
    let next = path-more r r1 s s1 names bytes inv.0 path i within in (
      subst (λ (ns : List Counter). Raises r s r2 s2 ns bytes) next (Raises-then r r1 r2 s s1 s2 names here bytes inv.0 c.raise_rule.ensures.raises),
      omega (arith, ap length next, length-append names here, c.raise_rule.ensures.few, inv.1),
      inv.2,
    )
