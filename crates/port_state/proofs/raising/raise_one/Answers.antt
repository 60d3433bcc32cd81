use Rattle.std.proofs.Common.{sym, subst, ◌∷◌, [], List}
use Rattle.flow_rules.specs.declared.counter.Counter.{Counter}
use Rattle.flow_rules.specs.declared.counter.Counter.TheVariants as counters
use Rattle.rules_in_effect.specs.declared.in_effect.InEffect.{InEffect}
use Rattle.indirect_counters.specs.Entries.{Entries}
use Rattle.port_state.specs.Raising.{Raises, IsKept}
use Rattle.port_state.proofs.Rises.{Raises-rule, Raises-shared, placed-raised}
use Rattle.port_state.proofs.raising.raise_one.Goals as goal

pub returns-in-Rule : goal.returns-in-Rule
returns-in-Rule c =
    let rules = c.args.rules.now.list in
    let shared = c.args.shared.now.entries in
    let id = c.in-Rule.id in
    subst (λ (n : Counter). Raises rules shared c.raise.new.self.list shared (n ∷ []) c.args.bytes) (sym c.in-Rule.is)
    (subst (λ (list : List InEffect). Raises rules shared list shared (counters.Rule id ∷ []) c.args.bytes) (sym c.raise.ensures.list)
    (Raises-rule id c.args.bytes rules shared (subst (λ (n : Counter). IsKept n rules shared) c.in-Rule.is c.requires.there) (placed-raised id c.args.bytes rules)))

pub returns-in-Shared : goal.returns-in-Shared
returns-in-Shared c =
    let rules = c.args.rules.now.list in
    let shared = c.args.shared.now.entries in
    let id = c.in-Shared.id in
    let there = subst (λ (n : Counter). IsKept n rules shared) c.in-Shared.is c.requires.there in
    subst (λ (n : Counter). Raises rules shared rules c.raise-in-Shared.new.self.entries (n ∷ []) c.args.bytes) (sym c.in-Shared.is)
    (subst (λ (es : Entries). Raises rules shared rules es (counters.Shared id ∷ []) c.args.bytes) (sym c.raise-in-Shared.ensures.entries)
    (Raises-shared id c.args.bytes rules shared there.1))
