use Rattle.std.proofs.Common.{◌≤◌, nat_eq, ℕ, Option, Some, IsSome, sym, subst}
use Rattle.std.specs.Map.{lookup}
use Rattle.std.proofs.lemmas.List.{length-set}
use Rattle.flow_rules.specs.RuleView.{RuleView}
use Rattle.template_tables.specs.Slots.{IsFirstAt}
use Rattle.template_tables.proofs.Placed.{some-written}
use Rattle.template_tables.proofs.table.Table.settle.Goals as goal

pub invariant_of-self-in-Some-2 : goal.invariant_of-self-in-Some-2
invariant_of-self-in-Some-2 c =
    let table = c.self.inside in
    let slot : ℕ × Option RuleView = (c.id-id.result, Some c.args.rule) in
    let found = subst (λ l. IsFirstAt c.id-id.result l c.in-Some.place) c.as_slice.ensures.value c.in-Some.ensures.found in
    record {
      fits = subst (λ n. n ≤ table.rules_number) (sym (length-set table.slots.items c.in-Some.place slot)) c.self.invariant.fits;
      room = c.self.invariant.room;
      below = λ k some. c.self.invariant.below k (some-written (nat_eq c.id-id.result) (nat_eq k) table.slots.items (Some c.args.rule)
          (subst (λ l. IsSome (lookup (nat_eq k) l)) (found.written (Some c.args.rule)) some));
    }
