use Rattle.std.proofs.Common.{◌∙◌, ◌≤◌, nat_eq, IsSome, sym, subst, arith}
use Rattle.std.specs.Map.{lookup}
use Rattle.template_tables.specs.Slots.{IsFirstAt}
use Rattle.template_tables.proofs.Placed.{some-removed}
use Rattle.template_tables.proofs.table.Table.free.Goals as goal

pub invariant_of-self : goal.invariant_of-self
invariant_of-self c =
    let table = c.self.inside in
    let found = subst (λ l. IsFirstAt c.args.id l c.in_ok-place.place) c.as_slice.ensures.value c.in_ok-place.ensures.found in
    record {
      fits = omega (arith, c.self.invariant.fits, c.remove.ensures.len);
      room = subst (λ n. table.rules_number ≤ n) (sym c.remove.ensures.capacity) c.self.invariant.room;
      below = λ k some. c.self.invariant.below k (some-removed (nat_eq c.args.id) (nat_eq k) table.slots.items
          (subst (λ l. IsSome (lookup (nat_eq k) l)) (c.remove.ensures.items ∙ found.without) some));
    }
