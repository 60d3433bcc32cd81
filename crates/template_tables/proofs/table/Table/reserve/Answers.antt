use Rattle.std.proofs.Common.{◌≤◌, ◌<◌, length, nat_eq, None, IsSome, sym, subst, arith}
use Rattle.std.specs.Map.{lookup}
use Rattle.template_tables.specs.Slots.{IsAbove}
use Rattle.template_tables.specs.TableView.{TableView}
use Rattle.template_tables.proofs.Placed.{below_pushed}
use Rattle.template_tables.proofs.table.Table.reserve.Goals as goal

pub invariant_of-self : goal.invariant_of-self
invariant_of-self c =
    let table = c.self.inside in
    let above = subst (λ (v : TableView). IsAbove c.args.id v.greatest) (sym c.self.view_is) c.requires.above in
    let room = subst (λ (v : TableView). length v.slots < v.rules_number) (sym c.self.view_is) c.requires.room in
    record {
      fits = omega (arith, room, c.push_reserved.ensures.len);
      room = subst (λ n. table.rules_number ≤ n) (sym c.push_reserved.ensures.capacity) c.self.invariant.room;
      below = λ k some. below_pushed table.slots.items table.greatest c.args.id None c.self.invariant.below above k
          (subst (λ l. IsSome (lookup (nat_eq k) l)) c.push_reserved.ensures.items some);
    }
