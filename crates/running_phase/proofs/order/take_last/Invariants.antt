use Rattle.std.proofs.Common.{◌≡◌, ◌++◌, map, fold, take, drop, None}
use Rattle.std.specs.Option.{option_map}
use Rattle.running_phase.specs.Copies.{record_of}
use Rattle.running_phase.specs.Orders.{held, last_by, shortened_by}
use Rattle.running_phase.proofs.order.take_last.Given as goal

abbrev pub invariant-loop-list : goal.invariant-loop-list
invariant-loop-list l =
    let was = map held l.fn.lists.items in
    record {
      left : map held l.list-items ≡ map (shortened_by l.caller.0) (take l.list-index was) ++ drop l.list-index was;
      last : option_map record_of l.last ≡ fold (last_by l.caller.0) None (take l.list-index was);
    }
