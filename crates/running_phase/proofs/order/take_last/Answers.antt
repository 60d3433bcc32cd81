use Rattle.std.proofs.Common.{rules, ◌≡◌, ◌∙◌, ◌<◌, get_or, length, map, ap}
use Rattle.std.specs.Option.{option_map, option_or}
use Rattle.running_phase.specs.Copies.{record_of}
use Rattle.running_phase.specs.Orders.{found_by, held, shortened_by}
use Rattle.running_phase.proofs.Backward.{changed_next, last_next, map-or}
use Rattle.running_phase.proofs.order.take_last.Goals as goal

pub loop-list-preserved : goal.loop-list-preserved
loop-list-preserved c =
    let who = c.args.caller.0 in
    let was = map held c.args.lists.now.items in
    let i = c.loop-list.list-index in
    let lists = c.loop-list.list-items in
    let list = get_or lists i c.list-item.result in
    let at : list ≡ get_or lists i list = ap (get_or lists i) c.list-item.is in
    let lt : i < length lists = search rules in
    let next = changed_next held (shortened_by who) lists was i list c.take_from.new.list c.loop-list.invariant.left lt at c.take_from.ensures.left in
    let so_far = option_map record_of c.loop-list.last in
    let found : option_map record_of c.or-last.result ≡ option_or (found_by who (held list)) so_far
    = ap (option_map record_of) c.or-last.ensures ∙ map-or record_of c.take_from.result c.loop-list.last ∙ ap (λ o. option_or o so_far) c.take_from.ensures.last in
    record {
      left = next.2;
      last = last_next who was i (held list) (option_map record_of c.or-last.result) so_far next.1 next.0 c.loop-list.invariant.last found;
    }
