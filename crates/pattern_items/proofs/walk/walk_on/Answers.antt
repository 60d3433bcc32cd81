use Rattle.std.proofs.Common.{sym, ◌∙◌}
use Rattle.packet_headers.specs.Stack.{tunnel_layers}
use Rattle.pattern_items.proofs.Walks.{walk_done}
use Rattle.pattern_items.proofs.walk.walk_on.Goals as goal

pub returns-then-is_done : goal.returns-then-is_done
returns-then-is_done g c =
    sym (walk_done (g.W.Walker.step c.args.walker.now) c.args.way (tunnel_layers c.args.tunnel.now)
    (λ l. g.met.W.Walker.stays c.args.walker.now c.args.way l (sym c.is_done.ensures ∙ c.if-is_done.true)))
