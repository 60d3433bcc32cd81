use Rattle.std.proofs.Common.{◌≡◌, sym, ap, ◌∙◌, subst, List, ◌++◌, length}
use Rattle.packet_headers.specs.declared.items.LayerAt.{LayerAt}
use Rattle.packet_headers.specs.Stack.{stack_layers, tunnel_layers}
use Rattle.packet_headers.specs.Layers.{LieWithin, layers, vxlan_layers}
use Rattle.packet_headers.proofs.InOrder.{LieWithin-layers}
use Rattle.packet_headers.proofs.reading.parse.Goals as goal

pub returns-clause-within : goal.returns-clause-within
unfolding layers
returns-clause-within c =
    let stack = c.read_frame-reading.result.stack in
    let same : stack_layers stack ++ tunnel_layers c.read_tunnel.result ≡ layers c.args.frame.now =
    ap (λ ls. stack_layers stack ++ ls) c.read_tunnel.ensures ∙ c.read_frame-reading.ensures.layers vxlan_layers in
    let P : List LayerAt → Type 0 = LieWithin 0 (length c.args.frame.now) in
    subst P (sym same) (LieWithin-layers c.args.frame.now)
