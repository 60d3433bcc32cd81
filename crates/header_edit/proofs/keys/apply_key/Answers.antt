use Rattle.std.proofs.Common.{map, ◌++◌, subst, sym, ap, ◌∙◌}
use Rattle.packet_headers.specs.Stack.{stack_layers, outer_layers, tunnel_layers}
use Rattle.header_edit.specs.Layers.{edit_layers, place_of}
use Rattle.packet_headers.specs.Layers.{LieWithin}
use Rattle.header_edit.proofs.Members.{LieWithin-edit_layers, place_of-edit_layers}
use Rattle.header_edit.proofs.OnStack.{edit_layers-tunnel, NoVxlan-stack}
use Rattle.header_edit.proofs.keys.apply_key.Goals as goal

pub returns-clause-layers : goal.returns-clause-layers
returns-clause-layers c =
    let s = c.in-Some.stack in
    let t = c.key.inside.tunnel in
    ap (λ ls. ls ++ tunnel_layers t) c.edit_stack.ensures
    ∙ (sym (edit_layers-tunnel c.args.edit (stack_layers s) t (NoVxlan-stack s))
    ∙ ap (edit_layers c.args.edit) (ap (λ o. outer_layers o ++ tunnel_layers t) (sym c.in-Some.is) ∙ c.key.view_is))

pub returns-clause-within : goal.returns-clause-within
returns-clause-within c =
    λ from end w. subst (λ ls. LieWithin from end ls) (sym (returns-clause-layers c)) (LieWithin-edit_layers c.args.edit from end c.args.key.now w)

pub returns-clause-places : goal.returns-clause-places
returns-clause-places c = ap (map place_of) (returns-clause-layers c) ∙ place_of-edit_layers c.args.edit c.args.key.now
