use Rattle.std.proofs.Common.{◌∷◌, refl, ap, ◌∙◌}
use Rattle.packet_headers.specs.Headers.{ipv4_layer, ipv6_layer}
use Rattle.header_edit.proofs.OnStack.{edit_layers-alone}
use Rattle.header_edit.proofs.keys.edit_network.Goals as goal

pub returns-in-V4 : goal.returns-in-V4
returns-in-V4 c =
    λ behind h. rw c.in-V4.is (ap (λ l. l ∷ behind) c.edit_ipv4.ensures ∙ edit_layers-alone c.args.edit (ipv4_layer c.in-V4.header) behind refl h)

pub returns-in-V6 : goal.returns-in-V6
returns-in-V6 c =
    λ behind h. rw c.in-V6.is (ap (λ l. l ∷ behind) c.edit_ipv6.ensures ∙ edit_layers-alone c.args.edit (ipv6_layer c.in-V6.header) behind refl h)
