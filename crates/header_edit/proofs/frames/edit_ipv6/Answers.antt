use Rattle.std.proofs.Common.{◌+◌, sym, ap, ◌∙◌}
use Rattle.byteorder.specs.Endian.{big_bytes}
use Rattle.packet_headers.specs.Stack.{transport_layers}
use Rattle.header_edit.specs.Frame.{changed}
use Rattle.header_edit.proofs.OnStack.{first-transport}
use Rattle.header_edit.proofs.frames.edit_ipv6.Goals as goal

pub returns-in-Ipv6Src : goal.returns-in-Ipv6Src
returns-in-Ipv6Src c =
    let frame = c.args.frame.now in
    let place = c.args.header.now.offset + 8 in
    let u = c.args.transport.now in
    rw c.in-Ipv6Src.is
    (c.change.ensures
    ∙ (ap (λ new. changed place new (transport_layers u) frame) c.to_be_bytes.ensures
    ∙ ap (λ ls. changed place (big_bytes 16 c.in-Ipv6Src.address) ls frame) (sym (first-transport u))))

pub returns-in-Ipv6Dst : goal.returns-in-Ipv6Dst
returns-in-Ipv6Dst c =
    let frame = c.args.frame.now in
    let place = c.args.header.now.offset + 24 in
    let u = c.args.transport.now in
    rw c.in-Ipv6Dst.is
    (c.change-in-Ipv6Dst.ensures
    ∙ (ap (λ new. changed place new (transport_layers u) frame) c.to_be_bytes-in-Ipv6Dst.ensures
    ∙ ap (λ ls. changed place (big_bytes 16 c.in-Ipv6Dst.address) ls frame) (sym (first-transport u))))
