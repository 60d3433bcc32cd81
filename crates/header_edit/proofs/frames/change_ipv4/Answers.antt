use Rattle.std.proofs.Common.{◌+◌, ◌≤◌, ◌⊎◌, ◌≡◌, length, ap, ◌∙◌, arith, inl, inr}
use Rattle.packet_headers.specs.Stack.{transport_layers}
use Rattle.header_edit.specs.Frame.{bytes_at, put, with_checksums}
use Rattle.header_edit.proofs.Puts.{bytes_at-put_apart}
use Rattle.header_edit.proofs.frames.change_ipv4.Goals as goal

pub returns : goal.returns
returns c =
    let frame = c.args.frame.now in
    let mended = c.mend.new.frame in
    let new = c.args.new.now in
    let o = c.args.header.now.offset in
    let place = o + c.args.from in
    let sums = transport_layers c.args.transport.now in
    let apart : (place + length new ≤ o + 10) ⊎ (o + 10 + 2 ≤ place) = elim c.requires.apart [ inl h ↦ inl (omega arith) | inr h ↦ inr (omega arith) ] in
    let old : bytes_at place (length new) mended ≡ bytes_at place (length new) frame =
    ap (bytes_at place (length new)) c.mend.ensures ∙ bytes_at-put_apart place (length new) (o + 10) _ frame apart (omega arith) in
    c.change.ensures
    ∙ (ap (λ xs. put place new (with_checksums sums xs new mended)) old
    ∙ ap (λ f. put place new (with_checksums sums (bytes_at place (length new) frame) new f)) c.mend.ensures)
