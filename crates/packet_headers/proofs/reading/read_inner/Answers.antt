-- No second VXLAN: what a frame's payload would hold is nothing.
use Rattle.std.proofs.Common.{sym, ◌∙◌}
use Rattle.packet_headers.specs.Layers.{no_layers}
use Rattle.packet_headers.specs.Stack.{stack_layers}
use Rattle.packet_headers.proofs.NoPayload.{append-no_payload}
use Rattle.packet_headers.proofs.reading.read_inner.Goals as goal

pub returns : goal.returns
returns c =
    sym (append-no_payload (stack_layers c.read_frame.result.stack) c.read_frame.result.payload)
    ∙ c.read_frame.ensures.layers no_layers
