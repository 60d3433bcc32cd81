-- What the functions that read a frame give, as layers: those that they read, and behind these the
-- layers that `inside` finds where a VXLAN header may stand.
use Rattle.std.specs.Prelude.{Option, Some, None, List, [], ◌++◌}
use Rattle.packet_headers.specs.declared.items.LayerAt.{LayerAt}
use Rattle.packet_headers.specs.declared.reading.Payload.{Payload}
use Rattle.packet_headers.specs.declared.reading.Upper.{Upper}
use Rattle.packet_headers.specs.declared.reading.Reading.{Reading}
use Rattle.packet_headers.specs.Layers.{Payloads}
use Rattle.packet_headers.specs.Stack as stack

abbrev pub payload_layers : Payloads → Option Payload → List LayerAt
payload_layers inside None = []
payload_layers inside (Some p) = inside p.offset p.bytes.now

abbrev pub transport_reading : Payloads → Upper → List LayerAt
transport_reading inside u = stack.transport_layers u.transport ++ payload_layers inside u.payload

abbrev pub network_reading : Payloads → Upper → List LayerAt
network_reading inside u =
    (stack.network_layers u.network ++ stack.transport_layers u.transport) ++ payload_layers inside u.payload

abbrev pub typed_reading : Payloads → Upper → List LayerAt
typed_reading inside u =
    (stack.tag_layers u.tags ++ (stack.network_layers u.network ++ stack.transport_layers u.transport)) ++ payload_layers inside u.payload

abbrev pub frame_reading : Payloads → Reading → List LayerAt
frame_reading inside r = stack.stack_layers r.stack ++ payload_layers inside r.payload
