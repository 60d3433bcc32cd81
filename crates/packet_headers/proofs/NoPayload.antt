-- Where nothing stands behind a UDP header, a frame's layers are its stack's.
use Rattle.std.proofs.Common.{◌≡◌, Option, Some, None, List, ◌++◌, append-nil}
use Rattle.packet_headers.specs.declared.items.LayerAt.{LayerAt}
use Rattle.packet_headers.specs.declared.reading.Payload.{Payload}
use Rattle.packet_headers.specs.Layers.{no_layers}
use Rattle.packet_headers.specs.Payload.{payload_layers}

pub append-no_payload : (ls : List LayerAt) (p : Option Payload) → ls ++ payload_layers no_layers p ≡ ls
append-no_payload ls None = append-nil ls
append-no_payload ls (Some p) = append-nil ls
