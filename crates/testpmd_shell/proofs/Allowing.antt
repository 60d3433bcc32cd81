-- A shelf that allows every name allows those of any options.
use Rattle.std.proofs.Common.{ℕ, List, Option, None, Some, IsTrue}
use Rattle.io_edges.specs.ShelfState.{ShelfState}
use Rattle.io_edges.specs.declared.shelf.Slot.{Slot}
use Rattle.io_edges.specs.declared.shelf.Slot.TheVariants as slots
use Rattle.testpmd_shell.specs.Options.{Given}
use Rattle.testpmd_shell.specs.Session.{Allows, AllowsCapture, AllowsTransmit}

pub allows-all : (given : Option Given) (s : ShelfState) → ((slot : Slot) (name : List ℕ) → IsTrue (s.allows_read slot name))
    → ((name : List ℕ) → IsTrue (s.allows_write name)) → Allows given s
allows-all None s reads writes = tt
allows-all (Some given) s reads writes = (reads slots.Script given.script, capture given.capture, transmit given.transmit) where
  capture : (name : Option (List ℕ)) → AllowsCapture name s
  capture None = tt
  capture (Some name) = reads slots.Capture name

  transmit : (name : Option (List ℕ)) → AllowsTransmit name s
  transmit None = tt
  transmit (Some name) = writes name
