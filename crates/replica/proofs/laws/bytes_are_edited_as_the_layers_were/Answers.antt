use Rattle.replica.proofs.WalkedLayers.{walked-layers}
use Rattle.replica.proofs.laws.bytes_are_edited_as_the_layers_were.Goals as goal

pub returns : goal.returns
returns c = walked-layers
