use Rattle.std.proofs.Common.{refl}
use Rattle.flow_actions.specs.Hash.{window, hash_key, windows_at}
use Rattle.flow_actions.specs.Halves.{half_table, half_hash}
use Rattle.flow_actions.proofs.halves.halves.Goals as goal

pub returns : goal.returns
unfolding half_table half_hash windows_at window hash_key
returns c = refl
