use Rattle.std.proofs.Common.{◌≡◌, ◌+◌, drop}
use Rattle.std.specs.Int.Bits.{bit_xor}
use Rattle.flow_actions.specs.Hash.{hash_at}
use Rattle.flow_actions.proofs.hash.hash_at.Given as goal

-- the bytes so far and those that are left make the whole
abbrev pub invariant-loop-byte : goal.invariant-loop-byte
invariant-loop-byte l =
    (l.place ≡ l.from + l.byte-index)
    × (bit_xor l.hash (hash_at l.place (drop l.byte-index l.bytes)) ≡ hash_at l.from l.bytes)
