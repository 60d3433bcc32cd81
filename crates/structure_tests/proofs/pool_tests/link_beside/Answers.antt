use Rattle.structure_tests.proofs.pool_tests.link_beside.Goals as goal

pub link-requires-clause-chain : goal.link-requires-clause-chain
link-requires-clause-chain g c = rw c.in-Ok.ensures.put c.requires.chain

pub returns-in_default-clause-chain : goal.returns-in_default-clause-chain
returns-in_default-clause-chain g c = rw c.in_default.ensures.err c.requires.chain

pub returns-else-word-eq1-clause-chain : goal.returns-else-word-eq1-clause-chain
returns-else-word-eq1-clause-chain g c = rw c.take.ensures.after c.unlink.ensures.chain
