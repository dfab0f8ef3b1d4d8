-- The words of the block, the rounds, and the sum.
use Rattle.fips180.specs.Hash.{hashed, schedule}
use Rattle.compression.proofs.hash_block.Goals as goal

pub returns : goal.returns
unfolding hashed schedule
returns c = cc
