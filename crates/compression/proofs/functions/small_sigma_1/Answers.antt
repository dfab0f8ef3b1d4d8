-- Two rotations and a shift, added.
use Rattle.fips180.specs.Functions.{σ1, ROTR}
use Rattle.compression.proofs.functions.small_sigma_1.Goals as goal

pub returns : goal.returns
unfolding σ1 ROTR
returns c = cc
