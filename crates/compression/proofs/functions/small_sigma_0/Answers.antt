-- Two rotations and a shift, added.
use Rattle.fips180.specs.Functions.{σ0, ROTR}
use Rattle.compression.proofs.functions.small_sigma_0.Goals as goal

pub returns : goal.returns
unfolding σ0 ROTR
returns c = cc
