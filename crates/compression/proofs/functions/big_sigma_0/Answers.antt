-- Three rotations, added.
use Rattle.fips180.specs.Functions.{Σ0, ROTR}
use Rattle.compression.proofs.functions.big_sigma_0.Goals as goal

pub returns : goal.returns
unfolding Σ0 ROTR
returns c = cc
