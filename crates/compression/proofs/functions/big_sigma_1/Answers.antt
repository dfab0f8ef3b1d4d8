-- Three rotations, added.
use Rattle.fips180.specs.Functions.{Σ1, ROTR}
use Rattle.compression.proofs.functions.big_sigma_1.Goals as goal

pub returns : goal.returns
unfolding Σ1 ROTR
returns c = cc
