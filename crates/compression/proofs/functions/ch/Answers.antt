-- The definition, as it stands.
use mathlib.Core.Path.{refl}
use Rattle.fips180.specs.Functions.{Ch}
use Rattle.compression.proofs.functions.ch.Goals as goal

pub returns : goal.returns
unfolding Ch
returns c = refl
