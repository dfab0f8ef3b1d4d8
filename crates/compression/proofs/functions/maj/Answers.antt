-- The definition, as it stands.
use mathlib.Core.Path.{refl}
use Rattle.fips180.specs.Functions.{Maj}
use Rattle.compression.proofs.functions.maj.Goals as goal

pub returns : goal.returns
unfolding Maj
returns c = refl
