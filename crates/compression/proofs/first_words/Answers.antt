-- The same eight numbers.
use mathlib.Core.Path.{refl}
use Rattle.fips180.specs.Constants.{H0}
use Rattle.compression.proofs.first_words.Goals as goal

pub returns : goal.returns
unfolding H0
returns c = refl
