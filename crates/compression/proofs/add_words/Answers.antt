-- Word by word.
use mathlib.Core.Path.{refl}
use Rattle.fips180.specs.Hash.{added}
use Rattle.compression.proofs.add_words.Goals as goal

pub returns : goal.returns
unfolding added
returns c = refl
