-- The first words and zeros.
use Rattle.sha256.specs.Feeding.{new}
use Rattle.sha256.proofs.Digest.start.Goals as goal

pub returns : goal.returns
unfolding new
returns c = cc
