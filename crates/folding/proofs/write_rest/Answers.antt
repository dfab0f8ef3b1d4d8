-- The window and three times the window later.
use Rattle.folding.specs.inner.Folding.{spread}
use Rattle.folding.proofs.write_rest.Goals as goal

pub returns : goal.returns
unfolding spread
returns c = cc
