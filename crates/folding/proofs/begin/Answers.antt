-- The buffer holds zeros, and four bytes are written over them.
use Rattle.folding.proofs.Window.{begun}
use Rattle.folding.proofs.begin.Goals as goal

pub returns : goal.returns
returns c = begun _ _ c.requires c.copy_from_slice.ensures.after
