-- The two parts are the paths of the rename.
use Rattle.block.specs.Shown.{shown}
use Rattle.block.specs.inner.Decoded.{block_of}
use Rattle.texts.proofs.standing.bad_path.Goals as goal

pub returns : goal.returns
unfolding shown block_of
returns c = rw (← c.read_u16-n.ensures, ← c.read_u16-m.ensures, ← c.part_of-old.ensures, ← c.part_of-new.ensures) c.bad_of_two.ensures
