-- The mode and the n bytes are those of the inode.
use Rattle.block.specs.Shown.{shown}
use Rattle.block.specs.inner.Decoded.{block_of}
use Rattle.texts.proofs.standing.bad_in_inode.Goals as goal

pub returns : goal.returns
unfolding shown block_of
returns c = rw (← c.read_u16-mode.ensures, ← c.read_u64-n.ensures, ← c.part_of.ensures) c.bad_target.ensures
