-- Each field is what its reading gives; the old path begins after the fixed fields and the new one after it.
use Rattle.block.specs.inner.Decoded.{block_of}
use Rattle.block.proofs.rename.decode_rename.Goals as goal

pub returns : goal.returns
unfolding block_of
returns c = rw (c.read_u16-n.ensures, c.read_u16-m.ensures, c.read_u64.ensures)
