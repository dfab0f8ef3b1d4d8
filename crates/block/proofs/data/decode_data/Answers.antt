-- Each field is what its reading gives, and the payload begins after the fixed fields.
use Rattle.block.specs.inner.Decoded.{block_of}
use Rattle.block.proofs.data.decode_data.Goals as goal

pub returns : goal.returns
unfolding block_of
returns c = rw (c.read_u64-n.ensures, c.read_u64.ensures)
