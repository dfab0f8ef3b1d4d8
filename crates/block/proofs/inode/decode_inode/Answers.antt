-- Each field is what its reading gives, and the n bytes begin after the fixed fields.
use Rattle.block.specs.inner.Decoded.{block_of}
use Rattle.block.proofs.inode.decode_inode.Goals as goal

pub returns : goal.returns
unfolding block_of
returns c =
    rw (
      c.read_u64-n.ensures,
      c.read_u64.ensures,
      c.read_u64-2.ensures,
      c.read_u16.ensures,
      c.read_u16-2.ensures,
      c.read_u16-3.ensures,
      c.read_u64-3.ensures,
      c.read_u64-4.ensures,
      c.read_u64-5.ensures,
      c.read_u64-6.ensures,
      c.read_u64-7.ensures,
    )
