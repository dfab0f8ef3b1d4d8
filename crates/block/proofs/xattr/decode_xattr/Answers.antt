-- Each field is what its reading gives; the name begins after the fixed fields and the value after the name.
use Rattle.block.specs.inner.Decoded.{block_of}
use Rattle.block.proofs.xattr.decode_xattr.Goals as goal

pub returns : goal.returns
unfolding block_of
returns c =
    rw (
      c.read_u8-n.ensures,
      c.read_u16-m.ensures,
      c.read_u64.ensures,
      c.read_u64-2.ensures,
    )
