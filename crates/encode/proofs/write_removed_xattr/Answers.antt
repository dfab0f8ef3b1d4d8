-- ID, fields, name and CRC stand one after the other: that is the image.
use mathlib.Core.Path.{refl}
use native.Mathlib.Omega.{arith}
use lib.Dec.{lit<}
use Rattle.format.specs.Blocks.{image}
use Rattle.encode.proofs.Writes.{last, ◌then◌}
use Rattle.encode.proofs.Images.{block_written}
use Rattle.encode.proofs.write_removed_xattr.Goals as goal

pub returns : goal.returns
unfolding image
returns c =
    block_written c.args.buf.now c.args.offset 5 _ (lit< tt) refl (omega (arith, c.requires))
    c.write_u8.ensures
    (c.write_u64.ensures then c.write_u64-2.ensures then c.write_u8-2.ensures then last c.write_bytes.ensures)
    c.seal.ensures
