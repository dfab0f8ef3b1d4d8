-- ID, fields, name, value and CRC stand one after the other: that is the image.
use native.Mathlib.Omega.{arith}
use lib.ListN.{length-append}
use lib.Dec.{lit<}
use Rattle.format.specs.Blocks.{image}
use Rattle.encode.proofs.Writes.{last, ◌then◌}
use Rattle.encode.proofs.Images.{block_written}
use Rattle.encode.proofs.write_xattr.Goals as goal

pub returns : goal.returns
unfolding image
returns c =
    block_written c.args.buf.now c.args.offset 4 _ (lit< tt)
    (omega (arith, length-append c.args.b.name.now c.args.b.value.now)) (omega (arith, c.requires))
    c.write_u8.ensures
    (c.write_u64.ensures then c.write_u64-2.ensures then c.write_u8-2.ensures
    then c.write_u16.ensures then last c.write_two.ensures)
    c.seal.ensures
