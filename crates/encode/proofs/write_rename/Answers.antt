-- ID, fields, paths and CRC stand one after the other: that is the image.
use native.Mathlib.Omega.{arith}
use lib.ListN.{length-append}
use lib.Dec.{lit<}
use Rattle.format.specs.Blocks.{image}
use Rattle.encode.proofs.Writes.{last, ◌then◌}
use Rattle.encode.proofs.Images.{block_written}
use Rattle.encode.proofs.write_rename.Goals as goal

pub returns : goal.returns
unfolding image
returns c =
    block_written c.args.buf.now c.args.offset 7 _ (lit< tt)
    (omega (arith, length-append c.args.b.old.now c.args.b.new.now)) (omega (arith, c.requires))
    c.write_u8.ensures
    (c.write_u64.ensures then c.write_u16.ensures then c.write_u16-2.ensures then last c.write_two.ensures)
    c.seal.ensures
