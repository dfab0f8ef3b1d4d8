-- ID, fields, links and CRC stand one after the other: that is the image.
use mathlib.Core.Path.{refl}
use native.Mathlib.Omega.{arith}
use lib.Dec.{lit<}
use Rattle.format.specs.Blocks.{image}
use Rattle.encode.proofs.Writes.{last, ◌then◌}
use Rattle.encode.proofs.Images.{block_written}
use Rattle.encode.proofs.write_table.Goals as goal

pub returns : goal.returns
unfolding image
returns c =
    block_written c.args.buf.now c.args.offset 8 _ (lit< tt) refl (omega (arith, c.requires))
    c.write_u8.ensures
    (c.write_u64.ensures then last c.write_bytes.ensures)
    c.seal.ensures
