-- ID, fields, name and CRC stand one after the other: that is the image.
use mathlib.Core.Path.{refl}
use native.Mathlib.Omega.{arith}
use Rattle.encode.proofs.Writes.{last, ◌then◌}
use Rattle.encode.proofs.Images.{block_written}
use Rattle.encode.proofs.write_link.Goals as goal

pub returns : goal.returns
returns c =
    block_written c.args.buf.now c.args.offset c.args.id _ (omega arith) refl (omega (arith, c.requires))
    c.write_u8.ensures
    (c.write_u64.ensures then c.write_u64-2.ensures then c.write_u64-3.ensures
    then c.write_u16.ensures then last c.write_bytes.ensures)
    c.seal.ensures
