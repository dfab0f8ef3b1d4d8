-- Six fields of eight bytes stand one after the other, and the bytes after them.
use native.Mathlib.Omega.{arith}
use Rattle.encode.proofs.Writes.{last, ◌then◌, written_at}
use Rattle.encode.proofs.write_inode_tail.Goals as goal

pub returns : goal.returns
returns c =
    written_at c.args.buf.now c.args.at c.args.b.atime (omega (arith, c.requires)) c.write_u64.ensures
    (c.write_u64-2.ensures then c.write_u64-3.ensures then c.write_u64-4.ensures
    then c.write_u64-5.ensures then c.write_u64-6.ensures then last c.write_bytes.ensures)
