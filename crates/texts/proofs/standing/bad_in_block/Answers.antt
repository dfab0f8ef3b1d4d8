-- Each kind has its texts, which one call looks at.
use Rattle.block.specs.Shown.{shown}
use Rattle.block.specs.inner.Decoded.{block_of}
use Rattle.texts.proofs.standing.bad_in_block.Goals as goal

pub returns-in-Inode : goal.returns-in-Inode
returns-in-Inode c = rw (← c.kind_at.ensures, c.in-Inode.is) c.bad_in_inode.ensures

pub returns-in-Link : goal.returns-in-Link
unfolding shown block_of
returns-in-Link c = rw (← c.kind_at.ensures, c.in-Link.is, ← c.read_u16.ensures) c.bad_name.ensures

pub returns-in-Unlink : goal.returns-in-Unlink
unfolding shown block_of
returns-in-Unlink c = rw (← c.kind_at.ensures, c.in-Unlink.is, ← c.read_u16-in-Unlink.ensures) c.bad_name-in-Unlink.ensures

pub returns-in-Xattr : goal.returns-in-Xattr
unfolding shown block_of
returns-in-Xattr c = rw (← c.kind_at.ensures, c.in-Xattr.is, ← c.read_u8.ensures) c.bad_name-in-Xattr.ensures

pub returns-in-RemovedXattr : goal.returns-in-RemovedXattr
unfolding shown block_of
returns-in-RemovedXattr c =
    rw (← c.kind_at.ensures, c.in-RemovedXattr.is, ← c.read_u8-in-RemovedXattr.ensures) c.bad_name-in-RemovedXattr.ensures

pub returns-in-Data : goal.returns-in-Data
unfolding shown block_of
returns-in-Data c = rw (← c.kind_at.ensures, c.in-Data.is) c.no_text.ensures

pub returns-in-Rename : goal.returns-in-Rename
returns-in-Rename c = rw (← c.kind_at.ensures, c.in-Rename.is) c.bad_path.ensures

pub returns-in-Table : goal.returns-in-Table
returns-in-Table c = rw (← c.kind_at.ensures, c.in-Table.is) c.bad_in_table.ensures
