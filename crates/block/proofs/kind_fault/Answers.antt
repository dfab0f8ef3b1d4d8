-- Each kind has a table of checks of its own, which one call answers.
use Rattle.block.proofs.Faults.{unlink_as_link}
use Rattle.block.proofs.kind_fault.Goals as goal

pub returns-in-Inode : goal.returns-in-Inode
returns-in-Inode c = rw c.in-Inode.is c.inode_fault.ensures

pub returns-in-Link : goal.returns-in-Link
returns-in-Link c = rw c.in-Link.is c.link_fault.ensures

pub returns-in-Unlink : goal.returns-in-Unlink
returns-in-Unlink c = rw (c.in-Unlink.is, unlink_as_link) c.link_fault-in-Unlink.ensures

pub returns-in-Xattr : goal.returns-in-Xattr
returns-in-Xattr c = rw c.in-Xattr.is c.xattr_fault.ensures

pub returns-in-RemovedXattr : goal.returns-in-RemovedXattr
returns-in-RemovedXattr c = rw c.in-RemovedXattr.is c.removed_xattr_fault.ensures

pub returns-in-Data : goal.returns-in-Data
returns-in-Data c = rw c.in-Data.is c.data_fault.ensures

pub returns-in-Rename : goal.returns-in-Rename
returns-in-Rename c = rw c.in-Rename.is c.rename_fault.ensures

pub returns-in-Table : goal.returns-in-Table
returns-in-Table c = rw c.in-Table.is c.table_fault.ensures
