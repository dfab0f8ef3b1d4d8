-- Each kind has a call that answers its end; a block without a fault lies within the volume.
use mathlib.Core.Path.{◌≡◌, sym, ap, ◌∙◌}
use Rattle.format.specs.Blocks.{inode_block, link_block, unlink_block, xattr_block, removed_xattr_block, data_block, rename_block, link_table}
use Rattle.format.specs.Kinds.{kind_named}
use Rattle.block.specs.Fields.{kind_at, body_length}
use Rattle.block.proofs.Passed.{block_within, few_links}
use Rattle.block.proofs.end_at.Goals as goal

pub inode_end-requires : goal.inode_end-requires
inode_end-requires c =
    let a = c.args in
    block_within inode_block a.volume.now a.offset (sym c.kind_at.ensures ∙ ap kind_named c.in-Inode.is) c.requires

pub link_end-requires : goal.link_end-requires
link_end-requires c =
    let a = c.args in
    block_within link_block a.volume.now a.offset (sym c.kind_at.ensures ∙ ap kind_named c.in-Link.is) c.requires

pub link_end-requires-in-Unlink : goal.link_end-requires-in-Unlink
unfolding body_length
link_end-requires-in-Unlink c =
    let a = c.args in
    block_within unlink_block a.volume.now a.offset (sym c.kind_at.ensures ∙ ap kind_named c.in-Unlink.is) c.requires

pub xattr_end-requires : goal.xattr_end-requires
xattr_end-requires c =
    let a = c.args in
    block_within xattr_block a.volume.now a.offset (sym c.kind_at.ensures ∙ ap kind_named c.in-Xattr.is) c.requires

pub removed_xattr_end-requires : goal.removed_xattr_end-requires
removed_xattr_end-requires c =
    let a = c.args in
    block_within removed_xattr_block a.volume.now a.offset (sym c.kind_at.ensures ∙ ap kind_named c.in-RemovedXattr.is) c.requires

pub data_end-requires : goal.data_end-requires
data_end-requires c =
    let a = c.args in
    block_within data_block a.volume.now a.offset (sym c.kind_at.ensures ∙ ap kind_named c.in-Data.is) c.requires

pub rename_end-requires : goal.rename_end-requires
rename_end-requires c =
    let a = c.args in
    block_within rename_block a.volume.now a.offset (sym c.kind_at.ensures ∙ ap kind_named c.in-Rename.is) c.requires

pub table_end-requires : goal.table_end-requires
table_end-requires c =
    let a = c.args in
    let k : kind_at a.volume.now a.offset ≡ link_table = sym c.kind_at.ensures ∙ ap kind_named c.in-Table.is in
    (block_within link_table a.volume.now a.offset k c.requires, few_links a.volume.now a.offset k c.requires)

pub returns-in-Inode : goal.returns-in-Inode
returns-in-Inode c = rw (← c.kind_at.ensures, c.in-Inode.is) c.inode_end.ensures

pub returns-in-Link : goal.returns-in-Link
returns-in-Link c = rw (← c.kind_at.ensures, c.in-Link.is) c.link_end.ensures

pub returns-in-Unlink : goal.returns-in-Unlink
unfolding body_length
returns-in-Unlink c = rw (← c.kind_at.ensures, c.in-Unlink.is) c.link_end-in-Unlink.ensures

pub returns-in-Xattr : goal.returns-in-Xattr
returns-in-Xattr c = rw (← c.kind_at.ensures, c.in-Xattr.is) c.xattr_end.ensures

pub returns-in-RemovedXattr : goal.returns-in-RemovedXattr
returns-in-RemovedXattr c = rw (← c.kind_at.ensures, c.in-RemovedXattr.is) c.removed_xattr_end.ensures

pub returns-in-Data : goal.returns-in-Data
returns-in-Data c = rw (← c.kind_at.ensures, c.in-Data.is) c.data_end.ensures

pub returns-in-Rename : goal.returns-in-Rename
returns-in-Rename c = rw (← c.kind_at.ensures, c.in-Rename.is) c.rename_end.ensures

pub returns-in-Table : goal.returns-in-Table
returns-in-Table c = rw (← c.kind_at.ensures, c.in-Table.is) c.table_end.ensures
