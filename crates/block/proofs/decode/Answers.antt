-- Each kind has a call that decodes its blocks; a block without a fault lies within the volume.
use mathlib.Core.Path.{◌≡◌, sym, ap, ◌∙◌}
use Rattle.format.specs.Blocks.{inode_block, link_block, unlink_block, xattr_block, removed_xattr_block, data_block, rename_block, link_table}
use Rattle.format.specs.Kinds.{kind_named}
use Rattle.block.specs.Fields.{kind_at, body_length}
use Rattle.block.specs.inner.Decoded.{block_of}
use Rattle.block.proofs.Passed.{block_within, few_links}
use Rattle.block.proofs.decode.Goals as goal

pub decode_inode-requires : goal.decode_inode-requires
decode_inode-requires c =
    let a = c.args in
    block_within inode_block a.volume.now a.offset (sym c.kind_at.ensures ∙ ap kind_named c.in-Inode.is) c.requires

pub decode_link-requires : goal.decode_link-requires
decode_link-requires c =
    let a = c.args in
    block_within link_block a.volume.now a.offset (sym c.kind_at.ensures ∙ ap kind_named c.in-Link.is) c.requires

pub decode_link-requires-in-Unlink : goal.decode_link-requires-in-Unlink
unfolding body_length
decode_link-requires-in-Unlink c =
    let a = c.args in
    block_within unlink_block a.volume.now a.offset (sym c.kind_at.ensures ∙ ap kind_named c.in-Unlink.is) c.requires

pub decode_xattr-requires : goal.decode_xattr-requires
decode_xattr-requires c =
    let a = c.args in
    block_within xattr_block a.volume.now a.offset (sym c.kind_at.ensures ∙ ap kind_named c.in-Xattr.is) c.requires

pub decode_removed_xattr-requires : goal.decode_removed_xattr-requires
decode_removed_xattr-requires c =
    let a = c.args in
    block_within removed_xattr_block a.volume.now a.offset (sym c.kind_at.ensures ∙ ap kind_named c.in-RemovedXattr.is) c.requires

pub decode_data-requires : goal.decode_data-requires
decode_data-requires c =
    let a = c.args in
    block_within data_block a.volume.now a.offset (sym c.kind_at.ensures ∙ ap kind_named c.in-Data.is) c.requires

pub decode_rename-requires : goal.decode_rename-requires
decode_rename-requires c =
    let a = c.args in
    block_within rename_block a.volume.now a.offset (sym c.kind_at.ensures ∙ ap kind_named c.in-Rename.is) c.requires

pub decode_table-requires : goal.decode_table-requires
decode_table-requires c =
    let a = c.args in
    let k : kind_at a.volume.now a.offset ≡ link_table = sym c.kind_at.ensures ∙ ap kind_named c.in-Table.is in
    (block_within link_table a.volume.now a.offset k c.requires, few_links a.volume.now a.offset k c.requires)

pub returns-in-Inode : goal.returns-in-Inode
returns-in-Inode c = rw (← c.kind_at.ensures, c.in-Inode.is) c.decode_inode.ensures

pub returns-in-Link : goal.returns-in-Link
unfolding block_of
returns-in-Link c = rw (← c.kind_at.ensures, c.in-Link.is, c.decode_link.ensures)

pub returns-in-Unlink : goal.returns-in-Unlink
unfolding block_of
returns-in-Unlink c = rw (← c.kind_at.ensures, c.in-Unlink.is, c.decode_link-in-Unlink.ensures)

pub returns-in-Xattr : goal.returns-in-Xattr
returns-in-Xattr c = rw (← c.kind_at.ensures, c.in-Xattr.is) c.decode_xattr.ensures

pub returns-in-RemovedXattr : goal.returns-in-RemovedXattr
returns-in-RemovedXattr c = rw (← c.kind_at.ensures, c.in-RemovedXattr.is) c.decode_removed_xattr.ensures

pub returns-in-Data : goal.returns-in-Data
returns-in-Data c = rw (← c.kind_at.ensures, c.in-Data.is) c.decode_data.ensures

pub returns-in-Rename : goal.returns-in-Rename
returns-in-Rename c = rw (← c.kind_at.ensures, c.in-Rename.is) c.decode_rename.ensures

pub returns-in-Table : goal.returns-in-Table
returns-in-Table c = rw (← c.kind_at.ensures, c.in-Table.is) c.decode_table.ensures
