-- Each image has the bytes of its layout and of its variable parts. A link's and an unlink's bytes are their images.
use Prim.Native.Nat.{ℕ, ◌+◌, ◌≤◌}
use mathlib.Core.Path.{◌≡◌}
use native.Mathlib.Omega.{arith}
use lib.ListN.{length, length-append}
use Rattle.format.specs.Blocks.{kind_of, body, image}
use Rattle.format.specs.Asked.{asked}
use Rattle.format.specs.declared.new_block.NewBlock.{NewBlock}
use Rattle.format.proofs.Images.{size_of, length-image}
use Rattle.encode.proofs.write_block.Goals as goal

-- the bytes of the image, counted by its parts
by_parts : (offset room : ℕ) {block found : NewBlock} → block ≡ found → offset + length (image (asked block)) ≤ room
    → offset + (size_of (kind_of (asked found)) + length (body (asked found))) ≤ room
by_parts offset room {found} e h = let fits = rw e at h in omega (arith, length-image (asked found))

pub write_inode-requires : goal.write_inode-requires
write_inode-requires c = omega (arith, by_parts _ _ c.in-Inode.is c.requires.in_bounds)

pub write_link-requires-clause-name_in_bounds : goal.write_link-requires-clause-name_in_bounds
write_link-requires-clause-name_in_bounds c = omega (arith, by_parts _ _ c.in-Link.is c.requires.in_bounds)

pub write_link-requires-in-Unlink-clause-name_in_bounds : goal.write_link-requires-in-Unlink-clause-name_in_bounds
write_link-requires-in-Unlink-clause-name_in_bounds c = omega (arith, by_parts _ _ c.in-Unlink.is c.requires.in_bounds)

pub write_xattr-requires-clause-value_in_bounds : goal.write_xattr-requires-clause-value_in_bounds
write_xattr-requires-clause-value_in_bounds c =
    omega (arith, length-append c.in-Xattr.b.name.now c.in-Xattr.b.value.now, by_parts _ _ c.in-Xattr.is c.requires.in_bounds)

pub write_removed_xattr-requires-clause-name_in_bounds : goal.write_removed_xattr-requires-clause-name_in_bounds
write_removed_xattr-requires-clause-name_in_bounds c = omega (arith, by_parts _ _ c.in-RemovedXattr.is c.requires.in_bounds)

pub write_data-requires : goal.write_data-requires
write_data-requires c = omega (arith, by_parts _ _ c.in-Data.is c.requires.in_bounds)

pub write_rename-requires-clause-in_bounds : goal.write_rename-requires-clause-in_bounds
write_rename-requires-clause-in_bounds c = omega (arith, length-append c.in-Rename.b.old.now c.in-Rename.b.new.now, by_parts _ _ c.in-Rename.is c.requires.in_bounds)

pub write_table-requires : goal.write_table-requires
write_table-requires c = omega (arith, by_parts _ _ c.in-Table.is c.requires.in_bounds)

pub returns-in-Link : goal.returns-in-Link
unfolding image
returns-in-Link c = rw c.in-Link.is c.write_link.ensures

pub returns-in-Unlink : goal.returns-in-Unlink
unfolding image
returns-in-Unlink c = rw c.in-Unlink.is c.write_link-in-Unlink.ensures
