-- No kind has an ID other than these eight.
use Prim.Native.Nat.{◌≤◌}
use native.Mathlib.Omega.{arith}
use Rattle.format.specs.Blocks.{Kind, inode_block, link_block, unlink_block, xattr_block, removed_xattr_block, data_block, rename_block, link_table, id_of}
use Rattle.format.proofs.kind.Kind.of.Goals as goal

id_within : (kind : Kind) → (1 ≤ id_of kind) × (id_of kind ≤ 8)
id_within inode_block = (omega arith, omega arith)
id_within link_block = (omega arith, omega arith)
id_within unlink_block = (omega arith, omega arith)
id_within xattr_block = (omega arith, omega arith)
id_within removed_xattr_block = (omega arith, omega arith)
id_within data_block = (omega arith, omega arith)
id_within rename_block = (omega arith, omega arith)
id_within link_table = (omega arith, omega arith)

pub returns-in_default : goal.returns-in_default
returns-in_default c kind e = let w = id_within kind in omega arith
