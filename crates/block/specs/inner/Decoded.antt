-- Inner page: the block that stands at an offset, computed: its fields and the places of its variable parts.
-- Joined to ReadClaim of claims/AnyBookmark by read_at_any_bookmark.
-- Joined to ImageAt of claims/BadText by only_shown.
-- Joined to time_of of format/Readings by same_time.
use Rattle.std.specs.Prelude.{Option, Some, None, ℕ, ◌+◌, List}
use Rattle.format.specs.Blocks.{Kind, inode_block, link_block, unlink_block, xattr_block, removed_xattr_block, data_block, rename_block, link_table}
use Rattle.block.specs.Fields.{kind_at, fixed_length, field_at, body_length, first_part, second_part}
use Rattle.block.specs.declared.LinkBlock.{LinkBlock}
use Rattle.block.specs.declared.Block.{Block}
use Rattle.block.specs.declared.Block.TheVariants.{Inode, Link, Unlink, Xattr, RemovedXattr, Data, Rename, Table}

-- what a link or an unlink block holds
abbrev pub link_block_of : Kind → (volume : List ℕ) (offset : ℕ) → LinkBlock
link_block_of kind volume offset =
    record {
      time = field_at kind "time" volume offset;
      child = field_at kind "child" volume offset;
      parent = field_at kind "parent" volume offset;
      name = first_part kind volume offset;
    }

-- the block of a kind at an offset
unfoldable pub block_of : Kind → (volume : List ℕ) (offset : ℕ) → Block
block_of inode_block volume offset =
    Inode (
    record {
      number = field_at inode_block "inode" volume offset;
      time = field_at inode_block "time" volume offset;
      mode = field_at inode_block "mode" volume offset;
      uid = field_at inode_block "uid" volume offset;
      gid = field_at inode_block "gid" volume offset;
      atime = field_at inode_block "atime" volume offset;
      mtime = field_at inode_block "mtime" volume offset;
      ctime = field_at inode_block "ctime" volume offset;
      btime = field_at inode_block "btime" volume offset;
      size = field_at inode_block "size" volume offset;
      rest = first_part inode_block volume offset;
    }
    )
block_of link_block volume offset = Link (link_block_of link_block volume offset)
block_of unlink_block volume offset = Unlink (link_block_of unlink_block volume offset)
block_of xattr_block volume offset =
    Xattr (
    record {
      time = field_at xattr_block "time" volume offset;
      number = field_at xattr_block "inode" volume offset;
      name = first_part xattr_block volume offset;
      value = second_part xattr_block volume offset;
    }
    )
block_of removed_xattr_block volume offset =
    RemovedXattr (
    record {
      time = field_at removed_xattr_block "time" volume offset;
      number = field_at removed_xattr_block "inode" volume offset;
      name = first_part removed_xattr_block volume offset;
    }
    )
block_of data_block volume offset =
    Data (record { time = field_at data_block "time" volume offset; payload = first_part data_block volume offset })
block_of rename_block volume offset =
    Rename (
    record {
      time = field_at rename_block "time" volume offset;
      old = first_part rename_block volume offset;
      new = second_part rename_block volume offset;
    }
    )
block_of link_table volume offset =
    Table (
    record {
      count = field_at link_table "link count" volume offset;
      links = record { offset = offset + fixed_length link_table; len = body_length link_table volume offset };
    }
    )

-- the block at an offset
abbrev pub block_at : (volume : List ℕ) (offset : ℕ) → Block
block_at volume offset = block_of (kind_at volume offset) volume offset

-- the time of a block; a table has none
abbrev pub time_of_block : Block → Option ℕ
time_of_block (Inode b) = Some b.time
time_of_block (Link b) = Some b.time
time_of_block (Unlink b) = Some b.time
time_of_block (Xattr b) = Some b.time
time_of_block (RemovedXattr b) = Some b.time
time_of_block (Data b) = Some b.time
time_of_block (Rename b) = Some b.time
time_of_block (Table b) = None
