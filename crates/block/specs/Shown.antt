-- What a block that was read shows: by its fields, and by the bytes at the places of its variable parts.
use Rattle.std.specs.Prelude.{ℕ, List, [], ◌∷◌}
use Rattle.format.specs.Blocks as format
use Rattle.block.specs.Fields.{bytes_of}
use Rattle.block.specs.declared.Part.{Part}
use Rattle.block.specs.declared.LinkBlock.{LinkBlock}
use Rattle.block.specs.declared.Block.{Block}
use Rattle.block.specs.declared.Block.TheVariants.{Inode, Link, Unlink, Xattr, RemovedXattr, Data, Rename, Table}

-- what a link or an unlink block shows
abbrev pub shown_fields : (volume : List ℕ) → LinkBlock → format.LinkFields
shown_fields volume b =
    record { time = b.time; child = b.child; parent = b.parent; name = bytes_of volume b.name }

-- the block that the fields and parts show
unfoldable pub shown : (volume : List ℕ) → Block → format.Block
shown volume (Inode b) =
    format.Inode (record {
      inode = b.number;
      time = b.time;
      mode = b.mode;
      uid = b.uid;
      gid = b.gid;
      atime = b.atime;
      mtime = b.mtime;
      ctime = b.ctime;
      btime = b.btime;
      size = b.size;
      rest = bytes_of volume b.rest;
    })
shown volume (Link b) = format.Link (shown_fields volume b)
shown volume (Unlink b) = format.Unlink (shown_fields volume b)
shown volume (Xattr b) =
    format.Xattr (record { time = b.time; inode = b.number; name = bytes_of volume b.name; value = bytes_of volume b.value })
shown volume (RemovedXattr b) =
    format.RemovedXattr (record { time = b.time; inode = b.number; name = bytes_of volume b.name })
shown volume (Data b) = format.Data (record { time = b.time; payload = bytes_of volume b.payload })
shown volume (Rename b) =
    format.Rename (record { time = b.time; old = bytes_of volume b.old; new = bytes_of volume b.new })
shown volume (Table b) = format.Table (record { count = b.count; links = bytes_of volume b.links })

-- the variable parts, in layout order
abbrev pub parts : Block → List Part
parts (Inode b) = b.rest ∷ []
parts (Link b) = b.name ∷ []
parts (Unlink b) = b.name ∷ []
parts (Xattr b) = b.name ∷ b.value ∷ []
parts (RemovedXattr b) = b.name ∷ []
parts (Data b) = b.payload ∷ []
parts (Rename b) = b.old ∷ b.new ∷ []
parts (Table b) = b.links ∷ []
