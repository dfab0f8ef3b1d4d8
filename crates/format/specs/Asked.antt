-- The block that an append is asked for, by the fields and the bytes that are lent.
use Rattle.format.specs.Blocks as format
use Rattle.format.specs.declared.new_block.NewBlock.{NewBlock}
use Rattle.format.specs.declared.new_block.NewBlock.TheVariants.{Inode, Link, Unlink, Xattr, RemovedXattr, Data, Rename, Table}

abbrev pub asked : NewBlock → format.Block
asked (Inode b) =
    format.Inode (record {
      inode = b.inode;
      time = b.time;
      mode = b.mode;
      uid = b.uid;
      gid = b.gid;
      atime = b.atime;
      mtime = b.mtime;
      ctime = b.ctime;
      btime = b.btime;
      size = b.size;
      rest = b.rest.now;
    })
asked (Link b) = format.Link (record { time = b.time; child = b.child; parent = b.parent; name = b.name.now })
asked (Unlink b) = format.Unlink (record { time = b.time; child = b.child; parent = b.parent; name = b.name.now })
asked (Xattr b) = format.Xattr (record { time = b.time; inode = b.inode; name = b.name.now; value = b.value.now })
asked (RemovedXattr b) = format.RemovedXattr (record { time = b.time; inode = b.inode; name = b.name.now })
asked (Data b) = format.Data (record { time = b.time; payload = b.payload.now })
asked (Rename b) = format.Rename (record { time = b.time; old = b.old.now; new = b.new.now })
asked (Table b) = format.Table (record { count = b.count; links = b.links.now })
