-- Inner page: the lengths that a block's image can say. No public contract rests on it.
use Rattle.std.specs.Prelude.{◌<◌, length}
use Rattle.format.specs.Blocks.{Block, Inode, Link, Unlink, Xattr, RemovedXattr, Data, Rename, Table}

-- Each name, value and path is short enough for its length field, which has one byte or two. Every other length is that of a slice,
-- and its field has the eight bytes of one; a table's links have no length field.
abbrev pub LengthsFit : Block → Type 0
LengthsFit (Inode b) = Unit {0}
LengthsFit (Link b) = length b.name < 65536
LengthsFit (Unlink b) = length b.name < 65536
LengthsFit (Xattr b) = (length b.name < 256) × (length b.value < 65536)
LengthsFit (RemovedXattr b) = length b.name < 256
LengthsFit (Data b) = Unit {0}
LengthsFit (Rename b) = (length b.old < 65536) × (length b.new < 65536)
LengthsFit (Table b) = Unit {0}
