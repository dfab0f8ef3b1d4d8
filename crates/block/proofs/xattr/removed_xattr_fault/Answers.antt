-- With the lengths that are read, the table is that of its text.
use Rattle.block.specs.Fields.{body_length}
use Rattle.block.proofs.xattr.removed_xattr_fault.Goals as goal

pub returns : goal.returns
unfolding body_length
returns c = rw (← c.read_u8-n.ensures) c.text_fault.ensures
