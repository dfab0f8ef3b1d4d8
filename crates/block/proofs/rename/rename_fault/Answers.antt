-- With the lengths that are read, the table is that of its two paths.
use Rattle.block.specs.Fields.{body_length}
use Rattle.block.proofs.rename.rename_fault.Goals as goal

pub returns : goal.returns
unfolding body_length
returns c = rw (← c.read_u16-n.ensures, ← c.read_u16-m.ensures) c.paths_fault.ensures
