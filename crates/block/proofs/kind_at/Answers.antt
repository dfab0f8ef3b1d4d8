-- By the kind that has the ID, or a table.
use Rattle.block.proofs.Ids.{kind_or_table}
use Rattle.block.proofs.kind_at.Goals as goal

pub returns : goal.returns
returns c = rw (c.unwrap_or.ensures, ← c.read_u8.ensures) (kind_or_table _ _ c.of.ensures)
