-- The links stand from the offset to the end.
use Rattle.number.proofs.Parts.{part_onward}
use Rattle.block.proofs.table.len_of_links.Goals as goal

pub returns : goal.returns
returns c = rw part_onward at c.links_len.ensures
