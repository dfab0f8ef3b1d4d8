-- The links begin after the fixed fields and reach as far as their own lengths say.
use Rattle.block.specs.Fields.{body_length}
use Rattle.block.specs.inner.Decoded.{block_of}
use Rattle.block.proofs.table.decode_table.Goals as goal

pub returns : goal.returns
unfolding block_of body_length
returns c = rw (c.len_of_links-len.ensures, c.read_u64-count.ensures)
