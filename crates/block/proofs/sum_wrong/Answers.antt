-- Both sides of the comparison are what the calls give.
use Rattle.block.specs.Order.{checksum_wrong}
use Rattle.block.proofs.sum_wrong.Goals as goal

pub returns : goal.returns
unfolding checksum_wrong
returns c = rw (c.read_u32.ensures, c.crc32_by.ensures)
