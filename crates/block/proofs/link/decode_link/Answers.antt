-- Each field is what its reading gives, and the name begins after the fixed fields.
use Rattle.block.proofs.link.decode_link.Goals as goal

pub returns : goal.returns
returns c = rw (c.read_u64.ensures, c.read_u64-2.ensures, c.read_u64-3.ensures, c.read_u16.ensures)
