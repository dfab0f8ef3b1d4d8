-- `many_bytes` meets its contract: slicing takes what folding leaves as the register does.
use Rattle.crc32.proofs.Folded.{register_lent}
use Rattle.crc32.proofs.Tables.many_bytes.Goals as goal

pub returns : goal.returns
returns c = register_lent c.args.self.now.rows.entries c.args.bytes.now _ _ c.args.self.now.filled c.fold.ensures c.run.ensures
