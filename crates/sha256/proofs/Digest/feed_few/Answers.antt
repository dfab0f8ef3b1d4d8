-- No byte of these fills the block.
use Rattle.std.proofs.Common.{arith}
use Rattle.sha256.proofs.Bytewise.{made_few}
use Rattle.sha256.proofs.Digest.feed_few.Goals as goal

pub returns : goal.returns
returns c = made_few c.args.self c.args.part.now _ _ (omega arith) c.requires.1 c.used.ensures c.laid.ensures
