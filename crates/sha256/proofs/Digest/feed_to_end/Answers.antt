-- The last byte fills the block, and no other.
use Rattle.std.proofs.Common.{arith}
use Rattle.sha256.proofs.Bytewise.{made_full}
use Rattle.sha256.proofs.Digest.feed_to_end.Goals as goal

pub returns : goal.returns
returns c =
    made_full c.args.self c.args.part.now _ _ _ _ (omega arith) c.requires.1.0 c.requires.1.1
    c.used.ensures c.laid-held.ensures c.from_ref.ensures.value c.hash_blocks.ensures
