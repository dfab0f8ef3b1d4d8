-- Each whole block is hashed as it would be byte by byte, and the last one is held, with the rest over it.
use Rattle.std.proofs.Common.{arith}
use Rattle.sha256.proofs.Bytewise.{made_aligned}
use Rattle.sha256.proofs.Digest.feed_aligned.Goals as goal

pub returns : goal.returns
returns c =
    let chunks = c.as_chunks.ensures in
    made_aligned c.args.self c.args.part.now _ _ _ _ _ (omega arith) c.requires.1 chunks.front chunks.back
    c.hash_blocks.ensures c.last_or.ensures c.laid.ensures
