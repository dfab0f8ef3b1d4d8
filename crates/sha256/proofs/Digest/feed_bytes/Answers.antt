-- The bytes up to the end of the block, and then those after it.
use Rattle.std.proofs.Common.{arith}
use Rattle.sha256.proofs.Bytewise.{fed_after, made_in_two}
use Rattle.sha256.proofs.Digest.feed_bytes.Goals as goal

pub feed_aligned-requires-2 : goal.feed_aligned-requires-2
feed_aligned-requires-2 c =
    let cut = c.split_at in
    let fed = fed_after c.args.self c.feed_to_end.result cut.result.0.now c.feed_to_end.ensures in
    (omega (arith, fed, cut.ensures.front_len, cut.ensures.back_len), omega (arith, fed, cut.ensures.front_len, c.used-used.ensures))

pub returns : goal.returns
returns c =
    let cut = c.split_at in
    made_in_two c.args.self c.feed_to_end.result _ cut.result.0.now cut.result.1.now c.args.part.now
    cut.ensures.by_index.0 c.feed_to_end.ensures c.feed_aligned-2.ensures
