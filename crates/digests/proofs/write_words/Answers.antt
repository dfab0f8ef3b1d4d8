use Rattle.std.proofs.Common.{arith, sym}
use Rattle.number.proofs.Put.{put_nothing}
use Rattle.format.specs.Layout.{laid}
use Rattle.digests.proofs.Crossing.{word_written}
use Rattle.digests.proofs.write_words.Goals as goal

pub loop-i-init : goal.loop-i-init
unfolding laid
loop-i-init c = sym (put_nothing c.args.state.now 0)

pub loop-i-preserved : goal.loop-i-preserved
loop-i-preserved c =
    word_written c.args.state.now c.args.words.now c.loop-i.i (omega arith) (omega arith) c.loop-i.invariant c.write_u32.ensures
