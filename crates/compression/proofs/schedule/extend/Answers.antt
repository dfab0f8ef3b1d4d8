use Rattle.std.proofs.Common.{◌+◌, arith}
use Rattle.compression.proofs.Extending.{extend_step, extend_end}
use Rattle.compression.proofs.schedule.extend.Goals as goal

pub loop-i-preserved : goal.loop-i-preserved
loop-i-preserved c =
    let head = c.loop-i in
    extend_step head.schedule _ head.i (c.args.t + 8) _ (omega arith) (omega arith) (omega arith) c.next_word.ensures head.invariant

pub returns : goal.returns
returns c = extend_end c.loop-i.schedule _ c.loop-i.i (c.args.t + 8) (omega arith) c.loop-i.invariant
