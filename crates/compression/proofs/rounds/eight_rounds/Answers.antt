use Rattle.std.proofs.Common.{◌+◌, ◌-◌, arith}
use Rattle.fips180.specs.Constants.{K}
use Rattle.compression.proofs.InTurns.{round_turn, no_rounds}
use Rattle.compression.proofs.rounds.eight_rounds.Goals as goal

pub loop-i-preserved : goal.loop-i-preserved
unfolding K
loop-i-preserved c =
    let head = c.loop-i in
    round_turn head.v _ _ K c.args.schedule.now head.i (c.args.t + 8 - head.i) (c.args.t + 8 - (head.i + 1))
    (omega arith) (omega arith) (omega arith) c.one_round-v.ensures head.invariant

pub returns : goal.returns
returns c =
    let head = c.loop-i in
    no_rounds head.v _ K c.args.schedule.now head.i (c.args.t + 8 - head.i) (omega arith) head.invariant
