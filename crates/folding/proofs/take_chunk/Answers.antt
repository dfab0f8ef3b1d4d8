use mathlib.Core.Path.{◌≡◌, refl}
use native.Mathlib.Omega.{arith}
use lib.ListN.{length, take}
use lib.Seq.{take-length}
use Rattle.folding.proofs.Window.{holds_more}
use Rattle.folding.proofs.take_chunk.Goals as goal

pub loop-j-init : goal.loop-j-init
loop-j-init c = record { long = (omega arith); there = refl }

pub loop-j-preserved : goal.loop-j-preserved
loop-j-preserved c =
    let turn = c.loop-j in
    holds_more (take 300 c.args.buffer.now) c.args.chunk.now turn.buffer turn.j turn.invariant (omega arith) c.requires

pub returns : goal.returns
returns c =
    let end : c.loop-j.j ≡ length c.args.chunk.now = omega arith in
    rw (end, take-length) at c.loop-j.invariant
