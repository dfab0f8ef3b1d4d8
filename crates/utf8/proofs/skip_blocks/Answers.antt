use Prim.Native.Nat.{◌+◌, ◌-◌}
use native.Mathlib.Omega.{arith}
use Rattle.utf8.proofs.Ascii.{run_none, run_join, run_part}
use Rattle.utf8.proofs.skip_blocks.Goals as goal

pub loop-i-init : goal.loop-i-init
loop-i-init c = run_none _ _ c.requires.0

pub returns-then-not-is_ascii : goal.returns-then-not-is_ascii
returns-then-not-is_ascii c = c.loop-i.invariant

pub loop-i-preserved : goal.loop-i-preserved
loop-i-preserved c =
    let a = c.args in
    let l = c.loop-i in
    run_join a.text.now a.at l.i (l.i + a.size) l.invariant
    (run_part a.text.now l.i (l.i + a.size) (l.i + a.size - l.i) (omega arith) (omega arith) (c.is_ascii.ensures c.if-not-is_ascii.false))

pub returns : goal.returns
returns c = c.loop-i.invariant
