use Prim.Native.Nat.{suc, ◌+◌, ◌-◌, ◌<◌}
use mathlib.Core.Path.{◌≡◌, sym, ◌∙◌}
use native.Mathlib.Omega.{arith}
use Rattle.crc32.proofs.Shift.{shifts, byte_shifts}
use Rattle.crc32.proofs.byte_step.Goals as goal

pub loop-preserved : goal.loop-preserved
unfolding shifts
loop-preserved c =
    let turn = c.loop.counter in
    let left : 8 - turn ≡ suc (8 - (turn + 1)) = omega arith in
    rw c.bit_step-next.ensures (rw left at c.loop.invariant)

pub returns : goal.returns
unfolding shifts
returns c =
    let args = c.args in
    let none : 8 - c.loop.counter ≡ 0 = omega arith in
    let small : args.byte < 256 = omega arith in
    (rw none at c.loop.invariant) ∙ sym (byte_shifts args.register args.byte small)
