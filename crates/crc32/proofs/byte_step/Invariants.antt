-- `byte_step` meets its contract: the zero bits still to be taken are as many as the turns left,
-- and eight zero bits after the byte was added do what the byte's own eight bits do.
use Prim.Native.Nat.{◌-◌}
use mathlib.Core.Path.{◌≡◌}
use Rattle.crc32.proofs.Shift.{shifts}
use Rattle.crc32.proofs.byte_step.Given as goal

abbrev pub invariant-loop : goal.invariant-loop
invariant-loop l = shifts (8 - l.counter) l.next ≡ shifts 8 l.initial.next
