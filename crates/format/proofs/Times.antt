-- The time rule at its edge: a time may be the same as the last one, and may not be lower. Assumes nothing.
use Rattle.std.specs.Prelude.{Some}
use Prim.Native.Nat.{ℕ, ◌<◌}
use native.Mathlib.Omega.{arith}
use Rattle.format.specs.Readings.{TimeFollows}

pub same_time_follows : (time : ℕ) → TimeFollows (Some time) (Some time)
same_time_follows time = omega arith

pub lower_time_does_not_follow : (last time : ℕ) → time < last → TimeFollows (Some last) (Some time) → ⊥
lower_time_does_not_follow last time lower follows = omega arith
