-- With fewer zero bits the padded message would not end with a block. Assumes nothing.
use Prim.Native.Nat.{ℕ}
use native.Mathlib.Omega.{arith}
use Rattle.fips180.specs.Claimed.{FewestZeros}

pub fewest_zeros : (len : ℕ) → FewestZeros len
fewest_zeros len = record { solves = omega arith; fewest = λ k h. omega arith }
