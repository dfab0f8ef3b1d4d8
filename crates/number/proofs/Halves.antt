-- One byte read, and a number that was written read back. Assumes nothing.
use mathlib.Core.Path.{◌≡◌, sym, ap, ◌∙◌}
use mathlib.Core.List.{List}
use Prim.Native.Nat.{ℕ, ◌+◌, ◌^◌, ◌≤◌, ◌<◌}
use native.Mathlib.Omega.{arith}
use lib.ListN.{length, get_or}
use lib.Seq.{drop-cons}
use Rattle.number.specs.Number.{le, le_bytes, part, number_at, put}
use Rattle.number.proofs.Digits.{length-le_bytes, le-le_bytes}
use Rattle.number.proofs.Put.{part_put}

-- the number of one byte is that byte
pub read_one : (bytes : List ℕ) (at : ℕ) → at < length bytes → get_or bytes at 0 ≡ number_at bytes at 1
unfolding le
read_one bytes at h = rw (drop-cons bytes at 0) (omega arith)

-- a number written where it fits is read back
pub read_written : (old : List ℕ) (at width value : ℕ) → at + width ≤ length old → value < 256 ^ width
    → number_at (put old at (le_bytes width value)) at width ≡ value
read_written old at width value h k =
    let l : length (le_bytes width value) ≡ width = length-le_bytes width value in
    let f : at + length (le_bytes width value) ≤ length old = omega arith in
    ap (λ (n : ℕ). le (part (put old at (le_bytes width value)) at n)) (sym l)
    ∙ ap le (part_put old at (le_bytes width value) f) ∙ le-le_bytes width value k
