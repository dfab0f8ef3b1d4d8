-- By a linear row the register's step is linear.
use Prim.Native.Nat.{ℕ, ◌/◌, ◌%◌, ◌<◌}
use mathlib.Core.Path.{◌≡◌, sym, ap, ap₂, ◌∙◌}
use mathlib.Core.List.{List}
use native.Mathlib.Nat.{mod-eq_of_lt}
use native.Mathlib.Omega.{arith}
use lib.ListN.{get_or}
use lib.Bits.{bit_xor, xor_zero_r, xor_shr, xor_mod}
use Rattle.slicing.specs.inner.Slicing.{step, Linear}
use Rattle.slicing.proofs.Xor.{xor_right_comm, xor_four}

module _ (row : List ℕ) where
  -- a zero byte leaves the choice to the register's own low byte
  step_zero : (p : ℕ) → step row p 0 ≡ bit_xor (p / 256) (get_or row (p % 256) 0)
  unfolding step
  step_zero p = ap (λ (x : ℕ). bit_xor (p / 256) (get_or row (x % 256) 0)) (xor_zero_r p)

  -- a byte of the message meets the register's low byte alone
  pub step_byte : (p b : ℕ) → b < 256 → step row p b ≡ bit_xor (p / 256) (get_or row (bit_xor (p % 256) b) 0)
  unfolding step
  step_byte p b h =
      ap (λ (x : ℕ). bit_xor (p / 256) (get_or row x 0)) (xor_mod p b 8 ∙ ap (bit_xor (p % 256)) (mod-eq_of_lt h))

module _ {row : List ℕ} (linear : Linear row) where
  -- the entry that is chosen by a sum
  chosen_xor : (p q b : ℕ)
      → get_or row (bit_xor (bit_xor p q) b % 256) 0 ≡ bit_xor (get_or row (bit_xor p b % 256) 0) (get_or row (q % 256) 0)
  chosen_xor p q b =
      let first : bit_xor p b % 256 < 256 = omega arith in
      let second : q % 256 < 256 = omega arith in
      ap (λ (x : ℕ). get_or row x 0) (ap (λ (x : ℕ). x % 256) (xor_right_comm p q b) ∙ xor_mod (bit_xor p b) q 8)
      ∙ linear.sums (bit_xor p b % 256) (q % 256) first second

  pub step_xor : (p q b : ℕ) → step row (bit_xor p q) b ≡ bit_xor (step row p b) (step row q 0)
  unfolding step
  step_xor p q b =
      ap₂ bit_xor (xor_shr p q 8) (chosen_xor p q b)
      ∙ xor_four (p / 256) (q / 256) (get_or row (bit_xor p b % 256) 0) (get_or row (q % 256) 0)
      ∙ ap (bit_xor (step row p b)) (sym (step_zero row q))
