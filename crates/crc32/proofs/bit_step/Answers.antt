-- `bit_step` meets its contract: the bit shifted out is 1, and the polynomial is added, or it is 0, and nothing is added.
use Prim.Native.Nat.{ℕ, ◌+◌, ◌*◌, ◌/◌, ◌%◌}
use mathlib.Core.Path.{◌≡◌, sym, ap, ◌∙◌}
use native.Mathlib.Omega.{arith}
use lib.Bits.{bit_xor, xor_zero_r}
use Rattle.crc32.specs.Crc.{bits, reversed, polynomial, bit_step}
use Rattle.crc32.proofs.bit_step.Goals as goal

shifted_out : (r bit : ℕ) → bit ≡ (r + 0) % 2 → bit_xor (r / 2) (bit * polynomial) ≡ bit_step r 0
unfolding bit_step
shifted_out r bit = ap (λ (b : ℕ). bit_xor (r / 2) (b * polynomial))

pub returns-then-register-eq1 : goal.returns-then-register-eq1
unfolding bits reversed polynomial
returns-then-register-eq1 c = shifted_out c.args.register 1 (omega arith)

pub returns-else-register-eq1 : goal.returns-else-register-eq1
unfolding bits reversed polynomial
returns-else-register-eq1 c =
    let r = c.args.register in
    sym (xor_zero_r (r / 2)) ∙ shifted_out r 0 (omega arith)
