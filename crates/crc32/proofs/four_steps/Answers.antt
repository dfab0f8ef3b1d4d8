-- `four_steps` meets its contract: four zero bytes after the four bytes were added do what these do.
use Prim.Native.Nat.{ℕ}
use native.Mathlib.Omega.{arith}
use borrow.Author.Rules.{rules}
use mathlib.Core.Path.{ap, ◌∙◌}
use Rattle.crc32.specs.Crc.{byte_step}
use Rattle.slicing.specs.inner.Slicing.{zeros}
use Rattle.crc32.proofs.AtOnce.{four_bytes}
use Rattle.crc32.proofs.four_steps.Goals as goal

pub returns : goal.returns
unfolding zeros
returns c =
    c.byte_step-4.ensures
    ∙ ap (λ (n : ℕ). byte_step n 0)
    (c.byte_step-3.ensures
    ∙ ap (λ (n : ℕ). byte_step n 0)
    (c.byte_step-2.ensures
    ∙ ap (λ (n : ℕ). byte_step n 0)
    c.byte_step.ensures))
    ∙ four_bytes c.args.bytes.now c.args.register _ (omega arith) (search rules) c.from_le_bytes.ensures
