-- The part from `offset` to `end` has `covered` bytes.
use Prim.Native.Nat.{ℕ, ◌+◌, ◌-◌}
use mathlib.Core.Path.{◌≡◌, ap, ◌∙◌}
use native.Mathlib.Omega.{arith}
use Rattle.number.specs.Number.{le_bytes, part, put}
use Rattle.crc32.specs.Crc.{crc}
use Rattle.encode.proofs.seal.Goals as goal

pub overflow_add-end : goal.overflow_add-end
overflow_add-end c = omega arith

pub returns : goal.returns
returns c =
    let a = c.args in
    let n : a.offset + a.covered - a.offset ≡ a.covered = omega arith in
    let sum = c.crc32-sum.ensures ∙ ap (λ (len : ℕ). crc (part a.buf.now a.offset len)) n in
    c.write_u32.ensures ∙ ap (λ (value : ℕ). put a.buf.now (a.offset + a.covered) (le_bytes 4 value)) sum
