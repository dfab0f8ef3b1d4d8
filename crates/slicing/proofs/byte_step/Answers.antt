-- `byte_step` meets its contract: it is the definition, but for the entry, which is read in the whole slice.
use Prim.Native.Nat.{ℕ, ◌/◌, ◌%◌}
use mathlib.Core.Path.{◌≡◌, sym, ap}
use mathlib.Core.List.{List}
use native.Mathlib.Omega.{arith}
use lib.ListN.{get_or}
use lib.Seq.{get_or-take}
use lib.Bits.{bit_xor}
use Rattle.slicing.specs.inner.Slicing.{step, first_row}
use Rattle.slicing.proofs.byte_step.Goals as goal

in-first-row : (slice : List ℕ) (register byte : ℕ)
    → bit_xor (register / 256) (get_or slice (bit_xor register byte % 256) 0) ≡ step (first_row slice) register byte
unfolding step
in-first-row slice register byte =
    ap (bit_xor (register / 256)) (sym (get_or-take 256 slice (bit_xor register byte % 256) 0 (omega arith)))

pub returns : goal.returns
returns c =
    let args = c.args in
    in-first-row args.rows.now args.register args.byte
