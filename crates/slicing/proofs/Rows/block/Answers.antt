-- `block` meets its contract: sixteen bytes from four at a time.
use native.Mathlib.Omega.{arith}
use mathlib.Core.Path.{sym, ap₂, ◌∙◌}
use lib.Bits.{bit_xor}
use Rattle.slicing.proofs.Sliced.{sixteen_bytes}
use Rattle.slicing.proofs.Turns.{quarters}
use Rattle.slicing.proofs.Rows.block.Goals as goal

pub returns : goal.returns
returns c =
    let args = c.args in
    let cut = quarters args.bytes.now c.as_chunks.result.0.now (omega arith) c.as_chunks.ensures.front in
    ap₂ bit_xor
    (ap₂ bit_xor (ap₂ bit_xor (rw cut at c.word.ensures) (rw cut at c.word-2.ensures)) (rw cut at c.word-3.ensures))
    (rw cut at c.word-4.ensures)
    ∙ sym (sixteen_bytes args.self.now.filled.linear args.bytes.now args.register (omega arith))
