-- `word` meets its contract: each byte, with the byte of the register that it meets, by one entry of the rows.
use native.Mathlib.Omega.{arith}
use borrow.Author.Rules.{rules}
use Rattle.slicing.proofs.Sliced.{four_by_bytes}
use Rattle.slicing.proofs.Rows.word.Goals as goal

pub returns : goal.returns
returns c =
    let args = c.args in
    four_by_bytes args.self.now.filled.linear args.bytes.now _ args.after args.register _ _ _ _ c.to_le_bytes.ensures
    (omega arith) (search rules) (omega arith) c.look.ensures c.look-2.ensures c.look-3.ensures
    c.look-4.ensures
