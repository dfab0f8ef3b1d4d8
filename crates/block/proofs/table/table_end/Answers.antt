-- The links reach as far as their own lengths say.
use native.Mathlib.Omega.{arith}
use Rattle.block.specs.Fields.{body_length}
use Rattle.block.proofs.table.table_end.Goals as goal

pub overflow_add-result : goal.overflow_add-result
unfolding body_length
overflow_add-result c = omega (arith, rw c.read_u64-count.ensures at c.len_of_links.ensures)

pub overflow_add-result-2 : goal.overflow_add-result-2
unfolding body_length
overflow_add-result-2 c = omega (arith, rw c.read_u64-count.ensures at c.len_of_links.ensures)

pub returns : goal.returns
unfolding body_length
returns c = rw (c.len_of_links.ensures, c.read_u64-count.ensures)
