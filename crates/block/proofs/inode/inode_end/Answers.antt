-- The variable part is as long as its field says, and the block ends within the volume.
use native.Mathlib.Omega.{arith}
use borrow.Author.Rules.{rules}
use Rattle.block.specs.Fields.{body_length}
use Rattle.block.proofs.inode.inode_end.Goals as goal

pub overflow_add-result-2 : goal.overflow_add-result-2
unfolding body_length
overflow_add-result-2 c = omega arith

pub overflow_add-result-3 : goal.overflow_add-result-3
unfolding body_length
overflow_add-result-3 c = omega arith

pub returns : goal.returns
unfolding body_length
returns c = search rules
