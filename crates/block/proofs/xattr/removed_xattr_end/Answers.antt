-- The name is as long as its field says.
use borrow.Author.Rules.{rules}
use Rattle.block.specs.Fields.{body_length}
use Rattle.block.proofs.xattr.removed_xattr_end.Goals as goal

pub returns : goal.returns
unfolding body_length
returns c = search rules
