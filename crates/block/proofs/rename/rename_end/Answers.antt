-- The variable parts are as long as their fields say.
use borrow.Author.Rules.{rules}
use Rattle.block.specs.Fields.{body_length}
use Rattle.block.proofs.rename.rename_end.Goals as goal

pub returns : goal.returns
unfolding body_length
returns c = search rules
