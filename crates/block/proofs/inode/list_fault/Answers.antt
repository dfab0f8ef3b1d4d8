-- The tests are the checks of 11, 11 and 12.
use borrow.Author.Rules.{rules}
use Rattle.checks.proofs.Laws.{decided}
use Rattle.checks.proofs.Tests.{told, walks}
use Rattle.block.proofs.inode.list_fault.Goals as goal

pub returns-then-list-ne0 : goal.returns-then-list-ne0
returns-then-list-ne0 c = decided (search walks)

pub returns-then-some_broken : goal.returns-then-some_broken
returns-then-some_broken c = decided (search walks)

pub some_overlap-requires : goal.some_overlap-requires
some_overlap-requires c = (told c.some_broken.ensures c.if-some_broken.false, search rules)

pub returns-then-some_overlap : goal.returns-then-some_overlap
returns-then-some_overlap c = decided (search walks)

pub returns : goal.returns
returns c = decided (search walks)
