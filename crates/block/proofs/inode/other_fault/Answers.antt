-- The two tests are the two checks of 11.
use Rattle.checks.proofs.Laws.{decided}
use Rattle.checks.proofs.Tests.{walks}
use Rattle.block.proofs.inode.other_fault.Goals as goal

pub returns-then-rest-ne0 : goal.returns-then-rest-ne0
returns-then-rest-ne0 c = decided (search walks)

pub returns-then-size-ne-BARE_SIZE : goal.returns-then-size-ne-BARE_SIZE
returns-then-size-ne-BARE_SIZE c = decided (search walks)

pub returns : goal.returns
returns c = decided (search walks)
