-- The two tests are the checks of 10 and 11.
use Rattle.checks.proofs.Laws.{decided}
use Rattle.checks.proofs.Tests.{walks}
use Rattle.block.proofs.inode.target_fault.Goals as goal

pub returns-then-not-is_text : goal.returns-then-not-is_text
returns-then-not-is_text c = decided (search walks)

pub returns-then-size-target : goal.returns-then-size-target
returns-then-size-target c = decided (search walks)

pub returns : goal.returns
returns c = decided (search walks)
