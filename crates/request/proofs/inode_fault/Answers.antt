-- The test is the check of 9; without that fault the checks of the n bytes decide, which one call answers.
use Rattle.checks.proofs.Laws.{decided}
use Rattle.checks.proofs.Tests.{told, walks}
use Rattle.request.proofs.inode_fault.Goals as goal

pub returns-then-is_too_long-clause-fault : goal.returns-then-is_too_long-clause-fault
returns-then-is_too_long-clause-fault c = decided (search walks)

pub rest_fault-requires : goal.rest_fault-requires
rest_fault-requires c = search told

pub returns-clause-fault : goal.returns-clause-fault
returns-clause-fault c = decided (search walks)
