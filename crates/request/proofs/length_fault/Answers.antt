-- The test is the check.
use Rattle.checks.proofs.Laws.{decided}
use Rattle.checks.proofs.Tests.{walks}
use Rattle.request.proofs.length_fault.Goals as goal

pub returns-then-most-bytes : goal.returns-then-most-bytes
returns-then-most-bytes c = decided (search walks)

pub returns : goal.returns
returns c = decided (search walks)
