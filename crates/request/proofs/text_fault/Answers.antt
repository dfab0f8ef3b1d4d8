-- The test is the check.
use Rattle.checks.proofs.Laws.{decided}
use Rattle.checks.proofs.Tests.{walks}
use Rattle.request.proofs.text_fault.Goals as goal

pub returns-then-not-is_text : goal.returns-then-not-is_text
returns-then-not-is_text c = decided (search walks)

pub returns : goal.returns
returns c = decided (search walks)
