-- There are no checks.
use Rattle.checks.specs.Checks.{clear}
use Rattle.checks.proofs.Laws.{decided}
use Rattle.request.proofs.data_fault.Goals as goal

pub returns-clause-fault : goal.returns-clause-fault
returns-clause-fault c = decided clear
