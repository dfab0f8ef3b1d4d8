-- Each test of the code is a check of the table, in the same order.
use Rattle.checks.proofs.Laws.{decided}
use Rattle.checks.proofs.Tests.{walks}
use Rattle.volume.specs.Writing.{write_fault}
use Rattle.volume.proofs.heading.write_fault.Goals as goal

pub returns-then-id-ne-ID_LEN-clause-fault : goal.returns-then-id-ne-ID_LEN-clause-fault
unfolding write_fault
returns-then-id-ne-ID_LEN-clause-fault c = decided (search walks depth 12)

pub returns-then-previous-ne-HASH_LEN-clause-fault : goal.returns-then-previous-ne-HASH_LEN-clause-fault
unfolding write_fault
returns-then-previous-ne-HASH_LEN-clause-fault c = decided (search walks depth 12)

pub returns-then-hash_wrong-clause-fault : goal.returns-then-hash_wrong-clause-fault
unfolding write_fault
returns-then-hash_wrong-clause-fault c = decided (search walks depth 12)

pub returns-then-room-lt-HEADER_LEN-clause-fault : goal.returns-then-room-lt-HEADER_LEN-clause-fault
unfolding write_fault
returns-then-room-lt-HEADER_LEN-clause-fault c = decided (search walks depth 12)

pub returns-clause-fault : goal.returns-clause-fault
unfolding write_fault
returns-clause-fault c = decided (search walks depth 12)
