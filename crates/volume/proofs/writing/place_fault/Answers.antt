-- Each test is a check of the place, in the same order.
use Rattle.checks.proofs.Laws.{decided}
use Rattle.checks.proofs.Tests.{walks}
use Rattle.volume.proofs.writing.place_fault.Goals as goal

pub returns-then-mark-lt-HEADER_LEN : goal.returns-then-mark-lt-HEADER_LEN
returns-then-mark-lt-HEADER_LEN c = decided (search walks depth 12)

pub returns-then-mark-table : goal.returns-then-mark-table
returns-then-mark-table c = decided (search walks depth 12)

pub returns-then-count_full : goal.returns-then-count_full
returns-then-count_full c = decided (search walks depth 12)

pub returns : goal.returns
returns c = decided (search walks depth 12)
