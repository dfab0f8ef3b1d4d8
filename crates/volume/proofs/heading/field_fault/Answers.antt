-- Each test of the code is a check of the table, in the same order.
use Rattle.checks.proofs.Laws.{decided}
use Rattle.checks.proofs.Tests.{walks}
use Rattle.volume.proofs.heading.field_fault.Goals as goal

pub returns-then-not-same_bytes : goal.returns-then-not-same_bytes
returns-then-not-same_bytes c = decided (search walks depth 12)

pub returns-then-read_u8-ne0 : goal.returns-then-read_u8-ne0
returns-then-read_u8-ne0 c = decided (search walks depth 12)

pub returns-then-read_u8-ne0-2 : goal.returns-then-read_u8-ne0-2
returns-then-read_u8-ne0-2 c = decided (search walks depth 12)

pub returns-then-read_u8-ne0-3 : goal.returns-then-read_u8-ne0-3
returns-then-read_u8-ne0-3 c = decided (search walks depth 12)

pub returns-then-sum_wrong : goal.returns-then-sum_wrong
returns-then-sum_wrong c = decided (search walks depth 12)

pub returns-then-hash_wrong : goal.returns-then-hash_wrong
returns-then-hash_wrong c = rw (← c.read_u64.ensures) (decided (search walks depth 12))

pub returns : goal.returns
returns c = rw (← c.read_u64.ensures) (decided (search walks depth 12))
