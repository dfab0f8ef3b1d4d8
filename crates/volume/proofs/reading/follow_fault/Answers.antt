-- Each test is a check of what the block follows, in the same order.
use Rattle.checks.proofs.Laws.{decided}
use Rattle.checks.proofs.Tests.{walks}
use Rattle.volume.proofs.reading.follow_fault.Goals as goal

pub returns-then-not-may_follow : goal.returns-then-not-may_follow
returns-then-not-may_follow c = decided (search walks depth 12)

pub returns-then-count_full : goal.returns-then-count_full
returns-then-count_full c = decided (search walks depth 12)

pub returns : goal.returns
returns c = decided (search walks depth 12)
