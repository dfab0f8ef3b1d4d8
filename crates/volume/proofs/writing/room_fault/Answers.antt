-- Each test is a check of the time or the room, in the same order.
use Rattle.checks.proofs.Laws.{decided}
use Rattle.checks.proofs.Tests.{walks}
use Rattle.volume.proofs.writing.room_fault.Goals as goal

pub returns-then-not-may_follow : goal.returns-then-not-may_follow
returns-then-not-may_follow c = decided (search walks depth 12)

pub returns-then-runs_past : goal.returns-then-runs_past
returns-then-runs_past c = decided (search walks depth 12)

pub returns-then-runs_past-2 : goal.returns-then-runs_past-2
returns-then-runs_past-2 c = decided (search walks depth 12)

pub returns : goal.returns
returns c = decided (search walks depth 12)
