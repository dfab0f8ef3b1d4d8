-- The two tests on the length come first, and then those of the fields.
use Rattle.checks.proofs.Laws.{decided}
use Rattle.checks.proofs.Tests.{walks}
use Rattle.volume.specs.Heading.{header_fault}
use Rattle.volume.proofs.heading.header_fault.Goals as goal

pub returns-then-volume-gt-VOLUME_LIMIT : goal.returns-then-volume-gt-VOLUME_LIMIT
unfolding header_fault
returns-then-volume-gt-VOLUME_LIMIT c = decided (search walks depth 12)

pub returns-then-volume-lt-HEADER_LEN : goal.returns-then-volume-lt-HEADER_LEN
unfolding header_fault
returns-then-volume-lt-HEADER_LEN c = decided (search walks depth 12)

pub returns : goal.returns
unfolding header_fault
returns c = decided (search walks depth 12)
