-- `runs::is_kept` meets its contract: the extent keeps a position where its range has begun and not ended. Assumes nothing.
use Rattle.std.proofs.Common.{rules, tests}
use Rattle.extent.specs.inner.Ranges.{range_start, range_end}
use Rattle.runs.specs.Positions.{keeps}
use Rattle.runs.proofs.is_kept.Goals as goal

pub returns-then-le : goal.returns-then-le
unfolding keeps range_start range_end
returns-then-le c = search (rules, tests)

pub returns-else-le : goal.returns-else-le
unfolding keeps range_start range_end
returns-else-le c = search (rules, tests)
