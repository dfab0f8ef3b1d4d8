-- The counts from `i` on follow from those below.
use lib.ListN.{length}
use Rattle.counts.specs.inner.Counting.{Follows}
use Rattle.counts.proofs.count_level.Given as goal

abbrev pub invariant-loop-i : goal.invariant-loop-i
invariant-loop-i l = Follows l.index.nexts.now l.index.firsts.now l.below l.counts (length l.index.parents.now) l.i
