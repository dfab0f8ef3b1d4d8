-- `counts` has the tallies with twice as many levels as turns. Where the next level is the same, so are all above it.
use Prim.Native.Nat.{◌*◌}
use Rattle.counts.specs.inner.Counting.{Counted}
use Rattle.counts.proofs.count_levels.Given as goal

abbrev pub invariant-loop-pair : goal.invariant-loop-pair
invariant-loop-pair l = Counted l.index.parents.now l.index.children.now l.counts (2 * l._pair)
