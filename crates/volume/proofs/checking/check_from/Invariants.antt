-- What is left to check is the check from the bookmark reached. Each block takes at least a byte.
use Prim.Native.Nat.{◌-◌}
use mathlib.Core.Path.{◌≡◌}
use lib.ListN.{length}
use Rattle.volume.specs.inner.Check.{check_from}
use Rattle.volume.proofs.checking.check_from.Given as goal

abbrev pub invariant-loop-tables : goal.invariant-loop-tables
invariant-loop-tables l = check_from l.volume l.sequence l.initial.mark ≡ check_from l.volume l.sequence l.mark

abbrev pub decreases-loop-tables : goal.decreases-loop-tables
decreases-loop-tables l = length l.volume - l.mark.offset
