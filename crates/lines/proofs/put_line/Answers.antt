-- Two stores where the list is long enough, else none.
use Prim.Native.Nat.{suc, ◌*◌}
use native.Mathlib.Omega.{arith}
use lib.ListN.{length, length-set}
use borrow.Author.Tests.{le-leb, lt-leb}
use Rattle.lines.specs.inner.Giving.{with_line}
use Rattle.lines.proofs.put_line.Goals as goal

pub bounds-out-at-then-at-out : goal.bounds-out-at-then-at-out
bounds-out-at-then-at-out c = rw length-set (omega arith)

pub returns-then-at-out : goal.returns-then-at-out
unfolding with_line
returns-then-at-out c = rw (le-leb (2 * suc c.args.lines) (length c.args.out.now) (omega arith))

pub returns-else-at-out : goal.returns-else-at-out
unfolding with_line
returns-else-at-out c = rw (lt-leb (2 * suc c.args.lines) (length c.args.out.now) (omega arith))
