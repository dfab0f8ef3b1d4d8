-- A tally is odd where a line of it is too deep: then it is kept as it is, and else the two are added.
use native.Mathlib.Omega.{arith}
use Rattle.counts.proofs.Tallies.{joined_odd, joined_even}
use Rattle.counts.proofs.join_counts.Goals as goal

pub returns-then-inside-eq1 : goal.returns-then-inside-eq1
returns-then-inside-eq1 c = omega (arith, joined_odd c.args.inside c.args.behind (omega arith), c.min.ensures)

pub returns : goal.returns
returns c = omega (arith, joined_even c.args.inside c.args.behind (omega arith), c.min-2.ensures)
