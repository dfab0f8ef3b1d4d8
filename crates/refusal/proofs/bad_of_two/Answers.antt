-- The first text decides unless it is well-formed.
use native.Mathlib.Omega.{arith}
use Rattle.refusal.proofs.FirstBad.{first_of_two, second_of_two, at_most_one}
use Rattle.refusal.proofs.bad_of_two.Goals as goal

pub returns-then-bad-eq0 : goal.returns-then-bad-eq0
returns-then-bad-eq0 c = first_of_two _ _ c.bad_text-bad.ensures (omega arith)

pub overflow_add-result : goal.overflow_add-result
overflow_add-result c = omega (arith, at_most_one _ c.bad_text-later.ensures)

pub returns : goal.returns
returns c = second_of_two _ _ c.bad_text-bad.ensures (omega arith) c.bad_text-later.ensures
