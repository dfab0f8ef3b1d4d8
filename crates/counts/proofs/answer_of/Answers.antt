-- The three answers are those of the definition, test by test.
use mathlib.Core.Path.{sym}
use native.Mathlib.Omega.{arith}
use Rattle.counts.proofs.Tallies.{answer_full, answer_deep, answer_sound}
use Rattle.counts.proofs.answer_of.Goals as goal

pub returns-then-room-lines : goal.returns-then-room-lines
returns-then-room-lines c = sym (answer_full _ _ (omega arith))

pub returns-then-count-eq1 : goal.returns-then-count-eq1
returns-then-count-eq1 c = sym (answer_deep _ _ (omega arith) (omega arith))

pub returns : goal.returns
returns c = sym (answer_sound _ _ (omega arith) (omega arith))
