-- The verdict of the check decides, and of a refused volume whether it is torn.
use Rattle.repair.specs.Repairing.{repaired, repair_answer}
use Rattle.repair.proofs.repair.Goals as goal

pub returns-in-Ok : goal.returns-in-Ok
unfolding repair_answer repaired
returns-in-Ok c = rw (← c.check.ensures, c.in-Ok.is)

pub returns-then-is_torn : goal.returns-then-is_torn
unfolding repair_answer repaired
returns-then-is_torn c =
    rw (← c.check.ensures, c.in-Err.is, ← c.read_u64-sequence.ensures, ← c.fault.ensures, ← c.is_torn.ensures, c.if-is_torn.true)

pub returns-else-is_torn : goal.returns-else-is_torn
unfolding repair_answer repaired
returns-else-is_torn c =
    rw (← c.check.ensures, c.in-Err.is, ← c.read_u64-sequence.ensures, ← c.fault.ensures, ← c.is_torn.ensures, c.if-is_torn.false)
