use native.Mathlib.Omega.{arith}
use Rattle.slicing.proofs.Entries.{rows_start, rows_more, rows_end}
use Rattle.slicing.proofs.fill_rows.Goals as goal

pub loop-i-init : goal.loop-i-init
loop-i-init c = (omega arith, rows_start _ c.requires)

pub loop-i-preserved : goal.loop-i-preserved
loop-i-preserved c =
    let loop = c.loop-i in
    (omega arith, rows_more _ loop.rows loop.i loop.invariant.1 _ (omega arith) (omega arith) c.byte_step.ensures)

pub returns : goal.returns
returns c = rows_end _ _ c.loop-i.i c.loop-i.invariant.1 (omega arith)
