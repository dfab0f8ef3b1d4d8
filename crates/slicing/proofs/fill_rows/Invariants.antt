-- `fill_rows` meets its contract: before each turn the entries before place i stand.
use Prim.Native.Nat.{◌≤◌}
use Rattle.slicing.specs.inner.Slicing.{first_row}
use Rattle.slicing.proofs.Entries.{RowsUpTo}
use Rattle.slicing.proofs.fill_rows.Given as goal

abbrev pub invariant-loop-i : goal.invariant-loop-i
invariant-loop-i l = (256 ≤ l.i) × RowsUpTo (first_row l.initial.rows) l.rows l.i
