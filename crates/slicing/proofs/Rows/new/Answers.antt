-- `new` meets its contract: the row stands in front, and the others are filled from it.
use Prim.Native.Nat.{ℕ}
use mathlib.Core.Path.{ap, ◌∙◌}
use lib.ListN.{replicate}
use Rattle.slicing.specs.inner.Slicing.{first_row}
use Rattle.slicing.proofs.Entries.{rows_first, rows_filled, rows_made}
use Rattle.slicing.proofs.Rows.new.Goals as goal

pub invariant_of-result : goal.invariant_of-result
invariant_of-result c =
    let made = rows_made _ _ (replicate {A = ℕ} 4096 0) c.requires.long c.copy_from_slice.ensures.after c.fill_rows.ensures in
    record { filled = rows_filled c.requires made }

pub returns : goal.returns
returns c =
    let made = rows_made _ _ (replicate {A = ℕ} 4096 0) c.requires.long c.copy_from_slice.ensures.after c.fill_rows.ensures in
    ap first_row made ∙ rows_first c.requires
