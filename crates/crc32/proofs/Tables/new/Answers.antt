-- `new` meets its contract: the first row is linear, and the rows follow from it.
use mathlib.Core.Path.{sym, subst}
use Rattle.slicing.specs.inner.Slicing.{Linear}
use Rattle.crc32.proofs.Row.{row_linear, rows_made}
use Rattle.crc32.proofs.Tables.new.Goals as goal

pub new-requires : goal.new-requires
new-requires c = subst Linear (sym c.first_row.ensures) row_linear

pub invariant_of-result : goal.invariant_of-result
invariant_of-result c = record { filled = rows_made _ _ c.first_row.ensures c.new.ensures c.new.result.filled }
