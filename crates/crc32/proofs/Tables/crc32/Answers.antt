-- `crc32` meets its contract: slicing by the tables takes the bytes as the register does.
use mathlib.Core.Path.{◌∙◌}
use Rattle.crc32.specs.Crc.{register}
use Rattle.crc32.proofs.Laws.{complement}
use Rattle.crc32.proofs.Row.{fold_lent}
use Rattle.crc32.proofs.Tables.crc32.Goals as goal

pub returns-then-bytes-lt-MANY_BY_TABLES : goal.returns-then-bytes-lt-MANY_BY_TABLES
unfolding register
returns-then-bytes-lt-MANY_BY_TABLES c =
    complement _ _ (c.run.ensures ∙ fold_lent _ c.args.bytes.now _ c.args.self.now.filled)

pub returns-else-bytes-lt-MANY_BY_TABLES : goal.returns-else-bytes-lt-MANY_BY_TABLES
returns-else-bytes-lt-MANY_BY_TABLES c = complement _ _ c.many_bytes.ensures
