-- `crc32` meets its contract: `!` is the complement.
use Rattle.crc32.proofs.Laws.{complement}
use Rattle.crc32.proofs.crc32.Goals as goal

pub returns-then-bytes-lt-MANY : goal.returns-then-bytes-lt-MANY
returns-then-bytes-lt-MANY c = complement _ _ c.few_bytes.ensures

pub returns-else-bytes-lt-MANY : goal.returns-else-bytes-lt-MANY
returns-else-bytes-lt-MANY c = complement _ _ c.many_bytes.ensures
