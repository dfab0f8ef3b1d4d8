-- What the tables hold that are filled once and lent to every checksum of a walk. The contract of `crc32` does not name them.
use Rattle.std.specs.Prelude.{ℕ, List}
use Rattle.slicing.specs.inner.Slicing.{values, rows_from}
use Rattle.crc32.specs.Crc.{byte_step}

-- What each byte makes of a register of zero.
unfoldable pub crc_row : List ℕ
crc_row = values (byte_step 0) 0 256

-- The sixteen rows from there.
unfoldable pub crc_rows : List ℕ
crc_rows = rows_from crc_row
